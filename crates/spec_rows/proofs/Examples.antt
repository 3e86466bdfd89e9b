-- Worked examples: row calls on a small picture, from a fresh session and with a foreign work area.
-- Assumes nothing.
use mathlib.Core.Path.{◌≡◌, refl}
use Prim.Native.Nat.{ℕ}
use mathlib.Core.List.{List, [], ◌∷◌}
use lib.IntN.{ℤ, pos, negsuc}
use Rattle.numbers.specs.Sum.{sum_to, pick}
use Rattle.numbers.specs.Grid.{tabulate}
use Rattle.numbers.specs.Wrap.{wrap}
use Rattle.spec_picture.specs.Refusal.{refused, answered, refusal}
use Rattle.spec_picture.specs.declared.Window.{Window}
use Rattle.spec_picture.specs.Frame.{frame, looped, frame_legal, in_range}
use Rattle.spec_picture.specs.Window.{window, rectangle_legal, diamond_legal, window_legal, rectangle, slanted, diamond, shape_of, width, depth}
use Rattle.spec_picture.specs.Picture.{no_shift, shift_legal, inputs, level_at, counts, plane_value, plane_at}
use Rattle.spec_rows.specs.Rows.{column_sum, cell_below, cell_above, enter_leave, work_value, work_change, work_after, output_row, strip, RowOutcome, row_result, row_call}

-- 1 2 / 3 4, plane 1
abbrev f : List ℤ
f = pos 1 ∷ pos 2 ∷ pos 3 ∷ pos 4 ∷ []

abbrev call : Window → (position request : ℕ) → (work output : List ℤ) → RowOutcome
call w = row_call (inputs (frame 2 2) f f w no_shift 1)

-- a rectangle of one row and three columns, and a diamond
abbrev wide : Window
wide = window 1 (pos 0) (pos 1)

abbrev diamond1 : Window
diamond1 = window 2 (pos 1) (pos 0)

abbrev granted : (position : ℕ) → (work output : List ℤ) → RowOutcome
granted p work output = record { answer = answered 1; position = p; work = work; output = output }

-- one row is granted: the first one of a fresh session, whatever the work area holds; and the second one of a foreign work area, which "follows the
-- same recurrence, and its sums wrap at 64 bits": 2 more a column, also past 2^63 - 1
pub one-row :
    (call wide 0 1 (pos 70 ∷ pos 80 ∷ []) (pos 0 ∷ pos 0 ∷ []) ≡ granted 1 (pos 1 ∷ pos 2 ∷ []) (pos 3 ∷ pos 3 ∷ [])) ×
    (call wide 1 1 (pos 70 ∷ pos 80 ∷ []) (pos 0 ∷ pos 0 ∷ []) ≡ granted 2 (pos 72 ∷ pos 82 ∷ []) (pos 154 ∷ pos 154 ∷ [])) ×
    (call diamond1 1 1 (pos 9223372036854775807 ∷ pos 80 ∷ []) (pos 0 ∷ pos 0 ∷ []) ≡ granted 2 (negsuc 9223372036854775806 ∷ pos 82 ∷ []) (negsuc 9223372036854775806 ∷ pos 82 ∷ []))
unfolding row_call row_result strip output_row work_after work_change work_value enter_leave cell_above cell_below column_sum plane_at plane_value counts in_range shape_of width depth window_legal rectangle_legal diamond_legal frame_legal shift_legal refusal wrap tabulate sum_to pick
one-row = (refl, refl, refl)

-- a work area or an output area of another length is 8, and the call changes nothing at all
pub other-lengths :
    (call wide 1 1 (pos 70 ∷ []) (pos 0 ∷ pos 0 ∷ []) ≡ record { answer = refused 8; position = 1; work = pos 70 ∷ []; output = pos 0 ∷ pos 0 ∷ [] }) ×
    (call wide 1 1 (pos 70 ∷ pos 80 ∷ []) (pos 0 ∷ []) ≡ record { answer = refused 8; position = 1; work = pos 70 ∷ pos 80 ∷ []; output = pos 0 ∷ [] }) ×
    (call wide 0 0 (pos 70 ∷ pos 80 ∷ []) (pos 0 ∷ []) ≡ record { answer = refused 8; position = 0; work = pos 70 ∷ pos 80 ∷ []; output = pos 0 ∷ [] })
unfolding row_call row_result window_legal rectangle_legal frame_legal shift_legal refusal
other-lengths = (refl, refl, refl)

-- a request past the last row is 7, before an output area of another length, 8
pub past-the-last : call wide 1 2 (pos 70 ∷ pos 80 ∷ []) [] ≡ record { answer = refused 7; position = 1; work = pos 70 ∷ pos 80 ∷ []; output = [] }
unfolding row_call row_result window_legal rectangle_legal frame_legal shift_legal refusal
past-the-last = refl

abbrev six : List ℤ
six = pos 1 ∷ pos 2 ∷ pos 3 ∷ pos 4 ∷ pos 5 ∷ pos 6 ∷ []

-- where columns wrap: "a rectangle's output" sums three numbers about each column of 1 2 3 4; from row 0 to row 1 of 1 2 3 / 4 5 6 a diamond of 1 gains 3 on either side of each column
pub round-rows :
    (output_row (looped 1 4) (rectangle 0 1) (pos 1 ∷ pos 2 ∷ pos 3 ∷ pos 4 ∷ []) ≡ pos 7 ∷ pos 6 ∷ pos 9 ∷ pos 8 ∷ []) ×
    (work_change (looped 2 3) (level_at (looped 2 3) six) (slanted (diamond 1)) 0 0 ≡ pos 6) × (work_change (looped 2 3) (level_at (looped 2 3) six) (slanted (diamond 1)) 0 2 ≡ pos 6) ×
    (work_change (frame 2 3) (level_at (frame 2 3) six) (slanted (diamond 1)) 0 0 ≡ pos 3)
unfolding output_row work_change enter_leave cell_above cell_below width depth wrap tabulate sum_to pick
round-rows = (refl, refl, refl, refl)
