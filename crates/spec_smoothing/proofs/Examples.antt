-- Worked examples of smoothing and of the steady search.
-- Assumes nothing.
use mathlib.Core.Path.{◌≡◌, refl}
use mathlib.Core.List.{List, [], ◌∷◌}
use mathlib.Core.Option.{Option, none, some}
use lib.IntN.{ℤ, pos, negsuc}
use Rattle.numbers.specs.Sum.{sum_to, pick}
use Rattle.numbers.specs.Grid.{tabulate, rows_from}
use Rattle.numbers.specs.Round.{floor_div, nearest}
use Rattle.spec_picture.specs.Refusal.{Outcome, refused, answered, refusal, outcome, filling}
use Rattle.spec_picture.specs.declared.Cell.{Cell}
use Rattle.spec_picture.specs.declared.Shift.{Shift}
use Rattle.spec_picture.specs.declared.Window.{Window}
use Rattle.spec_picture.specs.Frame.{frame, cell, frame_legal, in_range}
use Rattle.spec_picture.specs.Window.{window, rectangle_legal, diamond_legal, window_legal, shape_of, height, reach}
use Rattle.spec_picture.specs.Picture.{shift, no_shift, shift_legal, counts, plane_value, plane_at}
use Rattle.spec_picture.specs.Direct.{window_sum, direct_sum}
use Rattle.spec_statistics.specs.Moments.{mean}
use Rattle.spec_statistics.specs.Voice.{voice}
use Rattle.spec_smoothing.specs.Smoothing.{smoothed, smooth_call}
use Rattle.spec_smoothing.specs.Steady.{find_column, or_else, find_cell, first_steady, steady_call}

-- ---- smoothing
-- 1 2 6 / -1 -2 -6 over one row and three columns; at the border two cells count: 3/2 is 2, and -3/2 is -1
pub smoothed-rows :
    smooth_call (frame 2 3) (pos 1 ∷ pos 2 ∷ pos 6 ∷ negsuc 0 ∷ negsuc 1 ∷ negsuc 5 ∷ []) (window 1 (pos 0) (pos 1)) (pos 9 ∷ pos 9 ∷ pos 9 ∷ pos 9 ∷ pos 9 ∷ pos 9 ∷ []) ≡
    record { answer = answered tt; area = pos 2 ∷ pos 3 ∷ pos 4 ∷ negsuc 0 ∷ negsuc 2 ∷ negsuc 3 ∷ [] }
unfolding smooth_call smoothed filling mean nearest floor_div direct_sum window_sum plane_at plane_value counts in_range shape_of height reach window_legal rectangle_legal frame_legal refusal rows_from tabulate sum_to pick
smoothed-rows = refl

-- ---- the search
-- 1 2 2 / 4 4 4
abbrev steps : List ℤ
steps = pos 1 ∷ pos 2 ∷ pos 2 ∷ pos 4 ∷ pos 4 ∷ pos 4 ∷ []

abbrev search : Window → Shift → Outcome (Option Cell)
search w d = steady_call (frame 2 3) steps steps w d

-- over one row and three columns the last cell of row 0 comes first, though row 1 is steady from its first cell on; over a diamond none is steady
pub grainy-passed :
    (search (window 1 (pos 0) (pos 1)) no_shift ≡ answered (some (cell 0 2))) × (search (window 2 (pos 1) (pos 0)) no_shift ≡ answered none)
unfolding steady_call first_steady find_cell find_column or_else outcome voice direct_sum window_sum plane_at plane_value counts in_range shape_of height reach window_legal rectangle_legal diamond_legal frame_legal shift_legal refusal sum_to pick
grainy-passed = (refl, refl)

-- a shift of one row up leaves row 0 empty, so that row 1 has the first; one of two rows down leaves every cell empty; one of 256 rows is refused
pub empty-passed :
    (search (window 1 (pos 0) (pos 1)) (shift (negsuc 0) (pos 0)) ≡ answered (some (cell 1 0))) × (search (window 1 (pos 0) (pos 1)) (shift (pos 2) (pos 0)) ≡ answered none) ×
    (search (window 1 (pos 0) (pos 1)) (shift (pos 256) (pos 0)) ≡ refused 4)
unfolding steady_call first_steady find_cell find_column or_else outcome voice direct_sum window_sum plane_at plane_value counts in_range shape_of height reach window_legal rectangle_legal frame_legal shift_legal refusal sum_to pick
empty-passed = (refl, refl, refl)
