-- "Row session": the work area's recurrence, the output rows, and the call.
-- Assumes nothing.
use Rattle.std.specs.Prelude.{◌≡◌, ℕ, zero, suc, ◌+◌, ◌*◌, ◌-◌, List, [], ◌∷◌, ◌++◌, leb, ltb, length, get_or, ℤ, pos, ◌+ℤ◌, ◌-ℤ◌}
use Rattle.std.proofs.Math.Option.{Option, none, some}
use Rattle.numbers.specs.Sum.{sum_to, pick}
use Rattle.numbers.specs.Grid.{tabulate}
use Rattle.numbers.specs.Wrap.{wrap}
use Rattle.spec_picture.specs.Refusal.{Outcome, Check, refused, answered, refusal}
use Rattle.spec_picture.specs.Window.{Shape, rectangle, slanted, shape_of, width, depth}
use Rattle.spec_picture.specs.declared.Frame.{Frame}
use Rattle.spec_picture.specs.Frame.{row_gap, column_gap}
use Rattle.spec_picture.specs.Picture.{Inputs, plane_at}
use Rattle.spec_picture.specs.Conditions.{input_checks, check7, check8}
use Rattle.spec_picture.specs.Direct.{window_sum}

-- "the column sums over rows i-a to i+a", at column n
unfoldable pub column_sum : Frame → (ℕ → ℕ → ℤ) → (a i n : ℕ) → ℤ
column_sum z P a i n = sum_to z.rows (λ m. pick (leb (row_gap z i m) a) (P m n))

-- the cell d rows below row i, and d rows above it: "A cell outside the picture gives 0."
unfoldable pub cell_below : Frame → (ℕ → ℕ → ℤ) → (i d n : ℕ) → ℤ
cell_below z P i d n = pick (ltb (i + d) z.rows) (P (i + d) n)

unfoldable pub cell_above : Frame → (ℕ → ℕ → ℤ) → (i d n : ℕ) → ℤ
cell_above z P i d n = pick (leb d i) (pick (ltb (i - d) z.rows) (P (i - d) n))

-- from row i to i+1, at half height d: the cell of row i+1+d enters, that of row i-d leaves
unfoldable pub enter_leave : Frame → (ℕ → ℕ → ℤ) → (i d n : ℕ) → ℤ
enter_leave z P i d n = cell_below z P (suc i) d n -ℤ cell_above z P i d n

-- "after a granted row i the work area holds, for a rectangle, the column sums over rows i-a to i+a; for the others, the window sums of row i"
unfoldable pub work_value : Frame → (ℕ → ℕ → ℤ) → Shape → (i j : ℕ) → ℤ
work_value z P (rectangle a b) i j = column_sum z P a i j
work_value z P (slanted o) i j = window_sum z (slanted o) P i j

-- what column j adds from row i to i+1: for the others, once for each column j+q of the picture with q from -(k+h) to k+h
unfoldable pub work_change : Frame → (ℕ → ℕ → ℤ) → Shape → (i j : ℕ) → ℤ
work_change z P (rectangle a b) i j = enter_leave z P i a j
work_change z P (slanted o) i j = sum_to z.columns (λ n. pick (leb (column_gap z j n) (width (slanted o))) (enter_leave z P i (depth (slanted o) (column_gap z j n)) n))

-- the work area after the row at a position: "At position 0 the work area is not read"; later it "follows the same recurrence, and its sums wrap at 64 bits"
unfoldable pub work_after : Frame → (ℕ → ℕ → ℤ) → Shape → (position : ℕ) → List ℤ → List ℤ
work_after z P s zero work = tabulate z.columns (work_value z P s 0)
work_after z P s (suc i) work = tabulate z.columns (λ j. wrap (get_or work j (pos 0) +ℤ work_change z P s i j))

-- "a rectangle's output at column j is the wrapped sum of the new work area over columns j-b to j+b inside the picture", or round its edge where columns wrap; "for the others
-- the output row is the new work area"
unfoldable pub output_row : Frame → Shape → List ℤ → List ℤ
output_row z (rectangle a b) work = tabulate z.columns (λ j. wrap (sum_to z.columns (λ n. pick (leb (column_gap z j n) b) (get_or work n (pos 0)))))
output_row z (slanted o) work = work

-- the work area and the joined output rows after n rows from a position
pub record Strip : Type 0 where
  pub work : List ℤ
  pub output : List ℤ

unfoldable pub strip : Frame → (ℕ → ℕ → ℤ) → Shape → (position n : ℕ) → List ℤ → Strip
strip z P s position zero work = record { work = work; output = [] }
strip z P s position (suc n) work =
    let next = work_after z P s position work in
    let rest = strip z P s (suc position) n next in
    record { work = rest.work; output = output_row z s next ++ rest.output }

-- both areas hold what the strip says
pub record Advanced (r : Strip) (work output : List ℤ) : Type 0 where
  pub work_is : work ≡ r.work
  pub output_is : output ≡ r.output

-- what a call of the session leaves: its answer, the position, the work area and the output area
pub record RowOutcome : Type 0 where
  pub answer : Outcome ℕ
  pub position : ℕ
  pub work : List ℤ
  pub output : List ℤ

-- the row call takes all inputs, position, request, work and output area: 1, 2, 3, 4, 5, 11, 7, 8
abbrev pub row_checks : Inputs → (position request : ℕ) → (work output : List ℤ) → List Check
row_checks x position request work output =
    input_checks x ++ (check7 x.source.frame position request ∷ check8 x.source.frame.columns (length work) ∷ check8 (request * x.source.frame.columns) (length output) ∷ [])

-- "It writes the sums of the next n rows, moves the position on by n and answers n"; refused, "every lent buffer and the position keep their bytes"
unfoldable pub row_result : Inputs → Option ℕ → (position request : ℕ) → (work output : List ℤ) → RowOutcome
row_result x (some k) position request work output = record { answer = refused k; position = position; work = work; output = output }
row_result x none position request work output =
    let r = strip x.source.frame (plane_at x.source) (shape_of x.window) position request work in
    record { answer = answered request; position = position + request; work = r.work; output = r.output }

unfoldable pub row_call : Inputs → (position request : ℕ) → (work output : List ℤ) → RowOutcome
row_call x position request work output = row_result x (refusal (row_checks x position request work output)) position request work output
