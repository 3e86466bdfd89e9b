-- "The steady search takes two pictures, a window and a shift, and gives the first cell in row order whose voice answer is Steady, or None".
-- Assumes nothing.
use Rattle.std.specs.Prelude.{ℕ, zero, suc, Bool, true, false, List, [], ◌∷◌, ◌++◌, ℤ}
use Rattle.std.proofs.Math.Option.{Option, none, some}
use Rattle.spec_picture.specs.Refusal.{Outcome, Check, refusal, outcome}
use Rattle.spec_picture.specs.declared.Window.{Window}
use Rattle.spec_picture.specs.declared.Frame.{Frame}
use Rattle.spec_picture.specs.declared.Cell.{Cell}
use Rattle.spec_picture.specs.Frame.{cell}
use Rattle.spec_picture.specs.declared.Shift.{Shift}
use Rattle.spec_picture.specs.Picture.{Inputs, inputs}
use Rattle.spec_picture.specs.Conditions.{picture_checks, check3, check4, check11}
use Rattle.spec_statistics.specs.SixSums.{six_sums}
use Rattle.spec_statistics.specs.Voice.{Voice, empty, steady, grainy, voice}

abbrev pub is_steady : Voice → Bool
is_steady empty = false
is_steady (steady level) = true
is_steady (grainy level spread) = false

-- the first of the n columns from j on whose cell passes the test; then the first of the n rows from i on that has one
unfoldable pub find_column : (ℕ → Bool) → (j n : ℕ) → Option ℕ
find_column test j zero = none
find_column test j (suc n) = elim (test j) [ true ↦ some j | false ↦ find_column test (suc j) n ]

unfoldable pub or_else : ℕ → Option ℕ → Option Cell → Option Cell
or_else i (some j) later = some (cell i j)
or_else i none later = later

-- "in row order"
unfoldable pub find_cell : (ℕ → ℕ → Bool) → (columns i n : ℕ) → Option Cell
find_cell test columns i zero = none
find_cell test columns i (suc n) = or_else i (find_column (test i) 0 columns) (find_cell test columns (suc i) n)

-- the first steady cell
unfoldable pub first_steady : Inputs → Option Cell
first_steady x = find_cell (λ i j. is_steady (voice (six_sums x i j))) x.source.frame.columns 0 x.source.frame.rows

-- 1 to 4, and 11: the inputs' checks but the plane's
abbrev pub steady_checks : Frame → (f g : List ℤ) → Window → Shift → List Check
steady_checks z f g w d = picture_checks z f g ++ (check3 w ∷ check4 d ∷ check11 z w ∷ [])

-- the inputs have plane 0 for want of one; `six_sums` takes its own
unfoldable pub steady_call : Frame → (f g : List ℤ) → Window → Shift → Outcome (Option Cell)
steady_call z f g w d = outcome (refusal (steady_checks z f g w d)) (first_steady (inputs z f g w d 0))
