-- "Direct sum: from pictures, window, shift, plane and cell, the sum of the plane over the window."
-- Assumes nothing.
use Rattle.std.specs.Prelude.{ℕ, List, [], ◌∷◌, ◌++◌, ℤ}
use Rattle.numbers.specs.Sum.{sum_to, pick}
use Rattle.spec_picture.specs.Refusal.{Outcome, Check, refusal, outcome}
use Rattle.spec_picture.specs.declared.Frame.{Frame}
use Rattle.spec_picture.specs.Window.{Shape, shape_of, holds}
use Rattle.spec_picture.specs.Picture.{Inputs, plane_at}
use Rattle.spec_picture.specs.Conditions.{input_checks, check6}

-- the sum over the picture's cells that the window on (i, j) holds
unfoldable pub window_sum : Frame → Shape → (ℕ → ℕ → ℤ) → (i j : ℕ) → ℤ
window_sum z s P i j = sum_to z.rows (λ m. sum_to z.columns (λ n. pick (holds z s i j m n) (P m n)))

-- the direct sum at the cell (i, j)
unfoldable pub direct_sum : Inputs → (i j : ℕ) → ℤ
direct_sum x i j = window_sum x.source.frame (shape_of x.window) (plane_at x.source) i j

-- the call takes the inputs and a cell: 1 to 5, 11 and 6
abbrev pub direct_checks : Inputs → (i j : ℕ) → List Check
direct_checks x i j = input_checks x ++ (check6 x.source.frame i j ∷ [])

unfoldable pub direct_call : Inputs → (i j : ℕ) → Outcome ℤ
direct_call x i j = outcome (refusal (direct_checks x i j)) (direct_sum x i j)
