-- "Smoothing takes one picture and a window, and writes the mean over the window at every cell to an output picture".
-- Assumes nothing.
use Rattle.std.specs.Prelude.{List, [], ◌∷◌, length, ℤ}
use Rattle.numbers.specs.Grid.{grid}
use Rattle.spec_picture.specs.Refusal.{Check, Filling, refusal, filling}
use Rattle.spec_picture.specs.declared.Window.{Window}
use Rattle.spec_picture.specs.declared.Frame.{Frame}
use Rattle.spec_picture.specs.Frame.{cells}
use Rattle.spec_picture.specs.Picture.{Inputs, inputs, no_shift}
use Rattle.spec_picture.specs.Conditions.{check1, check2, check3, check8, check11}
use Rattle.spec_statistics.specs.SixSums.{six_sums}
use Rattle.spec_statistics.specs.Moments.{mean}

-- "One picture alone is the case g = f with shift (0, 0)."
abbrev pub alone : Frame → List ℤ → Window → Inputs
alone z f w = inputs z f f w no_shift 0

-- the mean at every cell, row by row
unfoldable pub smoothed : Frame → List ℤ → Window → List ℤ
smoothed z f w = grid z.rows z.columns (λ i j. mean (six_sums (alone z f w) i j))

-- 1, 2, 3, 11, 8
abbrev pub smooth_checks : Frame → List ℤ → Window → List ℤ → List Check
smooth_checks z f w output = check1 z ∷ check2 z f ∷ check3 w ∷ check11 z w ∷ check8 (cells z) (length output) ∷ []

unfoldable pub smooth_call : Frame → List ℤ → Window → List ℤ → Filling
smooth_call z f w output = filling (refusal (smooth_checks z f w output)) output (smoothed z f w)
