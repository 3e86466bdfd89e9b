-- `statistics::rounding::nearest` meets its contract. Assumes nothing.
use mathlib.Core.Path.{◌≡◌, refl}
use Prim.Native.Nat.{ℕ}
use native.Mathlib.Omega.{arith}
use lib.IntN.{ℤ, pos, negsuc}
use mir.Facts.{to_z-of_z}
use Rattle.std.proofs.lemmas.Int.{ints}
use Rattle.std.specs.Int.{int_div_euclid}
use Rattle.numbers.specs.Round.{floor_div, nearest}
use Rattle.statistics.proofs.rounding.nearest.Goals as goal

floor-is : (x : ℤ) (d : ℕ) → int_div_euclid x (pos d) ≡ floor_div x d
unfolding floor_div
floor-is (pos n) d = refl
floor-is (negsuc n) d = refl

pub returns : goal.returns
unfolding nearest
returns c = grind (arith, ints, to_z-of_z, floor-is)
