-- Levels as signed numbers: how large they are, and that a product of two fits 32 bits.
-- Assumes nothing.
use Prim.Native.Nat.{◌≤◌}
use native.Mathlib.Omega.{arith}
use native.Mathlib.Nat.{mul-le-mul}
use lib.IntN.{ℤ, nat_abs, ◌*ℤ◌}
use lib.Signed.{nat_abs-le}
use mir.Syntax.{w16, w32}
use mir.Val.{SFits}
use Rattle.numbers.proofs.Magnitudes.{fits-at, size-mul}

pub level-size : (z : ℤ) → SFits w16 z → nat_abs z ≤ 32768
level-size z f = nat_abs-le z f.sfits

pub product-fits : (x y : ℤ) → SFits w16 x → SFits w16 y → SFits w32 (x *ℤ y)
product-fits x y f g = fits-at w32 (x *ℤ y) (omega (arith, size-mul x y, mul-le-mul (level-size x f) (level-size y g)))
