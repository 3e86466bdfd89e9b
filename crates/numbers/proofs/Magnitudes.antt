-- How large a sum, a difference and a product can be, and that an integer fits a signed width. Assumes nothing.
use mathlib.Core.Path.{◌≡◌, refl}
use Prim.Native.Nat.{ℕ, zero, suc, ◌+◌, ◌*◌, ◌^◌, ◌≤◌, ◌<◌}
use native.Mathlib.Omega.{arith}
use lib.IntN.{ℤ, pos, negsuc, neg_ℤ, nat_abs, ◌+ℤ◌, ◌-ℤ◌, ◌*ℤ◌}
use lib.Signed.{mag}
use mir.Syntax.{Width, w64}
use mir.Val.{SFits, hbits}
use Rattle.numbers.proofs.Integers.{up, dn, add-law, sub-lawℤ}

pub size : (x : ℤ) → nat_abs x ≡ up x + dn x
size (pos n) = omega arith
size (negsuc n) = omega arith

pub size-neg : (x : ℤ) → nat_abs (neg_ℤ x) ≡ nat_abs x
size-neg (pos zero) = refl
size-neg (pos (suc n)) = refl
size-neg (negsuc n) = refl

pub size-mul : (x y : ℤ) → nat_abs (x *ℤ y) ≡ nat_abs x * nat_abs y
size-mul (pos a) (pos b) = refl
size-mul (pos a) (negsuc b) = size-neg (pos (a * suc b))
size-mul (negsuc a) (pos b) = size-neg (pos (suc a * b))
size-mul (negsuc a) (negsuc b) = refl

only_one : (x : ℤ) (a b : ℕ) → up x + b ≡ a + dn x → nat_abs x ≤ a + b
only_one (pos n) a b h = omega arith
only_one (negsuc n) a b h = omega arith

pub size-add : (x y : ℤ) → nat_abs (x +ℤ y) ≤ nat_abs x + nat_abs y
size-add x y = omega (arith, only_one (x +ℤ y) (up x + up y) (dn x + dn y) (add-law x y), size x, size y)

pub size-sub : (x y : ℤ) → nat_abs (x -ℤ y) ≤ nat_abs x + nat_abs y
size-sub x y = omega (arith, only_one (x -ℤ y) (up x + dn y) (dn x + up y) (sub-lawℤ x y), size x, size y)

mag-size : (x : ℤ) → mag x ≤ nat_abs x
mag-size (pos n) = omega arith
mag-size (negsuc n) = omega arith

-- what is below half of a width's range fits it
pub fits-at : (w : Width) (x : ℤ) → nat_abs x < 2 ^ hbits w → SFits w x
fits-at w x h = record { sfits = omega (arith, mag-size x) }

pub fits64 : (x : ℤ) → nat_abs x < 2 ^ 63 → SFits w64 x
fits64 x h = fits-at w64 x h
