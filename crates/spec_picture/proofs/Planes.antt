-- How large a plane's values are, and where they are 0.
-- Assumes nothing.
use mathlib.Core.Path.{◌≡◌, refl, ap}
use Prim.Native.Nat.{ℕ, zero, suc, ◌+◌, ◌*◌, ◌^◌, ◌≤◌}
use native.Mathlib.Omega.{arith}
use native.Mathlib.Nat.{mul-le-mul}
use mathlib.Core.Bool.{◌&&◌}
use lib.Dec.{ltb, ltb→lt}
use lib.IntN.{ℤ, pos, nat_abs, ◌+ℤ◌, ◌*ℤ◌}
use Rattle.numbers.specs.Sum.{pick}
use Rattle.numbers.proofs.Sums.{pick-bound, pick_no}
use Rattle.numbers.proofs.Tests.{and_left, and_right}
use Rattle.numbers.proofs.Magnitudes.{size-mul}
use lib.Signed.{nat_abs-le}
use Rattle.spec_picture.specs.Frame.{in_range, inside_g, row_at, column_at}
use Rattle.spec_picture.specs.Picture.{Source, source, Levels, counts, plane_value, plane_at, level_of, other_of}

pub product-bound : (x y : ℤ) → nat_abs x ≤ 32768 → nat_abs y ≤ 32768 → nat_abs (x *ℤ y) ≤ 2 ^ 30
product-bound x y h k = omega (arith, size-mul x y, mul-le-mul h k)

pub value-bound : (p : ℕ) (x y : ℤ) → nat_abs x ≤ 32768 → nat_abs y ≤ 32768 → nat_abs (plane_value p x y) ≤ 2 ^ 30
unfolding plane_value
value-bound zero x y h k = omega arith
value-bound (suc zero) x y h k = omega arith
value-bound (suc (suc zero)) x y h k = omega arith
value-bound (suc (suc (suc zero))) x y h k = product-bound x x h h
value-bound (suc (suc (suc (suc zero)))) x y h k = product-bound y y k k
value-bound (suc (suc (suc (suc (suc p))))) x y h k = product-bound x y h k

value-level : (p : ℕ) (x y : ℤ) → p ≤ 2 → nat_abs x ≤ 32768 → nat_abs y ≤ 32768 → nat_abs (plane_value p x y) ≤ 32768
unfolding plane_value
value-level zero x y l h k = omega arith
value-level (suc zero) x y l h k = h
value-level (suc (suc zero)) x y l h k = k
value-level (suc (suc (suc p))) x y l h k = absurd (omega arith)

module _ (x : Source) (hf : Levels x.f) (hg : Levels x.g) where
  pub level-bound : (m n : ℕ) → nat_abs (level_of x m n) ≤ 32768
  level-bound m n = nat_abs-le (level_of x m n) (hf.level (m * x.frame.columns + n))

  pub other-bound : (m n : ℕ) → nat_abs (other_of x m n) ≤ 32768
  other-bound m n = nat_abs-le (other_of x m n) (hg.level (row_at x.frame (pos m +ℤ x.shift.down) * x.frame.columns + column_at x.frame (pos n +ℤ x.shift.right)))

  pub plane-bound : (m n : ℕ) → nat_abs (plane_at x m n) ≤ 2 ^ 30
  unfolding plane_at
  plane-bound m n = omega (arith, pick-bound (counts x m n) (plane_value x.plane (level_of x m n) (other_of x m n)), value-bound x.plane (level_of x m n) (other_of x m n) (level-bound m n) (other-bound m n))

  -- planes 0, 1 and 2 have ones and levels
  pub plane-level : x.plane ≤ 2 → (m n : ℕ) → nat_abs (plane_at x m n) ≤ 32768
  unfolding plane_at
  plane-level h m n = omega (arith, pick-bound (counts x m n) (plane_value x.plane (level_of x m n) (other_of x m n)), value-level x.plane (level_of x m n) (other_of x m n) h (level-bound m n) (other-bound m n))

-- a plane's number above 5 is that of no plane, and is summed as the product is
value-above : (p : ℕ) (x y : ℤ) → 5 ≤ p → plane_value p x y ≡ plane_value 5 x y
unfolding plane_value
value-above zero x y h = absurd (omega arith)
value-above (suc zero) x y h = absurd (omega arith)
value-above (suc (suc zero)) x y h = absurd (omega arith)
value-above (suc (suc (suc zero))) x y h = absurd (omega arith)
value-above (suc (suc (suc (suc zero)))) x y h = absurd (omega arith)
value-above (suc (suc (suc (suc (suc p))))) x y h = refl

pub product-above : (x : Source) (m n : ℕ) → 5 ≤ x.plane → plane_at x m n ≡ plane_at (source x.frame x.f x.g x.shift 5) m n
unfolding plane_at counts
product-above x m n h = ap (pick (counts x m n)) (value-above x.plane (level_of x m n) (other_of x m n) h)

-- past the last row no cell counts
pub plane-past : (x : Source) (m n : ℕ) → x.frame.rows ≤ m → plane_at x m n ≡ pos 0
unfolding plane_at counts in_range
plane-past x m n h =
    let here = ltb m x.frame.rows && ltb n x.frame.columns in
    let there = inside_g x.frame (pos m +ℤ x.shift.down) (pos n +ℤ x.shift.right) in
    pick_no (counts x m n) _ (λ t. omega (arith, ltb→lt m x.frame.rows (and_left (ltb m x.frame.rows) (ltb n x.frame.columns) (and_left here there t))))

-- nor past the last column
pub plane-beside : (x : Source) (m n : ℕ) → x.frame.columns ≤ n → plane_at x m n ≡ pos 0
unfolding plane_at counts in_range
plane-beside x m n h =
    let here = ltb m x.frame.rows && ltb n x.frame.columns in
    let there = inside_g x.frame (pos m +ℤ x.shift.down) (pos n +ℤ x.shift.right) in
    pick_no (counts x m n) _ (λ t. omega (arith, ltb→lt n x.frame.columns (and_right (ltb m x.frame.rows) (ltb n x.frame.columns) (and_left here there t))))
