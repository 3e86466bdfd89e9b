-- The laws of windows: rows and columns, how large, and the sums over them.
-- Assumes nothing.
use mathlib.Core.Path.{◌≡◌, refl}
use Prim.Native.Nat.{ℕ, zero, suc, ◌+◌, ◌-◌, ◌*◌, ◌≤◌, min}
use native.Mathlib.Omega.{arith}
use mathlib.Core.Bool.{Bool, true, false, not, ◌&&◌, true≢false}
use lib.Dec.{T, leb, ltb, leb→le, le→leb, nltb→le}
use lib.IntN.{ℤ, pos, negsuc, ◌+ℤ◌, nat_abs}
use lib.Signed.{le_z}
use Rattle.numbers.specs.Sum.{sum_to, pick}
use Rattle.numbers.proofs.Sums.{sum-zero, sum-swap, sum_bound, pick-bound}
use Rattle.spec_picture.specs.declared.Window.{Window}
use Rattle.spec_picture.specs.Window.{window, Shape, rectangle, slanted, diamond, hexagon, rectangle_legal, diamond_legal, hexagon_legal, window_legal, shape_of, is_rectangle, height, reach, width, depth, widest_row, fits, holds, between}
use Rattle.spec_picture.specs.declared.Frame.{Frame}
use Rattle.spec_picture.specs.Frame.{row_gap, column_gap, Apart}
use Rattle.spec_picture.specs.Direct.{window_sum}
use Rattle.spec_picture.proofs.Legal.{to-127}
use Rattle.numbers.proofs.Tests.{and_left, and_right, and_both, same_test}

-- a window by rows is the window by columns
pub record Dual (s : Shape) : Type 0 where
  pub to : (p q : ℕ) → p ≤ height s → q ≤ reach s p → (q ≤ width s) × (p ≤ depth s q)
  pub from : (p q : ℕ) → q ≤ width s → p ≤ depth s q → (p ≤ height s) × (q ≤ reach s p)

pub dual : (s : Shape) → Dual s
unfolding height reach width depth
dual (rectangle a b) = record { to = λ p q h k. (k, h); from = λ p q h k. (k, h) }
dual (slanted (diamond r)) = record { to = λ p q h k. omega arith; from = λ p q h k. omega arith }
dual (slanted (hexagon k h)) = record { to = λ p q x y. omega arith; from = λ p q x y. omega arith }

pub turned : (s : Shape) (p q : ℕ) → (leb p (height s) && leb q (reach s p)) ≡ (leb q (width s) && leb p (depth s q))
turned s p q = same_test (leb p (height s) && leb q (reach s p)) (leb q (width s) && leb p (depth s q))
    (λ t.
    let k = (dual s).to p q (leb→le p (height s) (and_left (leb p (height s)) (leb q (reach s p)) t)) (leb→le q (reach s p) (and_right (leb p (height s)) (leb q (reach s p)) t)) in
    and_both (leb q (width s)) (leb p (depth s q)) (le→leb q (width s) k.0) (le→leb p (depth s q) k.1))
    (λ t.
    let k = (dual s).from p q (leb→le q (width s) (and_left (leb q (width s)) (leb p (depth s q)) t)) (leb→le p (depth s q) (and_right (leb q (width s)) (leb p (depth s q)) t)) in
    and_both (leb p (height s)) (leb q (reach s p)) (le→leb p (height s) k.0) (le→leb q (reach s p) k.1))

-- ---- the cells of a window in document 01's own words, for a cell (i, j) and a cell (m, n), p and q being how far apart they are
-- "|p| + |q| ≤ r"
pub diamond-holds : (z : Frame) (r i j m n : ℕ) → holds z (slanted (diamond r)) i j m n ≡ leb (row_gap z i m + column_gap z j n) r
unfolding height reach
diamond-holds z r i j m n =
    let p = row_gap z i m in
    let q = column_gap z j n in
    same_test (leb p r && leb q (r - p)) (leb (p + q) r)
    (λ t. le→leb (p + q) r (omega (arith, leb→le p r (and_left (leb p r) (leb q (r - p)) t), leb→le q (r - p) (and_right (leb p r) (leb q (r - p)) t))))
    (λ t. and_both (leb p r) (leb q (r - p)) (le→leb p r (omega (arith, leb→le (p + q) r t))) (le→leb q (r - p) (omega (arith, leb→le (p + q) r t))))

-- "|p| ≤ h and |p| + |q| ≤ k + h"
pub hexagon-holds : (z : Frame) (k h i j m n : ℕ) → holds z (slanted (hexagon k h)) i j m n ≡ (leb (row_gap z i m) h && leb (row_gap z i m + column_gap z j n) (k + h))
unfolding height reach
hexagon-holds z k h i j m n =
    let p = row_gap z i m in
    let q = column_gap z j n in
    same_test (leb p h && leb q ((k + h) - p)) (leb p h && leb (p + q) (k + h))
    (λ t.
    let a = and_left (leb p h) (leb q ((k + h) - p)) t in
    and_both (leb p h) (leb (p + q) (k + h)) a (le→leb (p + q) (k + h) (omega (arith, leb→le p h a, leb→le q ((k + h) - p) (and_right (leb p h) (leb q ((k + h) - p)) t)))))
    (λ t.
    let a = and_left (leb p h) (leb (p + q) (k + h)) t in
    and_both (leb p h) (leb q ((k + h) - p)) a (le→leb q ((k + h) - p) (omega (arith, leb→le (p + q) (k + h) (and_right (leb p h) (leb (p + q) (k + h)) t)))))

-- "|p| ≤ a and |q| ≤ b"
pub rectangle-holds : (z : Frame) (a b i j m n : ℕ) → holds z (rectangle a b) i j m n ≡ (leb (row_gap z i m) a && leb (column_gap z j n) b)
unfolding height reach
rectangle-holds z a b i j m n = refl

pub pick-and : (a b : Bool) (x : ℤ) → pick (a && b) x ≡ pick a (pick b x)
unfolding pick
pick-and true b x = refl
pick-and false b x = refl

pub sum-pick : (n : ℕ) (b : Bool) (f : ℕ → ℤ) → sum_to n (λ k. pick b (f k)) ≡ pick b (sum_to n f)
unfolding pick
sum-pick n true f = refl
sum-pick n false f = sum-zero n

module _ (z : Frame) (s : Shape) (P : ℕ → ℕ → ℤ) where
  -- a window, row by row
  pub by_rows : (i j : ℕ) → window_sum z s P i j ≡
      sum_to z.rows (λ m. pick (leb (row_gap z i m) (height s)) (sum_to z.columns (λ n. pick (leb (column_gap z j n) (reach s (row_gap z i m))) (P m n))))
  unfolding window_sum
  by_rows i j = simp (pick-and, sum-pick)

  -- a window, column by column
  pub by-columns : (i j : ℕ) → window_sum z s P i j ≡
      sum_to z.columns (λ n. pick (leb (column_gap z j n) (width s)) (sum_to z.rows (λ m. pick (leb (row_gap z i m) (depth s (column_gap z j n))) (P m n))))
  unfolding window_sum
  by-columns i j = rw (sum-swap z.rows z.columns (λ m n. pick (holds z s i j m n) (P m n))) (simp (turned, pick-and, sum-pick))

  pub window-bound : (M i j : ℕ) → ((m n : ℕ) → nat_abs (P m n) ≤ M) → nat_abs (window_sum z s P i j) ≤ z.rows * (z.columns * M)
  unfolding window_sum
  window-bound M i j h =
      sum_bound z.rows (z.columns * M) (λ m. sum_to z.columns (λ n. pick (holds z s i j m n) (P m n)))
      (λ m lm. sum_bound z.columns M (λ n. pick (holds z s i j m n) (P m n))
      (λ n ln. omega (arith, h m n, pick-bound (holds z s i j m n) (P m n))))

-- ---- how large a legal window is: "No window exceeds 65,025 cells."
pub record Small (s : Shape) : Type 0 where
  pub low : height s ≤ 127
  pub narrow : (p : ℕ) → reach s p ≤ 127

sum127 : (a b : ℤ) → T (le_z (pos 0) a && le_z (pos 0) b && le_z (a +ℤ b) (pos 127)) → nat_abs a + nat_abs b ≤ 127
sum127 (pos m) (pos n) t = leb→le (m + n) 127 (and_right (le_z (pos 0) (pos m) && le_z (pos 0) (pos n)) (le_z (pos (m + n)) (pos 127)) t)
sum127 (negsuc m) b t = absurd (and_left (le_z (pos 0) (negsuc m)) (le_z (pos 0) b) (and_left (le_z (pos 0) (negsuc m) && le_z (pos 0) b) (le_z (negsuc m +ℤ b) (pos 127)) t))
sum127 (pos m) (negsuc n) t = absurd (and_right (le_z (pos 0) (pos m)) (le_z (pos 0) (negsuc n)) (and_left (le_z (pos 0) (pos m) && le_z (pos 0) (negsuc n)) (le_z (pos m +ℤ negsuc n) (pos 127)) t))

small-window : (n : ℕ) (a b : ℤ) → T (window_legal (window n a b)) → Small (shape_of (window n a b))
unfolding window_legal rectangle_legal diamond_legal hexagon_legal shape_of height reach
small-window zero a b t = absurd t
small-window (suc zero) a b t =
    let h = to-127 a (and_left (between (pos 0) (pos 127) a) (between (pos 0) (pos 127) b) t) in
    let k = to-127 b (and_right (between (pos 0) (pos 127) a) (between (pos 0) (pos 127) b) t) in
    record { low = h; narrow = λ p. k }
small-window (suc (suc zero)) a b t =
    let h = to-127 a (and_left (between (pos 0) (pos 127) a) (between (pos 0) (pos 0) b) t) in
    record { low = h; narrow = λ p. omega arith }
small-window (suc (suc (suc zero))) a b t =
    let h = sum127 a b t in
    record { low = omega arith; narrow = λ p. omega arith }
small-window (suc (suc (suc (suc n)))) a b t = absurd t

pub small : (w : Window) → T (window_legal w) → Small (shape_of w)
small w t = small-window w.shape w.first w.second t

pub height-small : (w : Window) → T (window_legal w) → height (shape_of w) ≤ 127
height-small w t = (small w t).low

-- a column of a window goes no further down than its middle one
depth_low : (s : Shape) (q : ℕ) → depth s q ≤ height s
unfolding depth height
depth_low (rectangle a b) q = omega arith
depth_low (slanted (diamond r)) q = omega arith
depth_low (slanted (hexagon k h)) q = omega arith

pub depth_small : (w : Window) → T (window_legal w) → (q : ℕ) → depth (shape_of w) q ≤ 127
depth_small w t q = omega (arith, depth_low (shape_of w) q, height-small w t)

width-reach : (s : Shape) → width s ≡ reach s 0
unfolding width reach
width-reach (rectangle a b) = refl
width-reach (slanted (diamond r)) = omega arith
width-reach (slanted (hexagon k h)) = omega arith

-- no row goes further to the sides than the widest
pub reach_width : (s : Shape) (p : ℕ) → reach s p ≤ width s
unfolding reach width
reach_width (rectangle a b) p = omega arith
reach_width (slanted (diamond r)) p = omega arith
reach_width (slanted (hexagon k h)) p = omega arith

-- "its widest row must fit the columns": what the test says
pub apart-of : (z : Frame) (w : Window) → T (fits z w) → Apart z (width (shape_of w))
apart-of z w t = go z.columns_wrap t
  where
    go : (b : Bool) → T (not (b && ltb z.columns (widest_row (shape_of w)))) → T b → widest_row (shape_of w) ≤ z.columns
    go true t u = nltb→le z.columns (widest_row (shape_of w)) t
    go false t u = absurd u

pub width_small : (w : Window) → T (window_legal w) → width (shape_of w) ≤ 127
width_small w t = omega (arith, width-reach (shape_of w), (small w t).narrow 0)

-- ---- a window that is no rectangle: it is as wide as it is high or wider, and its depth falls by a row with each of the last columns
pub height-width : (s : Shape) → is_rectangle s ≡ false → height s ≤ width s
unfolding height width
height-width (rectangle a b) e = absurd (true≢false e)
height-width (slanted (diamond r)) e = omega arith
height-width (slanted (hexagon k h)) e = omega arith

pub depth-slanted : (s : Shape) → is_rectangle s ≡ false → (q : ℕ) → depth s q ≡ min (height s) (width s - q)
unfolding depth height width
depth-slanted (rectangle a b) e q = absurd (true≢false e)
depth-slanted (slanted (diamond r)) e q = omega arith
depth-slanted (slanted (hexagon k h)) e q = refl

pub reach-slanted : (s : Shape) → is_rectangle s ≡ false → (p : ℕ) → reach s p ≡ width s - p
unfolding reach width
reach-slanted (rectangle a b) e p = absurd (true≢false e)
reach-slanted (slanted (diamond r)) e p = refl
reach-slanted (slanted (hexagon k h)) e p = refl
