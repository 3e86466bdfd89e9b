-- How many cells a window has: the paper's three formulas, and "No window exceeds 65,025 cells."
-- Assumes nothing.
use mathlib.Core.Path.{◌≡◌}
use Prim.Native.Nat.{ℕ, zero, suc, ◌+◌, ◌*◌, ◌≤◌}
use native.Mathlib.Omega.{arith}
use lib.Dec.{T}
use Rattle.spec_picture.specs.declared.Window.{Window}
use Rattle.spec_picture.specs.Window.{Shape, rectangle, slanted, diamond, hexagon, window_legal, shape_of, height, reach, cells_beyond, cell_count}
use Rattle.spec_picture.proofs.Windows.{Small, small}

beyond-rectangle : (a b p : ℕ) → cells_beyond (rectangle a b) p ≡ 2 * p * (2 * b + 1)
unfolding cells_beyond reach
beyond-rectangle a b zero = omega arith
beyond-rectangle a b (suc p) = omega (arith, beyond-rectangle a b p)

beyond-diamond : (r p : ℕ) → p ≤ r → cells_beyond (slanted (diamond r)) p + 2 * p * p ≡ 4 * r * p
unfolding cells_beyond reach
beyond-diamond r zero h = omega arith
beyond-diamond r (suc p) h = omega (arith, beyond-diamond r p (omega arith))

beyond-hexagon : (k h p : ℕ) → p ≤ h → cells_beyond (slanted (hexagon k h)) p + 2 * p * p ≡ 4 * (k + h) * p
unfolding cells_beyond reach
beyond-hexagon k h zero l = omega arith
beyond-hexagon k h (suc p) l = omega (arith, beyond-hexagon k h p (omega arith))

-- the rectangle has (2a+1)(2b+1) cells
pub rectangle-cells : (a b : ℕ) → cell_count (rectangle a b) ≡ (2 * a + 1) * (2 * b + 1)
unfolding cell_count height reach
rectangle-cells a b = omega (arith, beyond-rectangle a b a)

-- "which is 2r² + 2r + 1 cells"
pub diamond-cells : (r : ℕ) → cell_count (slanted (diamond r)) ≡ 2 * r * r + 2 * r + 1
unfolding cell_count height reach
diamond-cells r = omega (arith, beyond-diamond r r (omega arith))

-- "which is (2h+1)(2k+2h+1) - 2h(h+1) cells"
pub hexagon-cells : (k h : ℕ) → cell_count (slanted (hexagon k h)) + 2 * h * (h + 1) ≡ (2 * h + 1) * (2 * k + 2 * h + 1)
unfolding cell_count height reach
hexagon-cells k h = omega (arith, beyond-hexagon k h h (omega arith))

beyond-bound : (s : Shape) (p : ℕ) → Small s → cells_beyond s p ≤ 510 * p
unfolding cells_beyond
beyond-bound s zero b = omega arith
beyond-bound s (suc p) b = omega (arith, beyond-bound s p b, b.narrow (suc p))

-- "No window exceeds 65,025 cells."
pub at-most-65025 : (w : Window) → T (window_legal w) → cell_count (shape_of w) ≤ 65025
unfolding cell_count
at-most-65025 w t =
    let b = small w t in
    omega (arith, beyond-bound (shape_of w) (height (shape_of w)) b, b.low, b.narrow 0)
