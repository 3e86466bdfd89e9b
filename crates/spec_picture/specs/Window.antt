-- Windows: "A window sits on a cell (i, j) and holds the cells (i+p, j+q) with ..".
-- Assumes nothing.
use Rattle.std.specs.Prelude.{ℕ, zero, suc, ◌+◌, ◌-◌, ◌*◌, min, Bool, true, false, not, ◌&&◌, leb, ltb, ℤ, pos, nat_abs, ◌+ℤ◌}
use Rattle.std.specs.Int.Signed.{le_z}
use Rattle.spec_picture.specs.declared.Frame.{Frame}
use Rattle.spec_picture.specs.Frame.{row_gap, column_gap}
use Rattle.spec_picture.specs.declared.Window.{Window}

abbrev pub window : ℕ → ℤ → ℤ → Window
window s a b = record { shape = s; first = a; second = b }

-- lo ≤ z ≤ hi
abbrev pub between : ℤ → ℤ → ℤ → Bool
between lo hi z = le_z lo z && le_z z hi

-- shape 1, "numbers a and b: .. each number 0 to 127"
unfoldable pub rectangle_legal : (a b : ℤ) → Bool
rectangle_legal a b = between (pos 0) (pos 127) a && between (pos 0) (pos 127) b

-- shape 2, "number r, 0 to 127, second number 0"
unfoldable pub diamond_legal : (r second : ℤ) → Bool
diamond_legal r second = between (pos 0) (pos 127) r && between (pos 0) (pos 0) second

-- shape 3, "numbers k and h, neither below 0, k + h ≤ 127"
unfoldable pub hexagon_legal : (k h : ℤ) → Bool
hexagon_legal k h = le_z (pos 0) k && le_z (pos 0) h && le_z (k +ℤ h) (pos 127)

-- the shape is 1 to 3, and its numbers are such as the shape allows
unfoldable pub window_legal : Window → Bool
window_legal w = go w.shape
  where
    go : ℕ → Bool
    go zero = false
    go (suc zero) = rectangle_legal w.first w.second
    go (suc (suc zero)) = diamond_legal w.first w.second
    go (suc (suc (suc zero))) = hexagon_legal w.first w.second
    go (suc (suc (suc (suc n)))) = false

-- a legal window's shape, with its numbers: a rectangle, or one of "the others", whose rows differ in length
pub data Slanted : Type 0 where
  diamond : (r : ℕ) → Slanted
  hexagon : (k h : ℕ) → Slanted

pub data Shape : Type 0 where
  rectangle : (a b : ℕ) → Shape
  slanted : Slanted → Shape

-- the shape of a window that is legal
unfoldable pub shape_of : Window → Shape
shape_of w = go w.shape
  where
    go : ℕ → Shape
    go zero = rectangle (nat_abs w.first) (nat_abs w.second)
    go (suc zero) = rectangle (nat_abs w.first) (nat_abs w.second)
    go (suc (suc zero)) = slanted (diamond (nat_abs w.first))
    go (suc (suc (suc n))) = slanted (hexagon (nat_abs w.first) (nat_abs w.second))

abbrev pub is_rectangle : Shape → Bool
is_rectangle (rectangle a b) = true
is_rectangle (slanted s) = false

-- a shape by its rows: |p| is at most the height, and |q| at most the reach at |p|
unfoldable pub height : Shape → ℕ
height (rectangle a b) = a
height (slanted (diamond r)) = r
height (slanted (hexagon k h)) = h

unfoldable pub reach : Shape → ℕ → ℕ
reach (rectangle a b) p = b
reach (slanted (diamond r)) p = r - p
reach (slanted (hexagon k h)) p = (k + h) - p

-- a shape by its columns: |q| is at most the width, and |p| at most the depth at |q| (the paper's d(q))
unfoldable pub width : Shape → ℕ
width (rectangle a b) = b
width (slanted (diamond r)) = r
width (slanted (hexagon k h)) = k + h

unfoldable pub depth : Shape → ℕ → ℕ
depth (rectangle a b) q = a
depth (slanted (diamond r)) q = r - q
depth (slanted (hexagon k h)) q = min h ((k + h) - q)

-- how many cells the widest row has, the one through the window's middle
abbrev pub widest_row : Shape → ℕ
widest_row s = 2 * width s + 1

-- "its widest row must fit the columns" where they wrap; equality is taken
abbrev pub fits : Frame → Window → Bool
fits z w = not (z.columns_wrap && ltb z.columns (widest_row (shape_of w)))

-- the window on the cell (i, j) holds the cell (m, n)
abbrev pub holds : Frame → Shape → (i j m n : ℕ) → Bool
holds z s i j m n = leb (row_gap z i m) (height s) && leb (column_gap z j n) (reach s (row_gap z i m))

-- how many cells a shape has before clipping: the middle row, and twice the rows from 1 to the height
unfoldable pub cells_beyond : Shape → ℕ → ℕ
cells_beyond s zero = 0
cells_beyond s (suc p) = cells_beyond s p + 2 * (2 * reach s (suc p) + 1)

unfoldable pub cell_count : Shape → ℕ
cell_count s = (2 * reach s 0 + 1) + cells_beyond s (height s)
