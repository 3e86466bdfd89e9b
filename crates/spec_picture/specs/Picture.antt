-- "Planes": levels row by row, shifts, counting cells, the planes' values.
-- Assumes nothing.
use Rattle.std.specs.Prelude.{ℕ, zero, suc, ◌+◌, ◌*◌, ◌^◌, ◌<◌, Bool, ◌&&◌, List, get_or, ℤ, pos, negsuc, ◌+ℤ◌, ◌*ℤ◌}
use Rattle.std.specs.Int.Signed.{mag}
use Rattle.numbers.specs.Sum.{pick}
use Rattle.spec_picture.specs.declared.Frame.{Frame}
use Rattle.spec_picture.specs.Frame.{inside, inside_g, row_at, column_at}
use Rattle.spec_picture.specs.declared.Window.{Window}
use Rattle.spec_picture.specs.Window.{between}
use Rattle.spec_picture.specs.declared.Shift.{Shift}

abbrev pub shift : ℤ → ℤ → Shift
shift u v = record { down = u; right = v }

abbrev pub no_shift : Shift
no_shift = shift (pos 0) (pos 0)

-- "A shift (u, v) has u from -255 to 255 and v from -1,023 to 1,023."
unfoldable pub shift_legal : Shift → Bool
shift_legal d = between (negsuc 254) (pos 255) d.down && between (negsuc 1022) (pos 1023) d.right

-- two pictures with their frame, a shift and a plane: what building a table takes
pub record Source : Type 0 where
  pub frame : Frame
  pub f : List ℤ
  pub g : List ℤ
  pub shift : Shift
  pub plane : ℕ

abbrev pub source : Frame → List ℤ → List ℤ → Shift → ℕ → Source
source z f g d p = record { frame = z; f = f; g = g; shift = d; plane = p }

-- "The inputs are the pictures with their size, the window, the shift and the plane"
pub record Inputs : Type 0 where
  pub source : Source
  pub window : Window

abbrev pub inputs : Frame → List ℤ → List ℤ → Window → Shift → ℕ → Inputs
inputs z f g w d p = record { source = record { frame = z; f = f; g = g; shift = d; plane = p }; window = w }

-- "Levels are signed 16-bit": from -32,768 to 32,767. Their type says so where they come from a slice of i16.
pub record Levels (f : List ℤ) : Type 0 where
  pub level : (k : ℕ) → mag (get_or f k (pos 0)) < 2 ^ 15

-- "Levels are .. row by row": the level at row m and column n
abbrev pub level_at : Frame → List ℤ → ℕ → ℕ → ℤ
level_at z f m n = get_or f (m * z.columns + n) (pos 0)

-- "A cell (m, n) counts when it and (m+u, n+v) are both inside the picture."
unfoldable pub counts : Source → ℕ → ℕ → Bool
counts x m n = inside x.frame (pos m) (pos n) && inside_g x.frame (pos m +ℤ x.shift.down) (pos n +ℤ x.shift.right)

-- "plane 0, one; 1, f(m, n); 2, g(m+u, n+v); 3 and 4, the squares of those two; 5, their product"
unfoldable pub plane_value : ℕ → ℤ → ℤ → ℤ
plane_value zero x y = pos 1
plane_value (suc zero) x y = x
plane_value (suc (suc zero)) x y = y
plane_value (suc (suc (suc zero))) x y = x *ℤ x
plane_value (suc (suc (suc (suc zero)))) x y = y *ℤ y
plane_value (suc (suc (suc (suc (suc n))))) x y = x *ℤ y

-- the two levels at a counting cell: f(m, n), and g(m+u, n+v), "at the wrapped column" where columns wrap
abbrev pub level_of : Source → ℕ → ℕ → ℤ
level_of x m n = level_at x.frame x.f m n

abbrev pub other_of : Source → ℕ → ℕ → ℤ
other_of x m n = level_at x.frame x.g (row_at x.frame (pos m +ℤ x.shift.down)) (column_at x.frame (pos n +ℤ x.shift.right))

-- "A plane's value at a counting cell is .. At every other cell it is 0."
unfoldable pub plane_at : Source → ℕ → ℕ → ℤ
plane_at x m n = pick (counts x m n) (plane_value x.plane (level_of x m n) (other_of x m n))
