-- The shapes that the code knows by name, and their numbers.
-- Assumes nothing.
use Rattle.std.specs.Prelude.{ℕ, Bool, ◌&&◌, leb}
use Rattle.spec_picture.specs.declared.shape.Shape.{Shape}
use Rattle.spec_picture.specs.declared.shape.Shape.TheVariants as is

abbrev pub shape_number : Shape → ℕ
shape_number is.Rectangle = 1
shape_number is.Diamond = 2
shape_number is.Hexagon = 3

-- "shape not 1 to 3" is refused
abbrev pub is_shape : ℕ → Bool
is_shape n = leb 1 n && leb n 3
