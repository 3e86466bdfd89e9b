-- The planes that the code knows by name, and their numbers.
-- Assumes nothing.
use Rattle.std.specs.Prelude.{ℕ}
use Rattle.spec_picture.specs.declared.plane.Plane.{Plane}
use Rattle.spec_picture.specs.declared.plane.Plane.TheVariants as is

-- "plane 0, one; 1, f(m, n); 2, g(m+u, n+v); 3 and 4, the squares of those two; 5, their product"
abbrev pub plane_number : Plane → ℕ
plane_number is.One = 0
plane_number is.F = 1
plane_number is.G = 2
plane_number is.FSquared = 3
plane_number is.GSquared = 4
plane_number is.Product = 5
