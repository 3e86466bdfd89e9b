-- The factors of a plane.
-- Assumes nothing.
use Rattle.std.specs.Prelude.{ℕ, Bool, true, false, ℤ, ◌*ℤ◌}
use Rattle.spec_picture.specs.Picture.{Source, source, plane_value}
use Rattle.plane_rows.specs.declared.factors.Factor.{Factor}
use Rattle.plane_rows.specs.declared.factors.Factor.TheVariants as one_of
use Rattle.plane_rows.specs.declared.factors.Factors.{Factors}
use Rattle.plane_rows.specs.declared.factors.Factors.TheVariants as made_of

-- "plane 0, one; 1, f(m, n); 2, g(m+u, n+v)"
abbrev pub factor_number : Factor → ℕ
factor_number one_of.One = 0
factor_number one_of.F = 1
factor_number one_of.G = 2

-- the value of such a plane, of a level of f and one of g
abbrev pub factor_value : Factor → ℤ → ℤ → ℤ
factor_value q x y = plane_value (factor_number q) x y

-- the value of a plane by its factors
abbrev pub factors_value : Factors → ℤ → ℤ → ℤ
factors_value (made_of.Level q) x y = factor_value q x y
factors_value (made_of.Square q) x y = factor_value q x y *ℤ factor_value q x y
factors_value (made_of.Product q r) x y = factor_value q x y *ℤ factor_value r x y

-- a plane of ones or levels has one factor
abbrev pub is_level : Factors → Bool
is_level (made_of.Level q) = true
is_level (made_of.Square q) = false
is_level (made_of.Product q r) = false

-- the same inputs with the plane of a factor
abbrev pub on_factor : Source → Factor → Source
on_factor x q = source x.frame x.f x.g x.shift (factor_number q)
