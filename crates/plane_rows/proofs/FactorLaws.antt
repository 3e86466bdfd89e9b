-- A plane by its factors.
-- Assumes nothing.
use mathlib.Core.Path.{◌≡◌, refl, ◌∙◌, ap}
use mathlib.Core.Bool.{Bool, true, false}
use Prim.Native.Nat.{ℕ}
use lib.IntN.{ℤ, ◌*ℤ◌}
use Rattle.numbers.specs.Sum.{pick}
use Rattle.spec_picture.specs.Picture.{Source, plane_value, counts, plane_at, level_of, other_of}
use Rattle.plane_rows.specs.declared.factors.Factor.{Factor}
use Rattle.plane_rows.specs.Factors.{factor_value, on_factor}

-- products of what is picked
pick-mul : (b : Bool) (u v : ℤ) → pick b (u *ℤ v) ≡ pick b u *ℤ pick b v
unfolding pick
pick-mul true u v = refl
pick-mul false u v = refl

-- a plane of ones or levels is its one factor
pub plane-level : (x : Source) (q : Factor) → ((u v : ℤ) → plane_value x.plane u v ≡ factor_value q u v) → (m n : ℕ) → plane_at x m n ≡ plane_at (on_factor x q) m n
unfolding plane_at counts
plane-level x q same m n = ap (pick (counts x m n)) (same (level_of x m n) (other_of x m n))

-- every other is the product of its two, cell by cell; of a square they are the same
pub plane-product : (x : Source) (q r : Factor) → ((u v : ℤ) → plane_value x.plane u v ≡ factor_value q u v *ℤ factor_value r u v) → (m n : ℕ) → plane_at x m n ≡ plane_at (on_factor x q) m n *ℤ plane_at (on_factor x r) m n
unfolding plane_at counts
plane-product x q r same m n =
    let u = level_of x m n in
    let v = other_of x m n in
    ap (pick (counts x m n)) (same u v) ∙ pick-mul (counts x m n) (factor_value q u v) (factor_value r u v)
