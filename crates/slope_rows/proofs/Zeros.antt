-- Rows and slopes of zeros, of any width.
-- Assumes nothing.
use mathlib.Core.Path.{◌≡◌, ◌∙◌, ap}
use Prim.Native.Nat.{ℕ}
use mathlib.Core.List.{map}
use lib.IntN.{ℤ, pos}
use lib.LanesLaws.{map-replicate}
use lib.ListN.{replicate}
use Rattle.spec_picture.specs.declared.Frame.{Frame}
use Rattle.slope_loops.specs.Loops.{Blank}
use Rattle.slope_rows.specs.Edges.{Slopes}
use Rattle.slope_rows.proofs.Kept.{zeros-blank, zeros-slopes}
use Rattle.slope_loops.specs.declared.padding.TheConstants.{ROW_LENGTH}

module _ {X : Type 0} (f : X → ℤ) (n : ℕ) (some : n ≡ ROW_LENGTH) where
  zeros : (x : X) → f x ≡ pos 0 → map f (replicate n x) ≡ replicate n (pos 0)
  zeros x e = map-replicate f n x ∙ ap (replicate n) e

  pub blank : (z : Frame) (x : X) → f x ≡ pos 0 → Blank z (map f (replicate n x))
  blank z x e = rw (zeros x e) (zeros-blank n z some)

  pub no-slopes : (Q : ℕ → ℕ → ℤ) (columns more w i : ℕ) (x y : X) → f x ≡ pos 0 → f y ≡ pos 0 → Slopes Q columns more w 0 i 0 (map f (replicate n x)) (map f (replicate n y))
  no-slopes Q columns more w i x y ex ey = rw (zeros x ex, zeros y ey) (zeros-slopes Q columns more w i n some)
