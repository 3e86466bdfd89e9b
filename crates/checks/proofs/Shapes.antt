-- The shape of a window by its number: one of no shape is not legal.
-- Assumes nothing.
use mathlib.Core.Path.{◌≡◌, refl, sym, ap, ◌∙◌}
use Prim.Native.Nat.{ℕ, zero, suc}
use mathlib.Core.Bool.{false, not}
use mathlib.Core.List.{[], ◌∷◌}
use mathlib.Core.Option.{some}
use lib.Dec.{T}
use Rattle.spec_picture.specs.Refusal.{◌when◌, refusal}
use Rattle.spec_picture.specs.declared.Window.{Window}
use Rattle.spec_picture.specs.Window.{window, window_legal}
use Rattle.spec_picture.specs.Shape.{is_shape}
use Rattle.spec_picture.specs.Conditions.{check3}
use Rattle.spec_picture.proofs.Refusals.{stop, unsound}

not-legal : (s : ℕ) (w : Window) → T (not (is_shape s)) → window_legal (window s w.first w.second) ≡ false
unfolding window_legal
not-legal zero w t = refl
not-legal (suc zero) w t = absurd t
not-legal (suc (suc zero)) w t = absurd t
not-legal (suc (suc (suc zero))) w t = absurd t
not-legal (suc (suc (suc (suc n)))) w t = refl

-- it is refused by the number of check 3
pub no-shape : (w : Window) (m : ℕ) → some m ≡ refusal ((3 when not (is_shape w.shape)) ∷ []) → some m ≡ refusal (check3 w ∷ [])
no-shape w m h =
    let u = unsound 3 (is_shape w.shape) m h in
    let t : T (not (window_legal w)) = rw (not-legal w.shape w u.0) tt in
    ap some u.1 ∙ sym (stop 3 (not (window_legal w)) [] t)
