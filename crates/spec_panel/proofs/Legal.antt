-- A text that is accepted asks for a legal picture, whose columns clip, and a legal window, so smoothing does not refuse it.
-- Assumes nothing.
use mathlib.Core.Path.{◌≡◌, refl, ap, subst}
use Prim.Native.Nat.{ℕ, zero, suc, ◌^◌, ◌<◌}
use native.Mathlib.Omega.{arith}
use mathlib.Core.Bool.{Bool, true, false}
use mathlib.Core.List.{List, [], ◌∷◌, map}
use Rattle.std.specs.Prelude.{Option, None, Some, option_map}
use lib.Dec.{T, ltb, leb→le}
use lib.ListN.{length, get_or}
use lib.IntN.{ℤ, pos, negsuc}
use lib.Signed.{le_z, mag}
use Rattle.spec_picture.specs.Refusal.{refused, answered}
use Rattle.spec_picture.specs.declared.Frame.{Frame}
use Rattle.spec_picture.specs.Frame.{frame, cells}
use Rattle.spec_picture.specs.declared.Window.{Window}
use Rattle.spec_picture.specs.Window.{window, window_legal}
use Rattle.spec_picture.specs.Picture.{Levels}
use Rattle.numbers.proofs.Tests.{and_left, and_right}
use Rattle.spec_panel.specs.Text.{runs, number}
use Rattle.spec_panel.specs.Panel.{Drawing, count_of, panel_frame, is_level, levels_of, windowed, filled, sized, parsed}

pub record Legal (d : Drawing) : Type 0 where
  pub frame : T (panel_frame d.frame)
  pub clips : d.frame.columns_wrap ≡ false
  pub window : T (window_legal d.window)
  pub full : length d.levels ≡ cells d.frame
  pub levels : Levels d.levels

-- what a list of levels has
pub record Good (k : ℕ) (l : List ℤ) : Type 0 where
  pub full : length l ≡ k
  pub level : (i : ℕ) → mag (get_or l i (pos 0)) < 2 ^ 15

pub is-level : (n : ℤ) → T (is_level n) → mag n < 2 ^ 15
is-level (pos n) t = omega (arith, leb→le n 32767 (and_right (le_z (negsuc 32767) (pos n)) (le_z (pos n) (pos 32767)) t))
is-level (negsuc n) t = omega (arith, leb→le n 32767 (and_left (le_z (negsuc 32767) (negsuc n)) (le_z (negsuc n) (pos 32767)) t))

one_more : (k : ℕ) (n : ℤ) (l : List ℤ) → T (is_level n) → Good k l → Good (suc k) (n ∷ l)
one_more k n l t g = record { full = ap suc g.full; level = at }
  where
    at : (i : ℕ) → mag (get_or (n ∷ l) i (pos 0)) < 2 ^ 15
    at zero = is-level n t
    at (suc i) = g.level i

never : {A : Type 0} {l : A} → None ≡ Some l → ⊥
never e = let z : ◌≡◌ {A = ℕ} 0 1 = cc in omega arith

refuses : {A : Type 0} {n : ℕ} {a : A} → refused n ≡ answered a → ⊥
refuses e = let z : ◌≡◌ {A = ℕ} 0 1 = cc in omega arith

levels-good : (k : ℕ) (ns : List (Option ℤ)) (l : List ℤ) → levels_of k ns ≡ Some l → Good k l
unfolding levels_of
levels-good zero [] l e =
    let q : [] ≡ l = cc in
    subst (Good 0) q (record { full = refl; level = λ i. omega arith })
levels-good zero (n ∷ ns) l e = absurd (never e)
levels-good (suc k) [] l e = absurd (never e)
levels-good (suc k) (None ∷ ns) l e = absurd (never e)
levels-good (suc k) (Some n ∷ ns) l e = go (is_level n) refl (levels_of k ns) (levels-good k ns) e
  where
    go : (b : Bool) → is_level n ≡ b → (r : Option (List ℤ)) → ((l : List ℤ) → r ≡ Some l → Good k l) →
        elim b [ true ↦ option_map (λ l. n ∷ l) r | false ↦ None ] ≡ Some l → Good (suc k) l
    go true eb None h e = absurd (never e)
    go true eb (Some t) h e =
        let q : n ∷ t ≡ l = cc in
        subst (Good (suc k)) q (one_more k n t (rw eb tt) (h t refl))
    go false eb r h e = absurd (never e)

module _ (z : Frame) (ok : T (panel_frame z)) (clips : z.columns_wrap ≡ false) where
  windowed-legal : (w : Window) (o : Option (List ℤ)) → ((l : List ℤ) → o ≡ Some l → Good (cells z) l) → (d : Drawing) → windowed z w o ≡ answered d → Legal d
  unfolding windowed
  windowed-legal w None h d e = absurd (refuses e)
  windowed-legal w (Some l) h d e = go (window_legal w) refl e
    where
      go : (b : Bool) → window_legal w ≡ b → elim b [ true ↦ answered (record { frame = z; window = w; levels = l }) | false ↦ refused 3 ] ≡ answered d → Legal d
      go true eb e =
          let q : record { frame = z; window = w; levels = l } ≡ d = cc in
          let g = h l refl in
          subst Legal q (record { frame = ok; clips = clips; window = rw eb tt; full = g.full; levels = record { level = g.level } })
      go false eb e = absurd (refuses e)

  filled-legal : (ns : List (Option ℤ)) (d : Drawing) → filled z ns ≡ answered d → Legal d
  unfolding filled
  filled-legal [] d e = absurd (refuses e)
  filled-legal (None ∷ ns) d e = absurd (refuses e)
  filled-legal (Some s ∷ []) d e = absurd (refuses e)
  filled-legal (Some s ∷ None ∷ ns) d e = absurd (refuses e)
  filled-legal (Some s ∷ Some a ∷ []) d e = absurd (refuses e)
  filled-legal (Some s ∷ Some a ∷ None ∷ ns) d e = absurd (refuses e)
  filled-legal (Some s ∷ Some a ∷ Some b ∷ ns) d e = windowed-legal (window (count_of s) a b) (levels_of (cells z) ns) (levels-good (cells z) ns) d e

sized-legal : (ns : List (Option ℤ)) (d : Drawing) → sized ns ≡ answered d → Legal d
unfolding sized
sized-legal [] d e = absurd (refuses e)
sized-legal (None ∷ ns) d e = absurd (refuses e)
sized-legal (Some r ∷ []) d e = absurd (refuses e)
sized-legal (Some r ∷ None ∷ ns) d e = absurd (refuses e)
sized-legal (Some r ∷ Some c ∷ ns) d e = go (panel_frame (frame (count_of r) (count_of c))) refl e
  where
    go : (b : Bool) → panel_frame (frame (count_of r) (count_of c)) ≡ b → elim b [ true ↦ filled (frame (count_of r) (count_of c)) ns | false ↦ refused 1 ] ≡ answered d → Legal d
    go true eb e = filled-legal (frame (count_of r) (count_of c)) (rw eb tt) refl ns d e
    go false eb e = absurd (refuses e)

pub parsed-legal : (text : List ℕ) (d : Drawing) → parsed text ≡ answered d → Legal d
unfolding parsed
parsed-legal text d e = go (ltb 65536 (length text)) e
  where
    go : (b : Bool) → elim b [ true ↦ refused 10 | false ↦ sized (map number (runs text)) ] ≡ answered d → Legal d
    go true e = absurd (refuses e)
    go false e = sized-legal (map number (runs text)) d e
