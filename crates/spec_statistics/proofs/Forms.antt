-- The variance is not negative, and C² ≤ Vf · Vg: by the sum of the squares (a + b x + c y)². Assumes nothing.
use mathlib.Core.Path.{◌≡◌, refl, sym, subst}
use mathlib.Core.Bool.{Bool, true, false}
use mathlib.Core.List.{[], ◌∷◌}
use Prim.Native.Nat.{zero, suc}
use native.Mathlib.Omega.{arith}
use lib.IntN.{ℤ, pos, negsuc, ◌+ℤ◌, ◌-ℤ◌, ◌*ℤ◌, zero-*ℤ}
use lib.Signed.{◌≤ℤ◌, ◌<ℤ◌, ≤ℤ_refl}
use Rattle.numbers.proofs.Integers.{up, mul-law, sub-lawℤ, of_le, ltℤ}
use Rattle.numbers.proofs.Laws.{add-nonneg, sq-nonneg, le-of-sub, sub-of-le, pos-cancel}
use Rattle.numbers.proofs.Ring.{Poly, X, K, ◌⊕◌, ◌⊖◌, ◌⊗◌, ring}

abbrev pub var : (N S A : ℤ) → ℤ
var N S A = N *ℤ A -ℤ S *ℤ S

abbrev pub cov : (N S T P : ℤ) → ℤ
cov N S T P = N *ℤ P -ℤ S *ℤ T

-- the quadratic form of the sums, Σ (a + b x + c y)²
abbrev pub Q : (N S T A B P a b c : ℤ) → ℤ
Q N S T A B P a b c =
    a *ℤ a *ℤ N +ℤ b *ℤ b *ℤ A +ℤ c *ℤ c *ℤ B +ℤ pos 2 *ℤ (a *ℤ b *ℤ S +ℤ a *ℤ c *ℤ T +ℤ b *ℤ c *ℤ P)

-- the same as polynomials
abbrev poly_q : (N S T A B P a b c : Poly) → Poly
poly_q N S T A B P a b c =
    a ⊗ a ⊗ N ⊕ b ⊗ b ⊗ A ⊕ c ⊗ c ⊗ B ⊕ K (pos 2) ⊗ (a ⊗ b ⊗ S ⊕ a ⊗ c ⊗ T ⊕ b ⊗ c ⊗ P)

abbrev poly_var : (N S A : Poly) → Poly
poly_var N S A = N ⊗ A ⊖ S ⊗ S

abbrev poly_cov : (N S T P : Poly) → Poly
poly_cov N S T P = N ⊗ P ⊖ S ⊗ T

-- what all sums have: the form is nowhere negative
unfoldable pub Psd : (N S T A B P : ℤ) → Type 0
Psd N S T A B P = (a b c : ℤ) → pos 0 ≤ℤ (Q N S T A B P a b c)

-- ---- from the form to the two inequalities

abbrev R : (F C G b c : ℤ) → ℤ
R F C G b c = b *ℤ b *ℤ F +ℤ pos 2 *ℤ (b *ℤ c) *ℤ C +ℤ c *ℤ c *ℤ G

abbrev poly_r : (F C G b c : Poly) → Poly
poly_r F C G b c = b ⊗ b ⊗ F ⊕ K (pos 2) ⊗ (b ⊗ c) ⊗ C ⊕ c ⊗ c ⊗ G

-- at a = -(b S + c T), with b and c times N
scaled : (N S T A B P b c : ℤ)
    → Q N S T A B P (pos 0 -ℤ (b *ℤ S +ℤ c *ℤ T)) (b *ℤ N) (c *ℤ N) ≡ N *ℤ R (var N S A) (cov N S T P) (var N T B) b c
scaled N S T A B P b c =
    ring
    (poly_q (X 0) (X 1) (X 2) (X 3) (X 4) (X 5) (K (pos 0) ⊖ (X 6 ⊗ X 1 ⊕ X 7 ⊗ X 2)) (X 6 ⊗ X 0) (X 7 ⊗ X 0))
    (X 0 ⊗ poly_r (poly_var (X 0) (X 1) (X 3)) (poly_cov (X 0) (X 1) (X 2) (X 5)) (poly_var (X 0) (X 2) (X 4)) (X 6) (X 7))
    (N ∷ S ∷ T ∷ A ∷ B ∷ P ∷ b ∷ c ∷ []) tt

unfoldable pub NonNeg : ℤ → Type 0
NonNeg z = pos 0 ≤ℤ z

-- the form in two variables is nowhere negative
two : (N S T A B P : ℤ) → pos 0 <ℤ N → Psd N S T A B P → (b c : ℤ) → pos 0 ≤ℤ (R (var N S A) (cov N S T P) (var N T B) b c)
unfolding Psd NonNeg
two N S T A B P n q b c =
    pos-cancel N (R (var N S A) (cov N S T P) (var N T B) b c) n
    (subst NonNeg (scaled N S T A B P b c) (q (pos 0 -ℤ (b *ℤ S +ℤ c *ℤ T)) (b *ℤ N) (c *ℤ N)))

-- a form F b² + 2 C b c + G c² that is nowhere negative has C² ≤ F G
form : (F C G : ℤ) → ((b c : ℤ) → pos 0 ≤ℤ (R F C G b c)) → (C *ℤ C) ≤ℤ (F *ℤ G)
unfolding NonNeg
form (pos (suc f)) C G h =
    let F = pos (suc f) in
    le-of-sub (C *ℤ C) (F *ℤ G) (pos-cancel F (F *ℤ G -ℤ C *ℤ C) (ltℤ (pos 0) F (omega arith))
    (subst NonNeg (ring (poly_r (X 0) (X 1) (X 2) (K (pos 0) ⊖ X 1) (X 0)) (X 0 ⊗ (X 0 ⊗ X 2 ⊖ X 1 ⊗ X 1)) (F ∷ C ∷ G ∷ []) tt)
    (h (pos 0 -ℤ C) F)))
form (negsuc f) C G h = absurd (neg-one (subst NonNeg (ring (poly_r (X 0) (X 1) (X 2) (K (pos 1)) (K (pos 0))) (X 0) (negsuc f ∷ C ∷ G ∷ []) tt) (h (pos 1) (pos 0))))
  where
    neg-one : pos 0 ≤ℤ negsuc f → ⊥
    neg-one p = p.le
form (pos zero) C G h = flat G h
  where
    -- with F = 0 the form at b = -C (G + 1), c = 1 ... is G - 2 C² (|G| + 1)
    at : (G : ℤ) → ((b c : ℤ) → pos 0 ≤ℤ (R (pos 0) C G b c)) → pos 0 ≤ℤ (G -ℤ pos 2 *ℤ (pos (suc (up G))) *ℤ (C *ℤ C))
    at G h = subst NonNeg (ring (poly_r (K (pos 0)) (X 0) (X 1) (K (pos 0) ⊖ X 0 ⊗ X 2) (K (pos 1))) (X 1 ⊖ K (pos 2) ⊗ X 2 ⊗ (X 0 ⊗ X 0)) (C ∷ G ∷ pos (suc (up G)) ∷ []) tt)
        (h (pos 0 -ℤ C *ℤ pos (suc (up G))) (pos 1))

    small : (G z : ℤ) → pos 0 ≤ℤ z → pos 0 ≤ℤ (G -ℤ pos 2 *ℤ (pos (suc (up G))) *ℤ z) → z ≤ℤ pos 0
    small G (pos zero) p q = ≤ℤ_refl (pos 0)
    small G (pos (suc n)) p q = absurd (omega (arith, of_le q, sub-lawℤ G (pos 2 *ℤ (pos (suc (up G))) *ℤ pos (suc n))))
    small G (negsuc n) p q = absurd p.le

    flat : (G : ℤ) → ((b c : ℤ) → pos 0 ≤ℤ (R (pos 0) C G b c)) → (C *ℤ C) ≤ℤ (pos 0 *ℤ G)
    flat G h = subst (λ (w : ℤ). (C *ℤ C) ≤ℤ w) (sym (zero-*ℤ G)) (small G (C *ℤ C) (sq-nonneg C) (at G h))

-- S² ≤ N A, with no condition on N: the form at c = 0
pub square_le : (N S T A B P : ℤ) → Psd N S T A B P → (S *ℤ S) ≤ℤ (N *ℤ A)
unfolding Psd NonNeg
square_le N S T A B P q = form N S A
    (λ a b. subst NonNeg (ring (poly_q (X 0) (X 1) (X 2) (X 3) (X 4) (X 5) (X 6) (X 7) (K (pos 0))) (poly_r (X 0) (X 1) (X 3) (X 6) (X 7)) (N ∷ S ∷ T ∷ A ∷ B ∷ P ∷ a ∷ b ∷ []) tt)
    (q a b (pos 0)))

pub var-nonneg : (N S T A B P : ℤ) → Psd N S T A B P → pos 0 ≤ℤ (var N S A)
var-nonneg N S T A B P q = sub-of-le (S *ℤ S) (N *ℤ A) (square_le N S T A B P q)

-- T² ≤ N B: the form at b = 0
pub square-le-T : (N S T A B P : ℤ) → Psd N S T A B P → (T *ℤ T) ≤ℤ (N *ℤ B)
unfolding Psd NonNeg
square-le-T N S T A B P q = form N T B
    (λ a c. subst NonNeg (ring (poly_q (X 0) (X 1) (X 2) (X 3) (X 4) (X 5) (X 6) (K (pos 0)) (X 7)) (poly_r (X 0) (X 2) (X 4) (X 6) (X 7)) (N ∷ S ∷ T ∷ A ∷ B ∷ P ∷ a ∷ c ∷ []) tt)
    (q a (pos 0) c))

zero-of-square : (x z : ℤ) → (x *ℤ x) ≤ℤ (pos 0 *ℤ z) → x ≡ pos 0
zero-of-square (pos zero) z h = refl
zero-of-square (pos (suc n)) z h = absurd (omega (arith, of_le h, mul-law (pos 0) z))
zero-of-square (negsuc n) z h = absurd (omega (arith, of_le h, mul-law (pos 0) z))

-- C² ≤ Vf Vg
pub cauchy : (N S T A B P : ℤ) → pos 0 ≤ℤ N → Psd N S T A B P → (cov N S T P *ℤ cov N S T P) ≤ℤ (var N S A *ℤ var N T B)
cauchy (pos (suc n)) S T A B P h q = form (var (pos (suc n)) S A) (cov (pos (suc n)) S T P) (var (pos (suc n)) T B) (two (pos (suc n)) S T A B P (ltℤ (pos 0) (pos (suc n)) (omega arith)) q)
cauchy (pos zero) S T A B P h q =
    let s = zero-of-square S A (square_le (pos 0) S T A B P q) in
    let t = zero-of-square T B (square-le-T (pos 0) S T A B P q) in
    subst (λ (w : ℤ). (cov (pos 0) w T P *ℤ cov (pos 0) w T P) ≤ℤ (var (pos 0) w A *ℤ var (pos 0) T B)) (sym s)
    (subst (λ (w : ℤ). (cov (pos 0) (pos 0) w P *ℤ cov (pos 0) (pos 0) w P) ≤ℤ (var (pos 0) (pos 0) A *ℤ var (pos 0) w B)) (sym t) (flat A B P))
  where
    flat : (A B P : ℤ) → (cov (pos 0) (pos 0) (pos 0) P *ℤ cov (pos 0) (pos 0) (pos 0) P) ≤ℤ (var (pos 0) (pos 0) A *ℤ var (pos 0) (pos 0) B)
    flat A B P = subst (λ (w : ℤ). (cov (pos 0) (pos 0) (pos 0) P *ℤ cov (pos 0) (pos 0) (pos 0) P) ≤ℤ w)
        (ring (poly_cov (K (pos 0)) (K (pos 0)) (K (pos 0)) (X 2) ⊗ poly_cov (K (pos 0)) (K (pos 0)) (K (pos 0)) (X 2)) (poly_var (K (pos 0)) (K (pos 0)) (X 0) ⊗ poly_var (K (pos 0)) (K (pos 0)) (X 1)) (A ∷ B ∷ P ∷ []) tt)
        (≤ℤ_refl (cov (pos 0) (pos 0) (pos 0) P *ℤ cov (pos 0) (pos 0) (pos 0) P))
cauchy (negsuc n) S T A B P h q = absurd h.le

-- z where the cell counts, and 0 where not
abbrev pub only : Bool → ℤ → ℤ
only true z = z
only false z = pos 0

-- one pixel's part is a square, or 0
pub one-part : (t : Bool) (x y a b c : ℤ) → pos 0 ≤ℤ (Q (only t (pos 1)) (only t x) (only t y) (only t (x *ℤ x)) (only t (y *ℤ y)) (only t (x *ℤ y)) a b c)
unfolding NonNeg
one-part true x y a b c =
    let w = a +ℤ b *ℤ x +ℤ c *ℤ y in
    subst NonNeg (ring ((X 2 ⊕ X 3 ⊗ X 0 ⊕ X 4 ⊗ X 1) ⊗ (X 2 ⊕ X 3 ⊗ X 0 ⊕ X 4 ⊗ X 1))
    (poly_q (K (pos 1)) (X 0) (X 1) (X 0 ⊗ X 0) (X 1 ⊗ X 1) (X 0 ⊗ X 1) (X 2) (X 3) (X 4)) (x ∷ y ∷ a ∷ b ∷ c ∷ []) tt) (sq-nonneg w)
one-part false x y a b c =
    subst NonNeg (ring (K (pos 0)) (poly_q (K (pos 0)) (K (pos 0)) (K (pos 0)) (K (pos 0)) (K (pos 0)) (K (pos 0)) (X 0) (X 1) (X 2)) (a ∷ b ∷ c ∷ []) tt) (≤ℤ_refl (pos 0))

-- the form of sums is the sum of the forms
pub splits : (N S T A B P n s t q r p a b c : ℤ)
    → Q N S T A B P a b c +ℤ Q n s t q r p a b c ≡ Q (N +ℤ n) (S +ℤ s) (T +ℤ t) (A +ℤ q) (B +ℤ r) (P +ℤ p) a b c
splits N S T A B P n s t q r p a b c =
    ring (poly_q (X 0) (X 1) (X 2) (X 3) (X 4) (X 5) (X 12) (X 13) (X 14) ⊕ poly_q (X 6) (X 7) (X 8) (X 9) (X 10) (X 11) (X 12) (X 13) (X 14))
    (poly_q (X 0 ⊕ X 6) (X 1 ⊕ X 7) (X 2 ⊕ X 8) (X 3 ⊕ X 9) (X 4 ⊕ X 10) (X 5 ⊕ X 11) (X 12) (X 13) (X 14))
    (N ∷ S ∷ T ∷ A ∷ B ∷ P ∷ n ∷ s ∷ t ∷ q ∷ r ∷ p ∷ a ∷ b ∷ c ∷ []) tt

-- one cell's part
pub psd-one : (t : Bool) (x y : ℤ) → Psd (only t (pos 1)) (only t x) (only t y) (only t (x *ℤ x)) (only t (y *ℤ y)) (only t (x *ℤ y))
unfolding Psd
psd-one t x y a b c = one-part t x y a b c

-- two parts together
pub psd-add : (N S T A B P n s t q r p : ℤ) → Psd N S T A B P → Psd n s t q r p → Psd (N +ℤ n) (S +ℤ s) (T +ℤ t) (A +ℤ q) (B +ℤ r) (P +ℤ p)
unfolding Psd NonNeg
psd-add N S T A B P n s t q r p g h a b c = subst NonNeg (splits N S T A B P n s t q r p a b c) (add-nonneg (g a b c) (h a b c))
