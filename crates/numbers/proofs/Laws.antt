-- The ring laws that lib.IntN lacks, and the laws of the order, by omega over Diff's laws. Assumes nothing.
use mathlib.Core.Path.{◌≡◌, sym, ap, ◌∙◌}
use Prim.Native.Nat.{ℕ, zero, suc, ◌*◌}
use native.Mathlib.Omega.{arith}
use lib.IntN.{ℤ, pos, negsuc, neg_ℤ, ◌+ℤ◌, ◌-ℤ◌, ◌*ℤ◌, *ℤ_comm, +ℤ_assoc, +ℤ_comm}
use lib.Signed.{◌≤ℤ◌, ◌<ℤ◌}
use Rattle.numbers.proofs.Integers.{up, dn, add-law, sub-lawℤ, mul-law, up_neg, dn-neg, eqℤ, leℤ, of_le, ltℤ, of_lt}

pub mul-addℤ : (x y z : ℤ) → x *ℤ (y +ℤ z) ≡ x *ℤ y +ℤ x *ℤ z
mul-addℤ x y z = eqℤ (x *ℤ (y +ℤ z)) (x *ℤ y +ℤ x *ℤ z)
    (omega (
      arith,
      mul-law x (y +ℤ z),
      mul-law x y,
      mul-law x z,
      add-law (x *ℤ y) (x *ℤ z),
      ap (λ (n : ℕ). up x * n) (add-law y z),
      ap (λ (n : ℕ). dn x * n) (add-law y z),
    ))

pub add-mulℤ : (x y z : ℤ) → (x +ℤ y) *ℤ z ≡ x *ℤ z +ℤ y *ℤ z
add-mulℤ x y z = *ℤ_comm (x +ℤ y) z ∙ mul-addℤ z x y ∙ ap (λ (w : ℤ). w +ℤ z *ℤ y) (*ℤ_comm z x) ∙ ap (λ (w : ℤ). x *ℤ z +ℤ w) (*ℤ_comm z y)

pub mul-assocℤ : (x y z : ℤ) → (x *ℤ y) *ℤ z ≡ x *ℤ (y *ℤ z)
mul-assocℤ x y z = eqℤ ((x *ℤ y) *ℤ z) (x *ℤ (y *ℤ z))
    (omega (
      arith,
      mul-law (x *ℤ y) z,
      mul-law x (y *ℤ z),
      ap (λ (n : ℕ). n * up z) (mul-law x y),
      ap (λ (n : ℕ). n * dn z) (mul-law x y),
      ap (λ (n : ℕ). up x * n) (mul-law y z),
      ap (λ (n : ℕ). dn x * n) (mul-law y z),
    ))

pub mul-left-commℤ : (x y z : ℤ) → x *ℤ (y *ℤ z) ≡ y *ℤ (x *ℤ z)
mul-left-commℤ x y z = sym (mul-assocℤ x y z) ∙ ap (λ (w : ℤ). w *ℤ z) (*ℤ_comm x y) ∙ mul-assocℤ y x z

pub add-left-commℤ : (x y z : ℤ) → x +ℤ (y +ℤ z) ≡ y +ℤ (x +ℤ z)
add-left-commℤ x y z = sym (+ℤ_assoc x y z) ∙ ap (λ (w : ℤ). w +ℤ z) (+ℤ_comm x y) ∙ +ℤ_assoc y x z

pub one-mulℤ : (x : ℤ) → pos 1 *ℤ x ≡ x
one-mulℤ x = eqℤ (pos 1 *ℤ x) x (omega (arith, mul-law (pos 1) x))

pub mul-oneℤ : (x : ℤ) → x *ℤ pos 1 ≡ x
mul-oneℤ x = eqℤ (x *ℤ pos 1) x (omega (arith, mul-law x (pos 1)))

pub neg-one-mulℤ : (x : ℤ) → negsuc 0 *ℤ x ≡ neg_ℤ x
neg-one-mulℤ x = eqℤ (negsuc 0 *ℤ x) (neg_ℤ x) (omega (arith, mul-law (negsuc 0) x, up_neg x, dn-neg x))

-- ---- order
pub ≤ℤ-trans : {x y z : ℤ} → x ≤ℤ y → y ≤ℤ z → x ≤ℤ z
≤ℤ-trans {x} {y} {z} h k = leℤ x z (omega (arith, of_le h, of_le k))

pub ≤ℤ-antisym : {x y : ℤ} → x ≤ℤ y → y ≤ℤ x → x ≡ y
≤ℤ-antisym {x} {y} h k = eqℤ x y (omega (arith, of_le h, of_le k))

pub add-nonneg : {x y : ℤ} → pos 0 ≤ℤ x → pos 0 ≤ℤ y → pos 0 ≤ℤ (x +ℤ y)
add-nonneg {x} {y} h k = leℤ (pos 0) (x +ℤ y) (omega (arith, of_le h, of_le k, add-law x y))

-- x ≤ y exactly where y - x is not negative
pub le-of-sub : (x y : ℤ) → pos 0 ≤ℤ (y -ℤ x) → x ≤ℤ y
le-of-sub x y h = leℤ x y (omega (arith, of_le h, sub-lawℤ y x))

pub sub-of-le : (x y : ℤ) → x ≤ℤ y → pos 0 ≤ℤ (y -ℤ x)
sub-of-le x y h = leℤ (pos 0) (y -ℤ x) (omega (arith, of_le h, sub-lawℤ y x))

pub sq-nonneg : (x : ℤ) → pos 0 ≤ℤ (x *ℤ x)
sq-nonneg (pos a) = leℤ (pos 0) (pos a *ℤ pos a) (omega arith)
sq-nonneg (negsuc a) = leℤ (pos 0) (negsuc a *ℤ negsuc a) (omega arith)

-- a product that is not negative, with a positive factor
pub pos-cancel : (x y : ℤ) → pos 0 <ℤ x → pos 0 ≤ℤ (x *ℤ y) → pos 0 ≤ℤ y
pos-cancel (pos (suc a)) (pos b) h k = leℤ (pos 0) (pos b) (omega arith)
pos-cancel (pos (suc a)) (negsuc b) h k = absurd (omega (arith, of_le k, mul-law (pos (suc a)) (negsuc b)))
pos-cancel (pos zero) y h k = absurd (omega (arith, of_lt h))
pos-cancel (negsuc a) y h k = absurd h.lt

pub pos-cancel-lt : (x y : ℤ) → pos 0 <ℤ x → pos 0 <ℤ (x *ℤ y) → pos 0 <ℤ y
pos-cancel-lt (pos (suc a)) (pos (suc b)) h k = ltℤ (pos 0) (pos (suc b)) (omega arith)
pos-cancel-lt (pos (suc a)) (pos zero) h k = absurd (omega (arith, of_lt k))
pos-cancel-lt (pos (suc a)) (negsuc b) h k = absurd (omega (arith, of_lt k, mul-law (pos (suc a)) (negsuc b)))
pos-cancel-lt (pos zero) y h k = absurd (omega (arith, of_lt h))
pos-cancel-lt (negsuc a) y h k = absurd h.lt
