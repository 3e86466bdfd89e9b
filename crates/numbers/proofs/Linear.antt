-- Identities of ℤ by `omega`: an integer is written as a difference of two naturals, of any two, and a sum, a
-- difference and a product of integers is one of sums and products of those: `ring (search (sums, any a, any b)) (omega arith)`.
-- Assumes nothing.
use mathlib.Core.Path.{◌≡◌, refl, ap}
use Prim.Native.Nat.{ℕ, ◌+◌, ◌*◌}
use native.Mathlib.Omega.{arith}
use lib.IntN.{ℤ, pos, ◌+ℤ◌, ◌*ℤ◌, neg_ℤ}
use Rattle.numbers.proofs.Integers.{up, dn, add-law, mul-law, up_neg, dn-neg, eqℤ}

-- x is a - b
pub data Diff (x : ℤ) : Type 0 where
  diff : (a b : ℕ) → up x + b ≡ a + dn x → Diff x

abbrev pub plus : {x : ℤ} → Diff x → ℕ
plus (diff a b h) = a

abbrev pub minus : {x : ℤ} → Diff x → ℕ
minus (diff a b h) = b

pub data Both (x y : ℤ) : Type 0 where
  both : Diff x → Diff y → Both x y

-- ---- how an integer is written
abbrev pub any : (x : ℤ) → Diff x
any x = diff (up x) (dn x) refl

abbrev pub nat : (n : ℕ) → Diff (pos n)
nat n = diff n 0 (omega arith)

abbrev pub add : {x y : ℤ} → Diff x → Diff y → Diff (x +ℤ y)
add {x} {y} (diff a b h) (diff c d k) = diff (a + c) (b + d) (omega (arith, add-law x y))

abbrev pub neg : {x : ℤ} → Diff x → Diff (neg_ℤ x)
neg {x} (diff a b h) = diff b a (omega (arith, up_neg x, dn-neg x))

pub times : (x y : ℤ) (a b c d : ℕ) → up x + b ≡ a + dn x → up y + d ≡ c + dn y →
    up (x *ℤ y) + (a * d + b * c) ≡ (a * c + b * d) + dn (x *ℤ y)
times x y a b c d h k =
    let h1 : (up x + b) * up y ≡ (a + dn x) * up y = ap (λ (t : ℕ). t * up y) h in
    let h2 : (up x + b) * dn y ≡ (a + dn x) * dn y = ap (λ (t : ℕ). t * dn y) h in
    let k1 : a * (up y + d) ≡ a * (c + dn y) = ap (λ (t : ℕ). a * t) k in
    let k2 : b * (up y + d) ≡ b * (c + dn y) = ap (λ (t : ℕ). b * t) k in
    omega (arith, mul-law x y)

abbrev pub mul : {x y : ℤ} → Diff x → Diff y → Diff (x *ℤ y)
mul {x} {y} (diff a b h) (diff c d k) = diff (a * c + b * d) (a * d + b * c) (times x y a b c d h k)

pub ruleset sums = (both, add, neg, nat, mul)

-- ---- equations, from those of the naturals
abbrev pub Same : {x y : ℤ} → Both x y → Type 0
Same (both p q) = plus p + minus q ≡ plus q + minus p

pub ring : {x y : ℤ} (p : Both x y) → Same p → x ≡ y
ring {x} {y} (both (diff a b h) (diff c d k)) e = eqℤ x y (omega arith)
