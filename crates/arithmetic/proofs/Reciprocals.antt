-- A quotient by multiplication, and the nearest whole number as a quotient of naturals.
-- Assumes nothing.
use mathlib.Core.Path.{◌≡◌, ap₂, ◌∙◌}
use mathlib.Core.List.{[], ◌∷◌}
use Prim.Native.Nat.{ℕ, ◌+◌, ◌-◌, ◌*◌, ◌/◌, ◌%◌, ◌^◌, ◌≤◌, ◌<◌}
use native.Mathlib.Omega.{arith}
use native.Mathlib.Nat.{div-le_self, div-add-mod', mod-lt, mul-le-mul, mul-le-mul_left, mul-le-mul_right}
use native.Mathlib.Decide.{dec_lt}
use lib.IntN.{ℤ, pos, nat_abs, ◌+ℤ◌, ◌-ℤ◌, ◌*ℤ◌}
use mir.Syntax.{w64}
use mir.Val.{SFits, to_z, of_z}
use Rattle.std.proofs.lemmas.Int.{ints}
use Rattle.numbers.specs.Round.{nearest}
use Rattle.numbers.proofs.Integers.{add-law, sub-lawℤ, leℤ, ltℤ, of_eq}
use Rattle.numbers.proofs.Magnitudes.{size-mul, size-add}
use Rattle.numbers.proofs.Ring.{X, ◌⊖◌, ◌⊗◌, ring}
use Rattle.numbers.proofs.Rounds.{nearest-law, nearest-unique}
use Rattle.arithmetic.specs.Quotients.{reciprocal}

-- With M d = 2^64 - t and x = q d + r, the product (x + 1) M is q 2^64 and (r + 1) M - q t, which is between 0 and 2^64.
module _ (x d : ℕ) (some : 0 < d) (few : d ≤ 2 ^ 20) (small : x < 2 ^ 40) where
  abbrev M : ℕ
  M = (2 ^ 64 - 1) / d

  abbrev t : ℕ
  t = (2 ^ 64 - 1) % d + 1

  abbrev q : ℕ
  q = x / d

  abbrev r : ℕ
  r = x % d

  whole : M * d + t ≡ 2 ^ 64
  whole = omega (arith, div-add-mod' (2 ^ 64 - 1) d)

  large : 2 ^ 43 ≤ M
  large = go (dec_lt M (2 ^ 43))
    where
      go : Dec (M < 2 ^ 43) → 2 ^ 43 ≤ M
      go (yes h) =
          let most : M * d ≤ 2 ^ 43 * 2 ^ 20 = mul-le-mul {n₂ = 2 ^ 43} (omega arith) few in
          absurd (omega (arith, whole, mod-lt (2 ^ 64 - 1) some))
      go (no h) = omega arith

  product : (x + 1) * M + q * t ≡ q * 2 ^ 64 + (r + 1) * M
  product =
      let e : (q * d + (r + 1)) * M + q * t ≡ q * (M * d + t) + (r + 1) * M = omega arith in
      let n : q * d + (r + 1) ≡ x + 1 = omega (arith, div-add-mod' x d) in
      rw (← n, e, whole)

  pub by_reciprocal : (high low : ℕ) → high * 2 ^ 64 + low ≡ (x + 1) * M → low < 2 ^ 64 → high ≡ x / d
  by_reciprocal high low e l =
      let above : (r + 1) * M ≤ d * M = mul-le-mul_right M (omega (arith, mod-lt x some)) in
      let some-M : 1 * M ≤ (r + 1) * M = mul-le-mul_right M (omega arith) in
      let below : q * t ≤ q * d = mul-le-mul_left q (omega (arith, mod-lt (2 ^ 64 - 1) some)) in
      omega (arith, product, large, whole, div-add-mod' x d)

-- nearest to x / d, by a quotient of naturals
pub nearest-raised : (x : ℤ) (d u : ℕ) → 0 < d → pos u ≡ pos 2 *ℤ x +ℤ pos (65537 * d) → pos (u / (2 * d)) -ℤ pos 32768 ≡ nearest x d
nearest-raised x d u some e =
    let w = pos (2 * d) in
    let q = u / (2 * d) in
    let m = pos q -ℤ pos 32768 in
    let f : w *ℤ m ≡ w *ℤ pos q -ℤ w *ℤ pos 32768 = ring (X 0 ⊗ (X 1 ⊖ X 2)) (X 0 ⊗ X 1 ⊖ X 0 ⊗ X 2) (w ∷ pos q ∷ pos 32768 ∷ []) tt in
    let a = div-add-mod' u (2 * d) in
    let b : u % (2 * d) < 2 * d = mod-lt u (omega arith) in
    nearest-unique x d m (nearest x d) some
    (record {
      below = leℤ (w *ℤ m -ℤ pos d) (pos 2 *ℤ x) (omega (arith, of_eq f, of_eq e, add-law (pos 2 *ℤ x) (pos (65537 * d)), sub-lawℤ (w *ℤ m) (pos d), sub-lawℤ (w *ℤ pos q) (w *ℤ pos 32768)));
      above = ltℤ (pos 2 *ℤ x) (w *ℤ m +ℤ pos d) (omega (arith, of_eq f, of_eq e, add-law (pos 2 *ℤ x) (pos (65537 * d)), add-law (w *ℤ m) (pos d), sub-lawℤ (w *ℤ pos q) (w *ℤ pos 32768)));
    })
    (nearest-law x d some)

-- a sum of d levels, and the reciprocal of d
pub record Dividend (x : ℤ) (d by : ℕ) : Type 0 where
  pub some : 0 < d
  pub few : d ≤ 65025
  pub small : nat_abs x ≤ 32768 * d
  pub known : by ≡ reciprocal d

-- the upper word of the product, where the code holds its signed numbers as bits
module _ (x : ℤ) (fits : SFits w64 x) (d by : ℕ) (h : Dividend x d by) (high low : ℕ) (l : low < 2 ^ 64) where
  abbrev held : ℤ
  held = to_z w64 (of_z w64 (to_z w64 (of_z w64 (pos 2 *ℤ to_z w64 (of_z w64 x))) +ℤ to_z w64 (of_z w64 (pos 65537 *ℤ to_z w64 d))))

  abbrev raised : ℤ
  raised = pos 2 *ℤ x +ℤ pos (65537 * d)

  held-is : held ≡ raised
  held-is = omega (arith, ints, h.few, h.small)

  raised-size : nat_abs raised ≤ 131073 * d
  raised-size = omega (arith, h.small, size-mul (pos 2) x, size-add (pos 2 *ℤ x) (pos (65537 * d)))

  raised-whole : pos (nat_abs raised) ≡ raised
  raised-whole = omega (arith, ints, h.small)

  module _ (e : high * 2 ^ 64 + low ≡ (nat_abs held + 1) * by) where
    high-is : high ≡ nat_abs raised / (2 * d)
    high-is =
        by_reciprocal (nat_abs raised) (2 * d) (omega (arith, h.some)) (omega (arith, h.few)) (omega (arith, raised-size, h.few))
        high low (e ∙ ap₂ (λ (z : ℤ) (m : ℕ). (nat_abs z + 1) * m) held-is h.known) l

    pub high-small : high < 2 ^ 40
    high-small = omega (arith, high-is, div-le_self (nat_abs raised) (2 * d), raised-size, h.few)

    pub high-nearest : to_z w64 (of_z w64 (to_z w64 high -ℤ pos 32768)) ≡ nearest x d
    high-nearest =
        let e : to_z w64 (of_z w64 (to_z w64 high -ℤ pos 32768)) ≡ pos high -ℤ pos 32768 = omega (arith, ints, high-small) in
        e ∙ rw high-is (nearest-raised x d (nat_abs raised) h.some raised-whole)
