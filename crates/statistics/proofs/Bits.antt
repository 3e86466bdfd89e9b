-- A root bit by bit: what the bits from the top of ten are worth, and what a turn keeps.
-- Assumes nothing.
use mathlib.Core.Path.{◌≡◌, sym, ap, ◌∙◌}
use Prim.Native.Nat.{ℕ, suc, ◌+◌, ◌-◌, ◌*◌, ◌/◌, ◌^◌, ◌≤◌, ◌<◌}
use native.Mathlib.Nat.{pow-suc, one-le-pow, mul-div_cancel, mul-le-mul}
use native.Mathlib.Omega.{arith}
use lib.Pow.{pow-add}
use Rattle.spec_statistics.proofs.Halving.{Between}

worth : (k : ℕ) → k < 10 → 512 / 2 ^ k ≡ 2 ^ (9 - k)
worth k h =
    let whole : (9 - k) + k ≡ 9 = omega arith in
    let e : 2 ^ (9 - k) * 2 ^ k ≡ 2 ^ 9 = sym (pow-add 2 (9 - k) k) ∙ ap (λ (n : ℕ). 2 ^ n) whole in
    ap (λ (n : ℕ). n / 2 ^ k) (sym e) ∙ mul-div_cancel (2 ^ (9 - k)) (one-le-pow k 2 (omega arith))

double : (k : ℕ) → k < 10 → 2 ^ (10 - k) ≡ 2 ^ (9 - k) + 2 ^ (9 - k)
double k h = let e : 10 - k ≡ suc (9 - k) = omega arith in rw (e, pow-suc) (omega arith)

-- before bit k from the top the root is at least c, and less than c and all that is left
module _ (v q c k : ℕ) (b : Between v q 1024 c (c + 2 ^ (10 - k))) (h : k < 10) where
  after : 2 ^ (10 - (k + 1)) ≡ 2 ^ (9 - k)
  after = let e : 10 - (k + 1) ≡ 9 - k = omega arith in ap (λ (n : ℕ). 2 ^ n) e

  pub more-small : c + 512 / 2 ^ k ≤ 1024
  more-small = omega (arith, worth k h, double k h, b.within)

  pub square-small : (c + 512 / 2 ^ k) * (c + 512 / 2 ^ k) ≤ 1024 * 1024
  square-small = mul-le-mul more-small more-small

  pub bit-set : (c + 512 / 2 ^ k) * (c + 512 / 2 ^ k) * q ≤ v → Between v q 1024 (c + 512 / 2 ^ k) (c + 512 / 2 ^ k + 2 ^ (10 - (k + 1)))
  bit-set l =
      let top : c + 512 / 2 ^ k + 2 ^ (10 - (k + 1)) ≡ c + 2 ^ (10 - k) = omega (arith, after, worth k h, double k h) in
      record { order = omega (arith, top, worth k h, double k h, b.order); within = omega (arith, top, b.within); reached = l; passed = rw top b.passed }

  pub bit-unset : v < (c + 512 / 2 ^ k) * (c + 512 / 2 ^ k) * q → Between v q 1024 c (c + 2 ^ (10 - (k + 1)))
  bit-unset l =
      let top : c + 2 ^ (10 - (k + 1)) ≡ c + 512 / 2 ^ k = omega (arith, after, worth k h) in
      record { order = omega (arith, after, double k h, b.order); within = omega (arith, top, more-small); reached = b.reached; passed = rw top l }
