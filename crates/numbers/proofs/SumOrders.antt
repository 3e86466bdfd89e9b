-- The order of sums.
-- Assumes nothing.
use mathlib.Core.Path.{◌≡◌, refl, sym}
use Prim.Native.Nat.{ℕ, zero, suc, ◌<◌}
use native.Mathlib.Omega.{arith}
use native.Mathlib.Decide.{dec_lt}
use mathlib.Core.Bool.{Bool, true, false}
use lib.IntN.{ℤ, pos, ◌+ℤ◌, ◌*ℤ◌, *ℤ-zero}
use lib.Signed.{◌≤ℤ◌, ≤ℤ_refl}
use Rattle.numbers.specs.Sum.{sum_to, pick}
use Rattle.numbers.proofs.Integers.{add-law, leℤ, of_le}
use Rattle.numbers.proofs.Laws.{add-nonneg, mul-addℤ}

pub add-le : {a b c d : ℤ} → a ≤ℤ b → c ≤ℤ d → (a +ℤ c) ≤ℤ (b +ℤ d)
add-le {a} {b} {c} {d} h k = leℤ (a +ℤ c) (b +ℤ d) (omega (arith, of_le h, of_le k, add-law a c, add-law b d))

pub sum-le : (n : ℕ) (f g : ℕ → ℤ) → ((k : ℕ) → k < n → f k ≤ℤ g k) → sum_to n f ≤ℤ sum_to n g
unfolding sum_to
sum-le zero f g h = ≤ℤ_refl (pos 0)
sum-le (suc n) f g h = add-le (sum-le n f g (λ k l. h k (omega arith))) (h n (omega arith))

pub sum-scale : (n : ℕ) (c : ℤ) (f : ℕ → ℤ) → sum_to n (λ k. c *ℤ f k) ≡ c *ℤ sum_to n f
unfolding sum_to
sum-scale zero c f = sym (*ℤ-zero c)
sum-scale (suc n) c f = rw (sum-scale n c f) (sym (mul-addℤ c (sum_to n f) (f n)))

pub sum_nonneg : (n : ℕ) (f : ℕ → ℤ) → ((k : ℕ) → pos 0 ≤ℤ f k) → pos 0 ≤ℤ sum_to n f
unfolding sum_to
sum_nonneg zero f h = ≤ℤ_refl (pos 0)
sum_nonneg (suc n) f h = add-nonneg (sum_nonneg n f h) (h n)

-- one of the values, none of which is negative
pub sum_one : (n k : ℕ) (f : ℕ → ℤ) → ((k : ℕ) → pos 0 ≤ℤ f k) → k < n → f k ≤ℤ sum_to n f
unfolding sum_to
sum_one zero k f h l = absurd (omega arith)
sum_one (suc n) k f h l = go (sum_one n k f h) (dec_lt k n)
  where
    go : (k < n → f k ≤ℤ sum_to n f) → Dec (k < n) → f k ≤ℤ (sum_to n f +ℤ f n)
    go ih (yes m) = leℤ (f k) (sum_to n f +ℤ f n) (omega (arith, of_le (ih m), of_le (h n), add-law (sum_to n f) (f n)))
    go ih (no m) =
        let e : k ≡ n = omega arith in
        rw e (leℤ (f n) (sum_to n f +ℤ f n) (omega (arith, of_le (sum_nonneg n f h), add-law (sum_to n f) (f n))))

pub pick-le : (b : Bool) (x y : ℤ) → x ≤ℤ y → pick b x ≤ℤ pick b y
unfolding pick
pick-le true x y h = h
pick-le false x y h = ≤ℤ_refl (pos 0)

pub pick-nonneg : (b : Bool) (x : ℤ) → pos 0 ≤ℤ x → pos 0 ≤ℤ pick b x
unfolding pick
pick-nonneg true x h = h
pick-nonneg false x h = ≤ℤ_refl (pos 0)

pub pick-scale : (b : Bool) (c x : ℤ) → pick b (c *ℤ x) ≡ c *ℤ pick b x
unfolding pick
pick-scale true c x = refl
pick-scale false c x = sym (*ℤ-zero c)
