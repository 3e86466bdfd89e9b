-- Sums that a loop makes of a row's values.
-- Assumes nothing.
use mathlib.Core.Path.{◌≡◌, refl, sym, ap, ap₂, ◌∙◌}
use mathlib.Core.List.{List}
use lib.ListN.{length}
use Prim.Native.Nat.{ℕ, zero, suc, ◌+◌, ◌-◌, ◌*◌, ◌≤◌, ◌<◌}
use native.Mathlib.Omega.{arith}
use native.Mathlib.Numerals.{add-one}
use lib.IntN.{ℤ, pos, nat_abs, ◌+ℤ◌, ◌*ℤ◌}
use mir.Syntax.{w16, w32}
use mir.Val.{SFits}
use Rattle.numbers.specs.Sum.{sum_to}
use Rattle.numbers.proofs.Magnitudes.{size-add, fits-at}
use Rattle.numbers.proofs.Widths.{level-size}
use Rattle.numbers.proofs.Sums.{sum-suc, sum-cong}
use Rattle.numbers.proofs.Writes.{at}
use Rattle.plane_rows.specs.LevelRows.{Cells}

-- ---- levels, in 32 bits: s is the sum of the first k
pub record Exact (f : ℕ → ℤ) (k : ℕ) (s : ℤ) : Type 0 where
  pub sum : s ≡ sum_to k f
  pub bound : nat_abs s ≤ k * 32768

pub exact_none : (f : ℕ → ℤ) → Exact f 0 (pos 0)
unfolding sum_to
exact_none f = record { sum = refl; bound = omega arith }

module _ (f : ℕ → ℤ) (k : ℕ) (s : ℤ) (e : Exact f k s) (level : SFits w16 (f k)) where
  pub exact-more : Exact f (k + 1) (s +ℤ f k)
  exact-more = record {
    sum = ap (λ (z : ℤ). z +ℤ f k) e.sum ∙ sym (sum-suc k f) ∙ ap (λ (n : ℕ). sum_to n f) (sym (add-one k));
    bound = omega (arith, e.bound, size-add s (f k), level-size (f k) level);
  }

  pub exact-fits : k < 1024 → SFits w32 (s +ℤ f k)
  exact-fits h = fits-at w32 (s +ℤ f k) (omega (arith, e.bound, size-add s (f k), level-size (f k) level))

-- ---- by the cells that they are
module _ (P : ℕ → ℕ → ℤ) (m start end : ℕ) (a : List ℤ) (c : Cells P m start end a) where
  size : length a ≡ end - start
  size = omega (arith, c.size)

  pub levels-summed : sum_to (length a) (at a) ≡ sum_to (end - start) (λ k. P m (start + k))
  levels-summed = sum-cong (length a) (at a) (λ k. P m (start + k)) c.same ∙ ap (λ (n : ℕ). sum_to n (λ k. P m (start + k))) size

  pub products-summed : (Q : ℕ → ℕ → ℤ) (b : List ℤ) → Cells Q m start end b → sum_to (length a) (λ k. at a k *ℤ at b k) ≡ sum_to (end - start) (λ k. P m (start + k) *ℤ Q m (start + k))
  products-summed Q b d =
      sum-cong (length a) (λ k. at a k *ℤ at b k) (λ k. P m (start + k) *ℤ Q m (start + k)) (λ k k<. ap₂ ◌*ℤ◌ (c.same k k<) (d.same k (omega (arith, c.size, d.size))))
      ∙ ap (λ (n : ℕ). sum_to n (λ k. P m (start + k) *ℤ Q m (start + k))) size

-- ---- cells that are all ones
pub count : (n : ℕ) (f : ℕ → ℤ) → ((k : ℕ) → k < n → f k ≡ pos 1) → pos n ≡ sum_to n f
unfolding sum_to
count zero f h = refl
count (suc n) f h =
    let e : suc n ≡ n + 1 = omega arith in
    ap pos e ∙ ap₂ ◌+ℤ◌ (count n f (λ k k<. h k (omega arith))) (sym (h n (omega arith)))
