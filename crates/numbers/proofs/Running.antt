-- Running sums that wrap at 64 bits, as a loop keeps them.
-- Assumes nothing.
use mathlib.Core.Path.{◌≡◌, refl, sym, ◌∙◌, ap}
use Prim.Native.Nat.{ℕ, zero, suc, ◌+◌, ◌-◌, ◌≤◌, ◌<◌}
use native.Mathlib.Omega.{arith}
use lib.IntN.{ℤ, pos, ◌+ℤ◌}
use Rattle.numbers.specs.Sum.{sum_to}
use Rattle.numbers.specs.Wrap.{wrap}
use Rattle.numbers.proofs.Wraps.{wrap-eq, residue-wrap, wrap-add, wrap-add-right}

pub wrap-wrap : (x : ℤ) → wrap (wrap x) ≡ wrap x
wrap-wrap x = wrap-eq (wrap x) x (residue-wrap x)

-- ---- the first n values
pub running_none : (f : ℕ → ℤ) → pos 0 ≡ wrap (sum_to 0 f)
unfolding sum_to wrap
running_none f = refl

-- one value more, itself wrapped or not
pub running_more : (f : ℕ → ℤ) (n : ℕ) (s x : ℤ) → s ≡ wrap (sum_to n f) → wrap x ≡ wrap (f n) → wrap (s +ℤ x) ≡ wrap (sum_to (suc n) f)
unfolding sum_to
running_more f n s x e h =
    ap (λ (v : ℤ). wrap (v +ℤ x)) e
    ∙ sym (wrap-add-right (wrap (sum_to n f)) x)
    ∙ ap (λ (v : ℤ). wrap (wrap (sum_to n f) +ℤ v)) h
    ∙ wrap-add-right (wrap (sum_to n f)) (f n)
    ∙ wrap-add (sum_to n f) (f n)

-- the values may be wrapped or not
pub running-same : (n : ℕ) (f g : ℕ → ℤ) → ((k : ℕ) → k < n → wrap (f k) ≡ wrap (g k)) → wrap (sum_to n f) ≡ wrap (sum_to n g)
unfolding sum_to
running-same zero f g h = refl
running-same (suc n) f g h =
    sym (wrap-add (sum_to n f) (f n)) ∙ running_more g n (wrap (sum_to n f)) (f n) (running-same n f g (λ k k<. h k (omega arith))) (h n (omega arith))

-- ---- the values from lo up to m
pub range_none : (f : ℕ → ℤ) (lo : ℕ) → pos 0 ≡ wrap (sum_to (lo - lo) (λ k. f (lo + k)))
range_none f lo =
    let e : lo - lo ≡ 0 = omega arith in
    rw e (running_none (λ k. f (lo + k)))

pub range-more : (f : ℕ → ℤ) (lo m : ℕ) (s x : ℤ) → lo ≤ m → s ≡ wrap (sum_to (m - lo) (λ k. f (lo + k))) → wrap x ≡ wrap (f m)
    → wrap (s +ℤ x) ≡ wrap (sum_to (m + 1 - lo) (λ k. f (lo + k)))
range-more f lo m s x l e h =
    let p : lo + (m - lo) ≡ m = omega arith in
    let q : suc (m - lo) ≡ m + 1 - lo = omega arith in
    running_more (λ k. f (lo + k)) (m - lo) s x e (h ∙ ap (λ (k : ℕ). wrap (f k)) (sym p))
    ∙ ap (λ (n : ℕ). wrap (sum_to n (λ k. f (lo + k)))) q
