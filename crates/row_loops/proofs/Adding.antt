-- A row of sums to each of which a number is added, from the front on.
-- Assumes nothing.
use Rattle.std.proofs.Common.{◌≡◌, ℕ, ◌+◌, ◌<◌, ◌≤◌, List, length, set, refl, ap, ◌∙◌, ℤ, pos, ◌+ℤ◌, arith}
use native.Mathlib.Decide.{ℕ_discrete}
use lib.ListN.{length-set}
use lib.Seq.{get_or-set_same, get_or-set_other}
use Rattle.numbers.specs.Grid.{tabulate}
use Rattle.numbers.specs.Wrap.{wrap}
use Rattle.numbers.proofs.Writes.{at, is-tabulate}
use Rattle.row_loops.specs.Added.{AddedEach}

-- to the first n sums a number was added, and the others are as they were
pub record AddedUpto (By : ℕ → ℤ → Type 0) (old now : List ℤ) (n : ℕ) : Type 0 where
  pub bound : n ≤ length old
  pub size : length now ≡ length old
  pub done : (k : ℕ) → k < n → (x : ℤ) × By k x × (at now k ≡ wrap (at old k +ℤ x))
  pub rest : (k : ℕ) → n ≤ k → at now k ≡ at old k

pub added_none : (By : ℕ → ℤ → Type 0) (old : List ℤ) → AddedUpto By old old 0
added_none By old = record { bound = omega arith; size = refl; done = λ k h. absurd (omega arith); rest = λ k h. refl }

module _ {By : ℕ → ℤ → Type 0} {old now : List ℤ} {n : ℕ} (u : AddedUpto By old now n) (v x : ℤ) (h : n < length old) (p : By n x) (e : v ≡ wrap (at now n +ℤ x)) where
  done-by : (k : ℕ) → k < n + 1 → Dec (k ≡ n) → (x : ℤ) × By k x × (at (set now n v) k ≡ wrap (at old k +ℤ x))
  done-by k l (yes q) =
      let here : at (set now n v) n ≡ wrap (at old n +ℤ x) =
      get_or-set_same now n v (pos 0) (omega (arith, u.size)) ∙ e ∙ ap (λ (z : ℤ). wrap (z +ℤ x)) (u.rest n (omega arith)) in
      rw q (x, p, here)
  done-by k l (no q) =
      let before = u.done k (omega arith) in
      (before.0, before.1, get_or-set_other now n k v (pos 0) q ∙ before.2)

  pub added_more : AddedUpto By old (set now n v) (n + 1)
  added_more = record {
    bound = omega arith;
    size = length-set now n v ∙ u.size;
    done = λ k l. done-by k l (ℕ_discrete k n);
    rest = λ k l. get_or-set_other now n k v (pos 0) (λ q. omega arith) ∙ u.rest k (omega arith);
  }

-- where the number is known at each place
pub added_all : (By : ℕ → ℤ → Type 0) (f : ℕ → ℤ) (old new : List ℤ) → AddedEach By old new → ((k : ℕ) (x : ℤ) → k < length old → By k x → x ≡ f k) → new ≡ tabulate (length old) (λ k. wrap (at old k +ℤ f k))
added_all By f old new a h =
    is-tabulate new (length old) (λ k. wrap (at old k +ℤ f k)) a.size
    (λ k l. let b = a.each k l in b.2 ∙ ap (λ (x : ℤ). wrap (at old k +ℤ x)) (h k b.0 l b.1))
