-- `row_loops::enter_and_leave::numbers_fit` meets its contract. Assumes nothing.
use Prim.Native.Nat.{ℕ, ◌<◌}
use borrow.Author.Rules.{rules}
use native.Mathlib.Omega.{arith}
use native.Mathlib.Decide.{dec_lt}
use mathlib.Core.Path.{◌≡◌, refl}
use mathlib.Core.List.{List}
use lib.IntN.{ℤ, pos}
use lib.ListN.{length}
use borrow.Author.Count.{below_more}
use Rattle.numbers.specs.Wrap.{wrap}
use Rattle.numbers.proofs.Wraps.{wrap-fits}
use Rattle.numbers.proofs.Writes.{at}
use Rattle.row_loops.specs.Added.{Numbers}
use Rattle.row_loops.proofs.enter_and_leave.numbers_fit.Goals as goal
use Rattle.std.proofs.lemmas.List.{get_or_past}

pub loop-k-preserved : goal.loop-k-preserved
loop-k-preserved c = below_more _ _ c.loop-k.invariant (wrap-fits _ (search rules))

pub returns : goal.returns
returns c = numbers c.args.sums.now (λ k h. c.loop-k.invariant k (omega arith))
  where
    numbers : (l : List ℤ) → ((k : ℕ) → k < length l → wrap (at l k) ≡ at l k) → Numbers l
    numbers l h = record { whole = λ k. go k (dec_lt k (length l)) }
      where
        go : (k : ℕ) → Dec (k < length l) → wrap (at l k) ≡ at l k
        go k (yes b) = h k b
        go k (no b) = rw (get_or_past l k (pos 0) (omega arith)) (unfold wrap in refl)
