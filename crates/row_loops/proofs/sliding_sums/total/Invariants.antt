-- What the loop of `row_loops::sliding_sums::total` keeps. Assumes nothing.
use mathlib.Core.Path.{◌≡◌}
use Rattle.numbers.specs.Sum.{sum_to}
use Rattle.numbers.specs.Wrap.{wrap}
use Rattle.numbers.proofs.Writes.{at}
use Rattle.row_loops.proofs.sliding_sums.total.Given as goal

abbrev pub invariant-loop-k : goal.invariant-loop-k
invariant-loop-k l = l.s ≡ wrap (sum_to l.k (at l.work))
