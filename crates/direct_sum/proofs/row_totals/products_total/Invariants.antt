-- What the loops of `direct_sum::row_totals::products_total` keep. Assumes nothing.
use mathlib.Core.Path.{◌≡◌}
use lib.IntN.{◌*ℤ◌}
use Rattle.numbers.specs.Sum.{sum_to}
use Rattle.numbers.specs.Wrap.{wrap}
use Rattle.numbers.proofs.Writes.{at}
use Rattle.direct_sum.proofs.row_totals.products_total.Given as goal

abbrev pub invariant-loop-k : goal.invariant-loop-k
invariant-loop-k l = l.s ≡ wrap (sum_to l.k (λ n. at l.a n *ℤ at l.b n))
