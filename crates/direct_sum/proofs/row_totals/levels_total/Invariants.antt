-- What the loops of `direct_sum::row_totals::levels_total` keep. Assumes nothing.
use Rattle.numbers.proofs.Writes.{at}
use Rattle.direct_sum.proofs.Totals.{Exact}
use Rattle.direct_sum.proofs.row_totals.levels_total.Given as goal

abbrev pub invariant-loop-level : goal.invariant-loop-level
invariant-loop-level l = Exact (at l.levels) l.level-index l.s
