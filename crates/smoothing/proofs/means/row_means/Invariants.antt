-- What the loops of `smoothing::means::row_means` keep. Assumes nothing.
use lib.IntN.{nat_abs}
use Rattle.numbers.specs.Round.{nearest}
use Rattle.numbers.proofs.Writes.{at, Upto}
use Rattle.smoothing.proofs.means.row_means.Given as goal

abbrev pub invariant-loop-j : goal.invariant-loop-j
invariant-loop-j l = Upto (λ k. nearest (at l.s k) (nat_abs (at l.n k))) l.initial.out l.out l.j
