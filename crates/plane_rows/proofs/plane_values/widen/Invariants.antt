-- What the loops of `plane_rows::plane_values::widen` keep. Assumes nothing.
use Rattle.numbers.proofs.Writes.{at, Upto}
use Rattle.plane_rows.proofs.plane_values.widen.Given as goal

abbrev pub invariant-loop-k : goal.invariant-loop-k
invariant-loop-k l = Upto (at l.levels) l.initial.out l.out l.k
