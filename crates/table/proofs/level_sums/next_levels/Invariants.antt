-- What the loop of `table::level_sums::next_levels` keeps. Assumes nothing.
use Rattle.table.specs.RowSums.{number}
use Rattle.table.proofs.Written.{RowWritten}
use Rattle.table.proofs.level_sums.next_levels.Given as goal

abbrev pub invariant-loop-j : goal.invariant-loop-j
invariant-loop-j l = RowWritten l.above (number l.levels) l.initial.row l.row l.sum l.j
