-- What the loop of `table::row_sums::next_row` keeps. Assumes nothing.
use Rattle.table.specs.RowSums.{number}
use Rattle.table.proofs.Written.{RowWritten}
use Rattle.table.proofs.row_sums.next_row.Given as goal

abbrev pub invariant-loop-j : goal.invariant-loop-j
invariant-loop-j l = RowWritten l.above (number l.initial.row) l.initial.row l.row l.sum l.j
