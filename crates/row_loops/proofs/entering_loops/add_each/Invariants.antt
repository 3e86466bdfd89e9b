-- What the loop of `row_loops::entering_loops::add_each` keeps. Assumes nothing.
use Rattle.row_loops.proofs.Adding.{AddedUpto}
use Rattle.row_loops.proofs.entering_loops.add_each.Given as goal

abbrev pub invariant-loop-place : goal.invariant-loop-place
invariant-loop-place g l = AddedUpto (goal.F-post g l.fn.by) l.initial.sums l.sums l.place
