-- `row_loops::entering_loops::levels_enter_and_leave` meets its contract. Assumes nothing.
use Rattle.std.proofs.Common.{rules}
use Rattle.row_loops.proofs.Adding.{added_all}
use Rattle.row_loops.proofs.entering_loops.levels_enter_and_leave.Goals as goal

pub returns : goal.returns
returns c = added_all _ _ _ _ c.add_each.ensures (λ k x h p. search rules)
