-- `row_steps::step::add` meets its contract. Assumes nothing.
use Rattle.std.proofs.Common.{rules}
use Rattle.row_loops.proofs.Adding.{added_all}
use Rattle.row_steps.proofs.step.add.Goals as goal

pub returns : goal.returns
returns c = added_all _ _ _ _ c.add_each.ensures (λ j x h p. search rules)
