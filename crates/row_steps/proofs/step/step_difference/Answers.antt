-- `row_steps::step::step_difference` meets its contract. Assumes nothing.
use Rattle.row_steps.proofs.RowCells.{difference-alone}
use Rattle.row_steps.proofs.step.step_difference.Goals as goal

pub returns : goal.returns
returns c = difference-alone _ _ _ _ _ c.requires.room c.fill.ensures c.enter_and_leave_at.ensures
