-- `row_steps::step::enter_and_leave_at` meets its contract. Assumes nothing.
use Rattle.spec_picture.specs.Checked.{checked_source}
use Rattle.row_steps.proofs.RowCells.{row-entered}
use Rattle.row_steps.proofs.step.enter_and_leave_at.Goals as goal

pub returns : goal.returns
returns c = row-entered (checked_source c.args.source.now) _ _ _ c.checked_sub.ensures _ c.unwrap_or-leave.ensures _ _ c.enter_and_leave.ensures
