-- `row_steps::row_step::move_work_area` meets its contract. Assumes nothing.
use mathlib.Core.Path.{sym}
use native.Mathlib.Omega.{arith}
use Rattle.spec_picture.proofs.Found.{limits}
use Rattle.spec_picture.specs.Checked.{given, checked_inputs}
use Rattle.spec_picture.proofs.Windows.{height-small, apart-of}
use Rattle.row_steps.proofs.Shapes.{no-row, row-above, area-rectangle-first, area-rectangle-next, area-slanted-first, area-slanted-next}
use Rattle.row_steps.proofs.row_step.move_work_area.Goals as goal

pub enter_and_leave_at-requires : goal.enter_and_leave_at-requires
enter_and_leave_at-requires c =
    let after = row-above _ _ _ c.checked_sub-above.ensures c.in-true-Some.is-1 in
    record {
      row = omega (arith, after, c.requires.row, (limits c.args.inputs.now.source).few_rows);
      distance = omega (arith, c.height-in-true-Some.ensures, height-small (given c.args.inputs.now.window) c.args.inputs.now.window.legal);
      room = c.requires.room_work;
    }

pub returns-in-true-None : goal.returns-in-true-None
returns-in-true-None c = area-rectangle-first _ _ _ _ _ _ _ (sym c.in-true-None.ensures) c.height.ensures (no-row _ _ c.checked_sub-above.ensures c.in-true-None.is-1) c.column_sums.ensures

pub returns-in-true-Some : goal.returns-in-true-Some
returns-in-true-Some c =
    area-rectangle-next _ _ _ _ _ _ _ _ (sym c.in-true-Some.ensures) c.height-in-true-Some.ensures (row-above _ _ _ c.checked_sub-above.ensures c.in-true-Some.is-1) c.enter_and_leave_at.ensures

pub returns-in-false-None : goal.returns-in-false-None
returns-in-false-None c =
    area-slanted-first (checked_inputs c.args.inputs.now) _ _ _ (sym c.in-false-None.ensures) (no-row _ _ c.checked_sub-above.ensures c.in-false-None.is-1) c.first_row.ensures

pub returns-in-false-Some : goal.returns-in-false-Some
returns-in-false-Some c = area-slanted-next _ _ _ _ _ _ _ (sym c.in-false-Some.ensures) (apart-of c.args.inputs.now.source.frame (given c.args.inputs.now.window) c.args.inputs.now.fitting) (row-above _ _ _ c.checked_sub-above.ensures c.in-false-Some.is-1) c.next_slanted_row.ensures
