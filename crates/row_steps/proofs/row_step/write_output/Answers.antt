-- `row_steps::row_step::write_output` meets its contract. Assumes nothing.
use mathlib.Core.Path.{sym, ◌∙◌}
use Rattle.spec_picture.specs.Checked.{given}
use Rattle.spec_picture.specs.Window.{shape_of}
use Rattle.spec_rows.proofs.Strips.{output-slanted}
use Rattle.row_steps.proofs.Shapes.{output-rectangle}
use Rattle.row_steps.proofs.row_step.write_output.Goals as goal

pub returns-then-is_rectangle : goal.returns-then-is_rectangle
returns-then-is_rectangle c =
    output-rectangle c.args.frame (shape_of (given c.args.window)) _ c.args.work.now _ (sym c.is_rectangle.ensures ∙ c.if-is_rectangle.true) c.width.ensures c.requires.room_work c.neighbour_sums.ensures

pub returns-else-is_rectangle : goal.returns-else-is_rectangle
returns-else-is_rectangle c =
    output-slanted c.args.frame (shape_of (given c.args.window)) c.args.work.now _ (sym c.is_rectangle.ensures ∙ c.if-is_rectangle.false) c.copy.ensures
