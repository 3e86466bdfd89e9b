-- `table::corners::by_shape` meets its contract. Assumes nothing.
use mathlib.Core.Path.{sym, ◌∙◌}
use native.Mathlib.Omega.{arith}
use mir.Facts.{to_z-of_z}
use mir.Syntax.{w64}
use Rattle.spec_picture.specs.Checked.{given}
use Rattle.spec_picture.specs.Window.{shape_of}
use Rattle.spec_picture.proofs.Windows.{small}
use Rattle.spec_table.specs.Table.{read_table}
use Rattle.table.proofs.Rectangles.{same-round, read-as-rectangle, read-as-rows, width_small}
use Rattle.table.proofs.corners.by_shape.Goals as goal

pub rectangle-requires : goal.rectangle-requires
rectangle-requires c =
    let window = c.args.window in
    (same-round c.args.table.now.frame _ c.args.cell.column _ c.args.round c.width-width.ensures c.requires.0, c.requires.1, omega (arith, c.height-height.ensures, (small (given window) window.legal).low), omega (arith, c.width-width.ensures, width_small (given window) window.legal))

pub returns-then-is_rectangle : goal.returns-then-is_rectangle
unfolding read_table
returns-then-is_rectangle c =
    to_z-of_z {w = w64} (record { sfits = c.rectangle.type_inv })
    ∙ read-as-rectangle _ _ (shape_of (given c.args.window)) _ _ _ _ _
    (sym c.is_rectangle.ensures ∙ c.if-is_rectangle.true) c.height-height.ensures c.width-width.ensures c.rectangle.ensures

pub returns-else-is_rectangle : goal.returns-else-is_rectangle
unfolding read_table
returns-else-is_rectangle c =
    to_z-of_z {w = w64} (record { sfits = c.row_by_row.type_inv })
    ∙ read-as-rows _ _ (shape_of (given c.args.window)) _ _ _ (sym c.is_rectangle.ensures ∙ c.if-is_rectangle.false) c.row_by_row.ensures
