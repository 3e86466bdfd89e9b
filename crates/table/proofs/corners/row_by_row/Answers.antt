-- `table::corners::row_by_row` meets its contract. Assumes nothing.
use mathlib.Core.Path.{◌≡◌, ◌∙◌}
use native.Mathlib.Omega.{arith}
use mir.Facts.{to_z-of_z}
use mir.Syntax.{w64}
use mir.Val.{SFits, to_z}
use Rattle.spec_picture.specs.Checked.{given}
use Rattle.numbers.specs.Wrap.{wrap}
use Rattle.numbers.proofs.Running.{range_none, range-more}
use Rattle.spec_picture.specs.Window.{shape_of}
use Rattle.table.proofs.Rectangles.{row-round, row_part, part-read, rows-read, reach-small}
use Rattle.table.proofs.corners.row_by_row.Goals as goal

pub loop-m-init : goal.loop-m-init
loop-m-init c =
    let table = c.args.table.now in
    (omega arith, omega (arith, c.low-m.ensures, c.high-end.ensures, c.requires.1.row), range_none (row_part table.frame table.numbers.now (shape_of (given c.args.window)) c.args.cell.row c.args.cell.column) _)

pub rectangle-part-requires : goal.rectangle-part-requires
rectangle-part-requires c =
    (row-round c.args.table.now.frame (shape_of (given c.args.window)) c.args.cell.column _ _ c.args.round c.reach-reach.ensures c.requires.0, record { row = omega (arith, c.high-end.ensures); column = c.requires.1.column }, omega arith, reach-small (given c.args.window) c.args.window.legal _ _ c.reach-reach.ensures)

pub loop-m-preserved : goal.loop-m-preserved
loop-m-preserved c =
    let table = c.args.table.now in
    let shape = shape_of (given c.args.window) in
    let i = c.args.cell.row in
    let j = c.args.cell.column in
    let l = c.loop-m in
    let part = c.rectangle-part in
    let fits : SFits w64 part.result = record { sfits = part.type_inv } in
    let same : wrap part.result ≡ wrap (row_part table.frame table.numbers.now shape i j l.m) =
    part-read table.frame table.numbers.now shape i j l.m _ _ _ c.distance-distance.ensures c.reach-reach.ensures part.ensures in
    (omega arith, omega arith, to_z-of_z {w = w64} (record { sfits = c.wrapping_add-sum.type_inv }) ∙ simp to_z-of_z at c.wrapping_add-sum.ensures ∙ range-more (row_part table.frame table.numbers.now shape i j) c.low-m.result l.m (to_z w64 l.sum-bits) part.result l.invariant.0 l.invariant.2 same)

pub returns : goal.returns
returns c =
    let table = c.args.table.now in
    rows-read table.frame table.numbers.now (shape_of (given c.args.window)) c.args.cell.row c.args.cell.column
    c.low-m.result c.loop-m.m c.height-height.result _ c.loop-m.invariant.2
    c.requires.1.row c.height-height.ensures c.low-m.ensures (omega (arith, c.high-end.ensures))
