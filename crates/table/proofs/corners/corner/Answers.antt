-- `table::corners::corner` meets its contract. Assumes nothing.
use mathlib.Core.Path.{◌∙◌}
use native.Mathlib.Omega.{arith}
use borrow.Author.Rules.{rules}
use mir.Facts.{to_z-of_z}
use mir.Syntax.{w64}
use Rattle.spec_picture.proofs.Refusals.{in-limits}
use Rattle.table.proofs.Rectangles.{corner-above, corner-left, corner-inner, corner-place}
use Rattle.table.proofs.corners.corner.Goals as goal
use Rattle.table.proofs.corners.corner.Goals.{then-x-eq0-via-then-x-eq0, then-x-eq0-via-else-x-eq0+then-y-eq0}

pub returns-then-x-eq0 : goal.returns-then-x-eq0
returns-then-x-eq0 c =
    elim c.then-x-eq0.branch [
      | then-x-eq0-via-then-x-eq0 w ↦ corner-above _ _ _ _ w.if-x-eq0.true
      | then-x-eq0-via-else-x-eq0+then-y-eq0 w ↦ corner-left _ _ _ _ w.if-y-eq0.true
    ]

pub overflow_sub-row : goal.overflow_sub-row
overflow_sub-row c = omega (arith, c.min-row.ensures, in-limits _ c.args.table.now.legal)

pub overflow_sub-column : goal.overflow_sub-column
overflow_sub-column c = omega (arith, c.min-column.ensures, in-limits _ c.args.table.now.legal)

pub offset_bounds-table-row : goal.offset_bounds-table-row
offset_bounds-table-row c =
    let table = c.args.table.now in
    let place = corner-place table.frame table.numbers.now table.legal _ _ _ _ table.full c.min-row.ensures c.min-column.ensures in
    omega (arith, place)

pub bounds-table-row : goal.bounds-table-row
bounds-table-row c =
    let table = c.args.table.now in
    corner-place table.frame table.numbers.now table.legal _ _ _ _ table.full c.min-row.ensures c.min-column.ensures

pub returns : goal.returns
returns c =
    let table = c.args.table.now in
    to_z-of_z {w = w64} (search rules)
    ∙ corner-inner table.frame table.numbers.now table.legal c.args.x c.args.y _ _ (omega arith) (omega arith) c.min-row.ensures c.min-column.ensures
