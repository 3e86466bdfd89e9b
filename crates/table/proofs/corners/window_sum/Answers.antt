-- `table::corners::window_sum` meets its contract. Assumes nothing.
use mathlib.Core.Path.{sym, ◌∙◌}
use native.Mathlib.Omega.{arith}
use Rattle.spec_picture.specs.Checked.{given}
use Rattle.spec_picture.proofs.Refusals.{in-limits}
use Rattle.table.proofs.Rectangles.{does-wrap, goes-not, width_small}
use Rattle.table.proofs.corners.window_sum.Goals as goal

pub goes_round-requires : goal.goes_round-requires
goes_round-requires c =
    let window = c.args.window in
    (c.requires.column, (in-limits _ c.args.table.now.legal).few_columns, omega (arith, c.width.ensures, width_small (given window) window.legal))

pub sum_round-requires : goal.sum_round-requires
sum_round-requires c =
    let table = c.args.table.now in
    (table.legal, table.full, does-wrap table.frame _ _ (sym c.goes_round.ensures ∙ c.if-goes_round.true), c.requires)

pub by_shape-requires : goal.by_shape-requires
by_shape-requires c = (goes-not c.args.table.now.frame _ c.args.cell.column _ c.width.ensures (sym c.goes_round.ensures ∙ c.if-goes_round.false), c.requires)
