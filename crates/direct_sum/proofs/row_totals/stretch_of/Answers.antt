-- `direct_sum::row_totals::stretch_of` meets its contract. Assumes nothing.
use Rattle.std.proofs.Common.{arith, ◌≤◌}
use Rattle.spec_picture.specs.Checked.{given}
use Rattle.spec_picture.proofs.Found.{limits}
use Rattle.spec_picture.proofs.Windows.{width_small}
use Rattle.direct_sum.proofs.row_totals.stretch_of.Goals.{then-column-along, else-column-along}
use Rattle.direct_sum.proofs.row_totals.stretch_of.Goals as goal

pub around-requires : goal.around-requires
around-requires c =
    let v = c.args.view.now in
    let few = (limits v.source).few_columns in
    let within : c.if-column-along.stretch.end ≤ v.source.frame.columns = elim c.if-column-along.branch [
      | then-column-along w ↦ rw w.stretch-is v.counting.by_column.along.within
      | else-column-along w ↦ rw w.stretch-is v.counting.by_column.round.within
    ] in
    (omega (arith, c.requires, few), omega (arith, c.width.ensures, width_small (given c.args.window) c.args.window.legal), omega (arith, within, few))
