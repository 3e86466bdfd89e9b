-- `plane_rows::level_rows::copied_row` meets its contract. Assumes nothing.
use Rattle.std.proofs.Common.{◌∙◌, sym}
use Rattle.numbers.proofs.Grids.{tabulate-cong}
use Rattle.spec_picture.specs.Checked.{checked_source}
use Rattle.plane_rows.proofs.FactorLaws.{plane-level}
use Rattle.plane_rows.proofs.level_rows.copied_row.Goals as goal

pub returns : goal.returns
returns c =
    rw c.view_of-view.ensures at c.copied.ensures
    ∙ tabulate-cong _ _ _ (λ k k<. sym (plane-level (checked_source c.args.source.now) _ c.in-Level.ensures.values c.args.row k))
