-- `plane_rows::view::view_of` meets its contract. Assumes nothing.
use Rattle.spec_picture.proofs.Found.{limits}
use Rattle.plane_rows.proofs.view.view_of.Goals as goal

pub columns_of-requires : goal.columns_of-requires
columns_of-requires c = (limits c.args.source.now).some_columns
