-- `c_interface::tables::ls_read` meets its contract. Assumes nothing.
use borrow.Author.Rules.{rules}
use Rattle.spec_picture.specs.Window.{window}
use Rattle.spec_c.specs.Frame.{frame_from}
use Rattle.agreement.proofs.Statuses.{read-status}
use Rattle.c_interface.proofs.tables.ls_read.Goals as goal

pub returns-clause-number : goal.returns-clause-number
returns-clause-number c = read-status (frame_from c.args.rows c.args.columns c.args.columns_wrap) c.args.table.now (window c.args.shape c.args.first c.args.second) c.args.row c.args.column _ (search rules)
