-- `c_interface::rows::ls_rows` meets its contract. Assumes nothing.
use borrow.Author.Rules.{rules}
use Rattle.spec_picture.specs.Window.{window}
use Rattle.spec_picture.specs.Picture.{shift, inputs}
use Rattle.spec_c.specs.Frame.{frame_from}
use Rattle.agreement.proofs.Statuses.{rows-status}
use Rattle.c_interface.proofs.rows.ls_rows.Goals as goal

pub returns-clause-number : goal.returns-clause-number
returns-clause-number c = rows-status (inputs (frame_from c.args.rows c.args.columns c.args.columns_wrap) c.args.f.now c.args.g.now (window c.args.shape c.args.first c.args.second) (shift c.args.down c.args.right) c.args.plane) c.args.position.now c.args.request c.args.work.now c.args.out.now _ (search rules)
