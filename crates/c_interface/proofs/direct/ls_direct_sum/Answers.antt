-- `c_interface::direct::ls_direct_sum` meets its contract. Assumes nothing.
use borrow.Author.Rules.{rules}
use Rattle.spec_picture.specs.Window.{window}
use Rattle.spec_picture.specs.Picture.{shift, inputs}
use Rattle.spec_c.specs.Frame.{frame_from}
use Rattle.agreement.proofs.Statuses.{direct-status}
use Rattle.c_interface.proofs.direct.ls_direct_sum.Goals as goal

pub returns-clause-number : goal.returns-clause-number
returns-clause-number c = direct-status (inputs (frame_from c.args.rows c.args.columns c.args.columns_wrap) c.args.f.now c.args.g.now (window c.args.shape c.args.first c.args.second) (shift c.args.down c.args.right) c.args.plane) c.args.row c.args.column _ (search rules)
