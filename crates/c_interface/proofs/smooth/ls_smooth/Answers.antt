-- `c_interface::smooth::ls_smooth` meets its contract. Assumes nothing.
use borrow.Author.Rules.{rules}
use Rattle.spec_picture.specs.Window.{window}
use Rattle.spec_c.specs.Frame.{frame_from}
use Rattle.agreement.proofs.Statuses.{smooth-status}
use Rattle.c_interface.proofs.smooth.ls_smooth.Goals as goal

pub returns-clause-number : goal.returns-clause-number
returns-clause-number c = smooth-status (frame_from c.args.rows c.args.columns c.args.columns_wrap) c.args.f.now (window c.args.shape c.args.first c.args.second) c.args.out.now _ (search rules)
