-- `c_interface::tables::ls_build` meets its contract. Assumes nothing.
use borrow.Author.Rules.{rules}
use Rattle.spec_picture.specs.Picture.{shift, source}
use Rattle.spec_c.specs.Frame.{frame_from}
use Rattle.agreement.proofs.Statuses.{build-status}
use Rattle.c_interface.proofs.tables.ls_build.Goals as goal

pub returns-clause-number : goal.returns-clause-number
returns-clause-number c = build-status (source (frame_from c.args.rows c.args.columns c.args.columns_wrap) c.args.f.now c.args.g.now (shift c.args.down c.args.right) c.args.plane) c.args.table.now _ (search rules)
