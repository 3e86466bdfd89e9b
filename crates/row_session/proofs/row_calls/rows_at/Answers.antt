-- `row_session::row_calls::rows_at` meets its contract. Assumes nothing.
use mathlib.Core.Path.{sym, subst}
use Rattle.spec_picture.specs.Given.{inputs_of}
use Rattle.spec_picture.specs.Picture.{Inputs}
use Rattle.spec_picture.proofs.Refusals.{answered-has}
use Rattle.spec_rows.proofs.Calls.{granted-has}
use Rattle.row_session.specs.Requires.{RowsRequires}
use Rattle.row_session.proofs.row_calls.rows_at.Goals as goal

pub next_rows-requires : goal.next_rows-requires
next_rows-requires c =
    let asked : Inputs = inputs_of c.args.inputs.now in
    let passed = answered-has _ _ _ c.in_ok-checked.ensures in
    let granted = granted-has asked c.args.position.now c.args.request c.args.work.now c.args.out.now (sym passed.0) in
    subst (λ (x : Inputs). RowsRequires x c.args.position.now c.args.request c.args.work.now c.args.out.now) (sym passed.1)
    (record { rows = granted.within; room_work = granted.room_work; room = granted.room })
