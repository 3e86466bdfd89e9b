-- `direct_sum::direct_sum` meets its contract. Assumes nothing.
use mathlib.Core.Path.{sym, subst}
use Rattle.spec_picture.specs.Picture.{Inputs}
use Rattle.spec_picture.specs.Given.{inputs_of}
use Rattle.spec_picture.specs.Frame.{Within}
use Rattle.spec_picture.proofs.Refusals.{direct-accepted, answered-has}
use Rattle.direct_sum.proofs.direct_sum.Goals as goal

pub sum-requires : goal.sum-requires
sum-requires c =
    let asked : Inputs = inputs_of c.args.inputs.now in
    let passed = answered-has _ _ _ c.in_ok-checked.ensures in
    let inside : Within asked.source.frame c.args.cell.row c.args.cell.column = (direct-accepted asked c.args.cell.row c.args.cell.column (sym passed.0)).1 in
    subst (λ (x : Inputs). Within x.source.frame c.args.cell.row c.args.cell.column) (sym passed.1) inside
