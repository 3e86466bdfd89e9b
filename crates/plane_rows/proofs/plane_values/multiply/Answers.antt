-- `plane_rows::plane_values::multiply` meets its contract. Assumes nothing.
use Rattle.std.proofs.Common.{arith, rules}
use mathlib.Core.Path.{◌∙◌}
use mir.Syntax.{w16, w64}
use mir.Val.{SFits}
use mir.Facts.{to_z-of_z}
use Rattle.numbers.proofs.Writes.{at, upto-more, upto_all}
use Rattle.plane_rows.proofs.plane_values.multiply.Goals as goal

pub loop-k-preserved : goal.loop-k-preserved
loop-k-preserved c =
    let f : SFits w16 (at c.args.a.now c.loop-k.k) = search rules in
    let g : SFits w16 (at c.args.b.now c.loop-k.k) = search rules in
    let p : SFits w64 c.product.result = record { sfits = c.product.type_inv } in
    upto-more c.loop-k.invariant _ (omega arith) (to_z-of_z p ∙ simp (to_z-of_z, f, g) at c.product.ensures)

pub returns : goal.returns
returns c = upto_all c.loop-k.invariant (omega arith)
