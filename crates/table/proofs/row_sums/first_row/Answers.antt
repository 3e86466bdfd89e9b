-- `table::row_sums::first_row` meets its contract. Assumes nothing.
use mathlib.Core.Path.{◌∙◌}
use native.Mathlib.Omega.{arith}
use borrow.Author.Rules.{rules}
use mir.Facts.{to_z-of_z}
use mir.Syntax.{w64}
use mir.Val.{SFits}
use Rattle.numbers.proofs.Writes.{at}
use Rattle.table.proofs.Written.{written_none, first_more, written_all}
use Rattle.table.proofs.row_sums.first_row.Goals as goal

pub loop-j-init : goal.loop-j-init
loop-j-init c = written_none _ _ _

pub loop-j-preserved : goal.loop-j-preserved
loop-j-preserved c =
    let l = c.loop-j in
    let value : SFits w64 (at l.row l.j) = search rules in
    let sum : SFits w64 c.wrapping_add-sum.result = record { sfits = c.wrapping_add-sum.type_inv } in
    first_more l.invariant _ _ (omega arith) (l.invariant.numbers.rest l.j (omega arith)) (to_z-of_z {w = w64} sum ∙ simp (to_z-of_z, value) at c.wrapping_add-sum.ensures)

pub returns : goal.returns
returns c = written_all c.loop-j.invariant (omega arith)
