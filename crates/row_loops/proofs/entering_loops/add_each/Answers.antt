-- `row_loops::entering_loops::add_each` meets its contract. Assumes nothing.
use Rattle.std.proofs.Common.{◌∙◌, arith, rules, w64}
use mir.Facts.{to_z-of_z}
use mir.Val.{SFits}
use Rattle.numbers.proofs.Writes.{at}
use Rattle.row_loops.proofs.Adding.{added_more}
use Rattle.row_loops.proofs.entering_loops.add_each.Goals as goal

pub loop-place-preserved : goal.loop-place-preserved
loop-place-preserved g c =
    let sum : SFits w64 (at c.loop-place.sums c.loop-place.place) = search rules in
    let more : SFits w64 c.by.result = record { sfits = c.by.type_inv } in
    let all : SFits w64 c.wrapping_add.result = record { sfits = c.wrapping_add.type_inv } in
    added_more c.loop-place.invariant _ c.by.result (omega arith) c.by.ensures (to_z-of_z all ∙ simp (to_z-of_z, sum, more) at c.wrapping_add.ensures)
