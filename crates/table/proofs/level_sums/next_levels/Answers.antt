-- `table::level_sums::next_levels` meets its contract. Assumes nothing.
use mathlib.Core.Path.{◌≡◌, refl, ◌∙◌}
use native.Mathlib.Omega.{arith}
use borrow.Author.Rules.{rules}
use mir.Facts.{to_z-of_z}
use mir.Syntax.{w16, w64}
use mir.Val.{SFits}
use Rattle.numbers.proofs.Writes.{at}
use Rattle.table.proofs.Written.{written_none, written-more, written_all}
use Rattle.table.proofs.level_sums.next_levels.Goals as goal
use Rattle.std.proofs.Math.Facts.{sfits_widen}

pub loop-j-init : goal.loop-j-init
loop-j-init c = written_none _ _ _

pub loop-j-preserved : goal.loop-j-preserved
loop-j-preserved c =
    let l = c.loop-j in
    let level : SFits w16 (at c.args.levels.now l.j) = search rules in
    let widened : c.from.result ≡ at c.args.levels.now l.j = c.from.ensures ∙ to_z-of_z {w = w16} level in
    let above : SFits w64 (at c.args.above.now l.j) = search rules in
    let sum : SFits w64 c.wrapping_add-sum.result = record { sfits = c.wrapping_add-sum.type_inv } in
    let number : SFits w64 c.wrapping_add.result = record { sfits = c.wrapping_add.type_inv } in
    written-more l.invariant _ _ _ (omega arith) refl
    (to_z-of_z {w = w64} sum ∙ simp (widened, to_z-of_z, sfits_widen {w' = w64} tt level) at c.wrapping_add-sum.ensures) (to_z-of_z {w = w64} number ∙ simp (to_z-of_z, above) at c.wrapping_add.ensures)

pub returns : goal.returns
returns c = written_all c.loop-j.invariant (omega arith)
