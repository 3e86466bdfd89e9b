-- `row_loops::sliding_sums::total` meets its contract. Assumes nothing.
use borrow.Author.Rules.{rules}
use mathlib.Core.Path.{refl, ◌∙◌}
use native.Mathlib.Numerals.{add-one}
use mir.Syntax.{w64}
use mir.Val.{SFits}
use mir.Facts.{to_z-of_z}
use Rattle.numbers.proofs.Running.{running_none, running_more}
use Rattle.numbers.proofs.Writes.{at}
use Rattle.row_loops.proofs.sliding_sums.total.Goals as goal

pub loop-k-init : goal.loop-k-init
loop-k-init c = running_none _

pub loop-k-preserved : goal.loop-k-preserved
loop-k-preserved c =
    let l = c.loop-k in
    let x : SFits w64 (at c.args.work.now l.k) = search rules in
    let r : SFits w64 c.wrapping_add-s.result = search rules in
    rw add-one (to_z-of_z r ∙ simp (to_z-of_z, x) at c.wrapping_add-s.ensures ∙ running_more (at c.args.work.now) l.k _ _ l.invariant refl)
