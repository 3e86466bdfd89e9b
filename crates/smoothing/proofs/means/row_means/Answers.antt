-- `smoothing::means::row_means` meets its contract. Assumes nothing.
use borrow.Author.Rules.{rules}
use mathlib.Core.Path.{◌≡◌, ◌∙◌, ap}
use native.Mathlib.Omega.{arith}
use lib.IntN.{nat_abs}
use mir.Facts.{to_z-of_z}
use mir.Syntax.{w16, w64}
use mir.Val.{SFits}
use Rattle.numbers.specs.Round.{nearest}
use Rattle.numbers.proofs.Writes.{at, upto-more, upto_all}
use Rattle.smoothing.specs.Means.{means_of}
use Rattle.smoothing.proofs.means.row_means.Goals as goal

pub mean-requires : goal.mean-requires
mean-requires c =
    let n : SFits w64 (at c.args.n.now c.loop-j.j) = search rules in
    let s : SFits w64 (at c.args.s.now c.loop-j.j) = search rules in
    let m = c.requires.each c.loop-j.j (omega arith) in
    let e : c.reciprocal_of-by.result.of ≡ nat_abs (at c.args.n.now c.loop-j.j) = simp (to_z-of_z, n) at c.reciprocal_of-by.ensures in
    simp (to_z-of_z, s) (rw e (record { small = m.small; level = m.level }))

pub loop-j-preserved : goal.loop-j-preserved
loop-j-preserved c =
    let n : SFits w64 (at c.args.n.now c.loop-j.j) = search rules in
    let s : SFits w64 (at c.args.s.now c.loop-j.j) = search rules in
    let r : SFits w16 c.mean.result = search rules in
    let e : c.reciprocal_of-by.result.of ≡ nat_abs (at c.args.n.now c.loop-j.j) = simp (to_z-of_z, n) at c.reciprocal_of-by.ensures in
    simp (to_z-of_z, r) (upto-more c.loop-j.invariant _ (omega arith) (simp (to_z-of_z, s) at c.mean.ensures ∙ ap (nearest (at c.args.s.now c.loop-j.j)) e))

pub returns : goal.returns
unfolding means_of
returns c = upto_all c.loop-j.invariant (omega arith)
