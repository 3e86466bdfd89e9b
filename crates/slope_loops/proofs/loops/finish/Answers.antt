-- `slope_loops::loops::finish` meets its contract. Assumes nothing.
use mathlib.Core.Path.{◌∙◌, ap₂}
use Prim.Native.Nat.{◌+◌}
use Rattle.std.proofs.Common.{arith, rules}
use lib.IntN.{ℤ, ◌+ℤ◌}
use mir.Facts.{to_z-of_z}
use mir.Syntax.{w64}
use mir.Val.{SFits}
use Rattle.numbers.specs.Wrap.{wrap}
use Rattle.numbers.proofs.Writes.{at, upto-more, upto_all}
use Rattle.slope_loops.proofs.Numbers.{read}
use Rattle.slope_loops.proofs.loops.finish.Goals as goal

pub with-requires : goal.with-requires
with-requires g c =
    let j = c.loop-j.j in
    let S = g.S.Slope in (
      rw (read S.sum c.args.rising.now (j + c.args.p) c.index-rising-j.result (omega arith)) (c.requires.within_rising.each j (omega arith)),
      rw (read S.sum c.args.falling.now (j + c.args.q) c.index-falling-j.result (omega arith)) (c.requires.within_falling.each j (omega arith)),
    )

pub loop-j-preserved : goal.loop-j-preserved
loop-j-preserved g c =
    let l = c.loop-j in
    let S = g.S.Slope in
    let w : SFits w64 (at l.work l.j) = search rules in
    let d : SFits w64 c.with.result = record { sfits = c.with.type_inv } in
    let r : SFits w64 c.wrapping_add-sum.result = record { sfits = c.wrapping_add-sum.type_inv } in
    let slopes = c.with.ensures ∙ ap₂ ◌+ℤ◌ (read S.sum c.args.rising.now (l.j + c.args.p) c.index-rising-j.result (omega arith)) (read S.sum c.args.falling.now (l.j + c.args.q) c.index-falling-j.result (omega arith)) in
    let e = to_z-of_z r ∙ simp (to_z-of_z, w, d) at c.wrapping_add-sum.ensures ∙ ap₂ (λ (y z : ℤ). wrap (y +ℤ z)) (l.invariant.0.rest l.j (omega arith)) slopes in
    (upto-more l.invariant.0 _ (omega arith) e, upto-more l.invariant.1 _ (omega (arith, c.requires.length_out)) e)

pub returns : goal.returns
returns g c =
    let l = c.loop-j in
    (upto_all l.invariant.0 (omega arith), rw c.requires.length_out at (upto_all l.invariant.1 (omega arith)))
