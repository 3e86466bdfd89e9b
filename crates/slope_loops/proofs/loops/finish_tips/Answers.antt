-- `slope_loops::loops::finish_tips` meets its contract. Assumes nothing.
use mathlib.Core.Path.{◌∙◌, ap₂}
use Prim.Native.Nat.{◌+◌}
use Rattle.std.proofs.Common.{arith, rules}
use lib.IntN.{ℤ, ◌+ℤ◌, ◌-ℤ◌}
use mir.Facts.{to_z-of_z}
use mir.Syntax.{w64}
use mir.Val.{SFits}
use Rattle.numbers.specs.Wrap.{wrap}
use Rattle.numbers.proofs.Writes.{at, upto-more, upto_all}
use Rattle.slope_loops.specs.declared.padding.TheConstants.{MARGIN}
use Rattle.slope_loops.proofs.Numbers.{read}
use Rattle.slope_loops.proofs.loops.finish_tips.Goals as goal

pub with_tips-change-requires : goal.with_tips-change-requires
with_tips-change-requires g c =
    let j = c.loop-j.j in
    let S = g.S.Slope in
    let V = g.S.Value.PlaneValue in (
      rw (read S.sum c.args.rising.now (j + c.args.p) c.index-rising-j.result (omega arith)) (c.requires.0.slopes.within_rising.each j (omega arith)),
      rw (read S.sum c.args.falling.now (j + c.args.q) c.index-falling-j.result (omega arith)) (c.requires.0.slopes.within_falling.each j (omega arith)),
      rw (read V.value c.args.a.now (j + MARGIN) c.index-a-j.result (omega arith)) (c.requires.1.each j (omega arith)),
      rw (read V.value c.args.c.now (j + MARGIN) c.index-c-j.result (omega arith)) (c.requires.2.each j (omega arith)),
    )

pub loop-j-preserved : goal.loop-j-preserved
loop-j-preserved g c =
    let l = c.loop-j in
    let S = g.S.Slope in
    let V = g.S.Value.PlaneValue in
    let w : SFits w64 (at l.work l.j) = search rules in
    let d : SFits w64 c.with_tips-change.result = record { sfits = c.with_tips-change.type_inv } in
    let r : SFits w64 c.wrapping_add-sum.result = record { sfits = c.wrapping_add-sum.type_inv } in
    let slopes = ap₂ ◌+ℤ◌ (read S.sum c.args.rising.now (l.j + c.args.p) c.index-rising-j.result (omega arith)) (read S.sum c.args.falling.now (l.j + c.args.q) c.index-falling-j.result (omega arith)) in
    let tips = ap₂ ◌-ℤ◌ (read V.value c.args.a.now (l.j + MARGIN) c.index-a-j.result (omega arith)) (read V.value c.args.c.now (l.j + MARGIN) c.index-c-j.result (omega arith)) in
    let e = to_z-of_z r ∙ simp (to_z-of_z, w, d) at c.wrapping_add-sum.ensures
    ∙ ap₂ (λ (y z : ℤ). wrap (y +ℤ z)) (l.invariant.0.rest l.j (omega arith)) (c.with_tips-change.ensures ∙ ap₂ ◌+ℤ◌ tips slopes) in
    (upto-more l.invariant.0 _ (omega arith) e, upto-more l.invariant.1 _ (omega (arith, c.requires.0.slopes.length_out)) e)

pub returns : goal.returns
returns g c =
    let l = c.loop-j in
    (upto_all l.invariant.0 (omega arith), rw c.requires.0.slopes.length_out at (upto_all l.invariant.1 (omega arith)))
