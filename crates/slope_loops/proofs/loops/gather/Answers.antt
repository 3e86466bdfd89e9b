-- `slope_loops::loops::gather` meets its contract. Assumes nothing.
use mathlib.Core.Path.{◌∙◌, ap₂}
use Prim.Native.Nat.{◌+◌}
use native.Mathlib.Omega.{arith}
use lib.IntN.{◌+ℤ◌, ◌-ℤ◌}
use Rattle.slope_loops.proofs.Numbers.{read, next_read, next_replaced}
use Rattle.slope_loops.proofs.loops.gather.Goals as goal

pub enter_and_leave-requires : goal.enter_and_leave-requires
enter_and_leave-requires g c =
    let l = c.loop-x in
    let V = g.S.Value.PlaneValue in
    let inside = c.loop-x-test.true in (
      rw (next_read g.S.Slope.sum c.args.sums.now l.sums l.invariant c.index-sums-x.result (omega arith)) (omega (arith, c.requires.0.within.each l.x inside, g.met.S.Slope.room_before)),
      rw (read V.value c.args.a.now (l.x + c.args.places.enters) c.index-a-x.result (omega arith)) (c.requires.1.each l.x inside),
      rw (read V.value c.args.b.now (l.x + c.args.places.leaves) c.index-b-x.result (omega arith)) (c.requires.2.each l.x inside),
    )

pub loop-x-preserved : goal.loop-x-preserved
loop-x-preserved g c =
    let l = c.loop-x in
    let V = g.S.Value.PlaneValue in
    let sum = next_read g.S.Slope.sum c.args.sums.now l.sums l.invariant c.index-sums-x.result (omega arith) in
    let enters = read V.value c.args.a.now (l.x + c.args.places.enters) c.index-a-x.result (omega arith) in
    let leaves = read V.value c.args.b.now (l.x + c.args.places.leaves) c.index-b-x.result (omega arith) in
    next_replaced g.S.Slope.sum c.args.sums.now l.sums l.invariant _ (omega arith) (c.enter_and_leave.ensures ∙ ap₂ ◌+ℤ◌ sum (ap₂ ◌-ℤ◌ enters leaves))
