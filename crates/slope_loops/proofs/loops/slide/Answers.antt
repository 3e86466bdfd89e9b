-- `slope_loops::loops::slide` meets its contract. Assumes nothing.
use mathlib.Core.Path.{◌≡◌, ◌∙◌, ap₂}
use Prim.Native.Nat.{◌+◌}
use native.Mathlib.Omega.{arith}
use mathlib.Core.List.{map}
use lib.IntN.{◌+ℤ◌, ◌-ℤ◌}
use Rattle.numbers.proofs.Writes.{at}
use Rattle.slope_loops.proofs.LoopLaws.{add_turned}
use Rattle.slope_loops.proofs.Numbers.{read, next_read, next_replaced, added-small}
use Rattle.slope_loops.proofs.loops.slide.Goals as goal

pub enter_and_leave-requires : goal.enter_and_leave-requires
enter_and_leave-requires g c =
    let l = c.loop-x in
    let V = g.S.Value.PlaneValue in
    let inside = c.loop-x-test.true in (
      rw (next_read g.S.Slope.sum c.args.sums.now l.sums l.invariant c.index-sums-x.result (omega arith)) (omega (arith, c.requires.0.within.each l.x inside, g.met.S.Slope.room_before)),
      rw (read V.value c.args.a.now (l.x + c.args.places.lower_new) c.index-a-x.result (omega arith)) (c.requires.1.each l.x inside),
      rw (read V.value c.args.b.now (l.x + c.args.places.lower_gone) c.index-b-x.result (omega arith)) (c.requires.2.each l.x inside),
    )

pub enter_and_leave-requires-in-loop-x : goal.enter_and_leave-requires-in-loop-x
enter_and_leave-requires-in-loop-x g c =
    let l = c.loop-x in
    let S = g.S.Slope in
    let V = g.S.Value.PlaneValue in
    let sum = at (map S.sum c.args.sums.now) (l.x + c.args.places.sums) in
    let enters = at (map V.value c.args.a.now) (l.x + c.args.places.lower_new) in
    let leaves = at (map V.value c.args.b.now) (l.x + c.args.places.lower_gone) in
    let inside = c.loop-x-test.true in (
      rw (c.enter_and_leave.ensures, next_read S.sum c.args.sums.now l.sums l.invariant c.index-sums-x.result (omega arith), read V.value c.args.a.now (l.x + c.args.places.lower_new) c.index-a-x.result (omega arith), read V.value c.args.b.now (l.x + c.args.places.lower_gone) c.index-b-x.result (omega arith))
          (added-small sum enters leaves _ _ _ (c.requires.0.within.each l.x inside) (c.requires.1.each l.x inside) (c.requires.2.each l.x inside) g.met.S.Slope.room_before),
      rw (read V.value c.args.c.now (l.x + c.args.places.upper_gone) c.index-c-x.result (omega arith)) (c.requires.4.each l.x inside),
      rw (read V.value c.args.b.now (l.x + c.args.places.upper_new) c.index-b-x-in-loop-x.result (omega arith)) (c.requires.3.each l.x inside),
    )

pub loop-x-preserved : goal.loop-x-preserved
loop-x-preserved g c =
    let l = c.loop-x in
    let S = g.S.Slope in
    let V = g.S.Value.PlaneValue in
    let sum = at (map S.sum c.args.sums.now) (l.x + c.args.places.sums) in
    let enters = at (map V.value c.args.a.now) (l.x + c.args.places.lower_new) in
    let leaves = at (map V.value c.args.b.now) (l.x + c.args.places.lower_gone) in
    let again = at (map V.value c.args.c.now) (l.x + c.args.places.upper_gone) in
    let gone = at (map V.value c.args.b.now) (l.x + c.args.places.upper_new) in
    let half : S.sum c.enter_and_leave.result ≡ sum +ℤ (enters -ℤ leaves) =
    c.enter_and_leave.ensures
    ∙ ap₂ ◌+ℤ◌ (next_read S.sum c.args.sums.now l.sums l.invariant c.index-sums-x.result (omega arith))
    (ap₂ ◌-ℤ◌ (read V.value c.args.a.now (l.x + c.args.places.lower_new) c.index-a-x.result (omega arith)) (read V.value c.args.b.now (l.x + c.args.places.lower_gone) c.index-b-x.result (omega arith))) in
    let whole =
    c.enter_and_leave-in-loop-x.ensures
    ∙ ap₂ ◌+ℤ◌ half
    (ap₂ ◌-ℤ◌ (read V.value c.args.c.now (l.x + c.args.places.upper_gone) c.index-c-x.result (omega arith)) (read V.value c.args.b.now (l.x + c.args.places.upper_new) c.index-b-x-in-loop-x.result (omega arith)))
    ∙ add_turned (sum +ℤ (enters -ℤ leaves)) again gone in
    next_replaced S.sum c.args.sums.now l.sums l.invariant _ (omega arith) whole
