-- What the loops of `slope_loops::loops::slide` keep. Assumes nothing.
use mathlib.Core.List.{map}
use Rattle.slope_loops.specs.Loops.{Replaced, slid}
use Rattle.slope_loops.proofs.loops.slide.Given as goal

abbrev pub invariant-loop-x : goal.invariant-loop-x
invariant-loop-x g l =
    let S = g.S.Slope in
    let V = g.S.Value.PlaneValue in
    Replaced (slid (map V.value l.a) (map V.value l.b) (map V.value l.c) l.places (map S.sum l.initial.sums)) (map S.sum l.initial.sums) (map S.sum l.sums) l.places.sums l.x
