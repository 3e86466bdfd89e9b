-- What the loops of `slope_loops::loops::gather` keep. Assumes nothing.
use mathlib.Core.List.{map}
use Rattle.slope_loops.specs.Loops.{Replaced, gathered}
use Rattle.slope_loops.proofs.loops.gather.Given as goal

abbrev pub invariant-loop-x : goal.invariant-loop-x
invariant-loop-x g l =
    let S = g.S.Slope in
    let V = g.S.Value.PlaneValue in
    Replaced (gathered (map V.value l.a) (map V.value l.b) l.places (map S.sum l.initial.sums)) (map S.sum l.initial.sums) (map S.sum l.sums) l.places.sums l.x
