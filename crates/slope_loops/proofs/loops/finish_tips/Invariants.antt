-- What the loops of `slope_loops::loops::finish_tips` keep. Assumes nothing.
use mathlib.Core.List.{map}
use Rattle.numbers.proofs.Writes.{Upto}
use Rattle.slope_loops.specs.Loops.{tips_added}
use Rattle.slope_loops.proofs.loops.finish_tips.Given as goal

abbrev pub invariant-loop-j : goal.invariant-loop-j
invariant-loop-j g l =
    let S = g.S.Slope in
    let V = g.S.Value.PlaneValue in
    Upto (tips_added (map V.value l.a) (map V.value l.c) (map S.sum l.rising) (map S.sum l.falling) l.p l.q l.initial.work) l.initial.work l.work l.j × Upto (tips_added (map V.value l.a) (map V.value l.c) (map S.sum l.rising) (map S.sum l.falling) l.p l.q l.initial.work) l.initial.out l.out l.j
