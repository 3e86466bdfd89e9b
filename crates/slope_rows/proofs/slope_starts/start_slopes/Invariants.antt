-- What the loops of `slope_rows::slope_starts::start_slopes` keep. Assumes nothing.
use Prim.Native.Nat.{◌+◌}
use mathlib.Core.List.{map}
use Rattle.slope_loops.specs.Loops.{Blank}
use Rattle.slope_rows.specs.Edges.{KeptSlopes}
use Rattle.slope_loops.specs.declared.padding.TheConstants.{ABOVE}
use Rattle.slope_rows.proofs.slope_starts.start_slopes.Given as goal

abbrev pub invariant-loop-t : goal.invariant-loop-t
invariant-loop-t g l =
    let S = g.S.Slope in
    let V = g.S.Value.PlaneValue in
    Blank l.slanted.inputs.source.frame (map V.value l.a) × Blank l.slanted.inputs.source.frame (map V.value l.b) × KeptSlopes l.slanted l.slanted.beside l.t (ABOVE + l.i) 0 (map S.sum l.rises) (map S.sum l.falls)
