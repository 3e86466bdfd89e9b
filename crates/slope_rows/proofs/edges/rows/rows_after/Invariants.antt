-- What the loops of `slope_rows::edges::rows::rows_after` keep. Assumes nothing.
use mathlib.Core.Path.{◌≡◌}
use Prim.Native.Nat.{suc, ◌+◌, ◌-◌, ◌≤◌}
use mathlib.Core.List.{map}
use lib.ListN.{length}
use Rattle.spec_picture.specs.Window.{shape_of}
use Rattle.spec_picture.specs.Checked.{given}
use Rattle.slope_rows.specs.Edges.{plane_in, KeptSlopes, HoldsRow, Rows}
use Rattle.spec_rows.proofs.Strips.{Partly}
use Rattle.slope_loops.specs.declared.padding.TheConstants.{ABOVE}
use Rattle.slope_rows.proofs.edges.rows.rows_after.Given as goal

abbrev pub invariant-loop-m : goal.invariant-loop-m
invariant-loop-m g l =
    let S = g.S.Slope in
    let V = g.S.Value.PlaneValue in
    (l.m ≤ l.rows.count) × (length l.out ≡ length l.initial.out) × (length l.work ≡ l.slanted.inputs.source.frame.columns) × Partly l.slanted.inputs.source.frame (plane_in l.slanted) (shape_of (given l.slanted.inputs.window)) (suc l.rows.row) l.initial.work l.m l.work l.out ×
    Rows l.slanted.inputs.source.frame (map V.value l.a) (map V.value l.b) (map V.value l.c) × KeptSlopes l.slanted l.slanted.beside l.slanted.height (ABOVE + (l.rows.row + l.m)) l.m (map S.sum l.rises) (map S.sum l.falls) ×
    HoldsRow l.slanted (ABOVE + (l.rows.row + l.m) - l.slanted.height) (map V.value l.c)
