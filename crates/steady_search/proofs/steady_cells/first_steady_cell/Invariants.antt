-- What the loops of `steady_search::steady_cells::first_steady_cell` keep. Assumes nothing.
use mathlib.Core.Path.{◌≡◌}
use Prim.Native.Nat.{◌-◌}
use Rattle.std.proofs.Common.{None}
use Rattle.spec_smoothing.specs.Steady.{find_column, find_cell}
use Rattle.steady_search.specs.SteadyCells.{steady_in}
use Rattle.steady_search.proofs.steady_cells.first_steady_cell.Given as goal

abbrev pub invariant-loop-j : goal.invariant-loop-j
invariant-loop-j l = record {
  none_yet : l.found ≡ None;
  rest : find_column (steady_in l.columns l.n l.s l.a l.i) l.j (l.columns - l.j) ≡ find_column (steady_in l.columns l.n l.s l.a l.i) 0 l.columns;
}

abbrev pub invariant-search : goal.invariant-search
invariant-search l = record {
  none_yet : l.found ≡ None;
  rest : find_cell (steady_in l.columns l.n l.s l.a) l.columns l.i (l.rows - l.i) ≡ find_cell (steady_in l.columns l.n l.s l.a) l.columns 0 l.rows;
}
