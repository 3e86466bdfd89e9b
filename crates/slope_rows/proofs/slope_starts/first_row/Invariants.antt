-- What the loops of `slope_rows::slope_starts::first_row` keep. Assumes nothing.
use mathlib.Core.Path.{◌≡◌}
use mathlib.Core.List.{map}
use Rattle.numbers.proofs.Writes.{Upto}
use Rattle.slope_rows.specs.Edges.{sum_by_slopes}
use Rattle.slope_rows.proofs.slope_starts.first_row.Given as goal

abbrev pub invariant-loop-j : goal.invariant-loop-j
invariant-loop-j g l =
    let row = sum_by_slopes l.first_sum (map g.S.Slope.sum l.rises) (map g.S.Slope.sum l.falls) in
    Upto row l.initial.work l.work l.j × Upto row l.initial.out l.out l.j × (l.sum ≡ row l.j)
