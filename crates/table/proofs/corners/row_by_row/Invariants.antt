-- What the loops of `table::corners::row_by_row` keep. Assumes nothing.
use mathlib.Core.Path.{◌≡◌}
use Prim.Native.Nat.{◌+◌, ◌-◌, ◌≤◌}
use Rattle.spec_picture.specs.Checked.{given}
use Rattle.numbers.specs.Sum.{sum_to}
use Rattle.numbers.specs.Wrap.{wrap}
use Rattle.spec_picture.specs.Window.{shape_of}
use Rattle.table.proofs.Rectangles.{row_part}
use Rattle.table.proofs.corners.row_by_row.Given as goal

abbrev pub invariant-loop-m : goal.invariant-loop-m
invariant-loop-m l = (l.initial.m ≤ l.m) × (l.m ≤ l.end) × (l.sum ≡ wrap (sum_to (l.m - l.initial.m) (λ k. row_part l.table.frame l.table.numbers.now (shape_of (given l.window)) l.row l.cell.column (l.initial.m + k))))
