-- What the loops of `row_steps::first_rows::rectangle::column_sums` keep. Assumes nothing.
use mathlib.Core.Path.{◌≡◌}
use Prim.Native.Nat.{◌≤◌}
use Rattle.spec_picture.specs.Picture.{plane_at}
use Rattle.spec_picture.specs.Checked.{checked_source}
use Rattle.row_steps.proofs.Columns.{columns_to}
use Rattle.row_steps.proofs.first_rows.rectangle.column_sums.Given as goal

abbrev pub invariant-loop-m : goal.invariant-loop-m
invariant-loop-m l = (l.m ≤ l.end) × (l.work ≡ columns_to (plane_at (checked_source l.source)) l.source.frame.columns l.m)
