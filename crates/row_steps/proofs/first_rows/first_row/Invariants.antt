-- What the loops of `row_steps::first_rows::first_row` keep. Assumes nothing.
use mathlib.Core.Path.{◌≡◌}
use Prim.Native.Nat.{◌≤◌}
use lib.ListN.{length}
use Rattle.spec_picture.specs.Window.{shape_of}
use Rattle.spec_picture.specs.Picture.{plane_at}
use Rattle.spec_picture.specs.Checked.{given, checked_source}
use Rattle.row_steps.proofs.Columns.{columns_to, reached}
use Rattle.row_steps.proofs.first_rows.first_row.Given as goal

abbrev pub invariant-loop-m : goal.invariant-loop-m
invariant-loop-m l = (l.m ≤ l.end) × (length l.row ≡ l.inputs.source.frame.columns) × (length l.cells ≡ 1024) × (l.work ≡ columns_to (reached l.inputs.source.frame (plane_at (checked_source l.inputs.source)) (shape_of (given l.inputs.window))) l.inputs.source.frame.columns l.m)
