-- What the loops of `row_steps::slanted::next_slanted_row` keep. Assumes nothing.
use mathlib.Core.Path.{◌≡◌}
use Prim.Native.Nat.{◌-◌, ◌≤◌}
use lib.ListN.{length}
use Rattle.spec_picture.specs.Window.{shape_of}
use Rattle.spec_picture.specs.Picture.{plane_at}
use Rattle.spec_picture.specs.Checked.{given, checked_source}
use Rattle.row_steps.proofs.EdgeRows.{later}
use Rattle.row_steps.proofs.slanted.next_slanted_row.Given as goal

abbrev pub invariant-loop-c : goal.invariant-loop-c
invariant-loop-c l = (1 ≤ l.c) × (l.c ≤ l.end) × (length l.row ≡ l.inputs.source.frame.columns) × (l.work ≡ later l.inputs.source.frame (plane_at (checked_source l.inputs.source)) (shape_of (given l.inputs.window)) l.i l.initial.work l.initial.work (l.c - 1))
