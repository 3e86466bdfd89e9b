-- What the loops of `row_session::advance::one_by_one` keep. Assumes nothing.
use mathlib.Core.Path.{◌≡◌}
use Prim.Native.Nat.{◌≤◌}
use lib.ListN.{length}
use Rattle.spec_picture.specs.Window.{shape_of}
use Rattle.spec_picture.specs.Picture.{plane_at}
use Rattle.spec_picture.specs.Checked.{given, checked_source}
use Rattle.spec_rows.proofs.Strips.{Partly}
use Rattle.row_session.proofs.advance.one_by_one.Given as goal

abbrev pub invariant-loop-k : goal.invariant-loop-k
invariant-loop-k l = (l.k ≤ l.n) × (length l.out ≡ length l.initial.out) × (length l.work ≡ l.inputs.source.frame.columns) × Partly l.inputs.source.frame (plane_at (checked_source l.inputs.source)) (shape_of (given l.inputs.window)) l.position l.initial.work l.k l.work l.out
