-- What the sums of the rows of a window require: that they are short enough, and in one stretch.
-- Assumes nothing.
use Prim.Native.Nat.{ℕ, ◌≤◌, ◌<◌}
use mathlib.Core.Path.{◌≡◌}
use native.Mathlib.Omega.{arith}
use Rattle.spec_picture.specs.declared.Frame.{Frame}
use Rattle.spec_picture.specs.declared.Shift.{Shift}
use Rattle.spec_picture.specs.declared.checked.CheckedInputs.{CheckedInputs}
use Rattle.spec_picture.specs.Checked.{given}
use Rattle.spec_picture.specs.Window.{shape_of, reach}
use Rattle.spec_picture.proofs.Found.{limits}
use Rattle.spec_picture.proofs.Windows.{apart-of, reach_width, small}
use Rattle.plane_rows.specs.declared.overlaps.overlap.Overlap.{Overlap}
use Rattle.plane_rows.specs.declared.columns.Columns.{Columns}
use Rattle.direct_sum.specs.Near.{NearRequires, StretchOf}

-- a row of a window of checked inputs
pub near-requires : (x : CheckedInputs) (j distance far : ℕ) → j < x.source.frame.columns → far ≡ reach (shape_of (given x.window)) distance → NearRequires x.source.frame j far
near-requires x j distance far j< e =
    let w = given x.window in
    record {
      few = (limits x.source).few_columns;
      inside = j<;
      short = omega (arith, e, (small w x.window.legal).narrow distance);
      apart = λ t. omega (arith, apart-of x.source.frame w x.fitting t, e, reach_width (shape_of w) distance);
    }

-- a stretch that has a wide row has a narrower one
pub stretch-nearer : (z : Frame) (d : Shift) (columns : Columns) (stretch : Overlap) (j wide r : ℕ) → StretchOf z d columns stretch j wide → r ≤ wide → StretchOf z d columns stretch j r
stretch-nearer z d columns stretch j wide r o h = record {
  counting = o.counting;
  only = o.only;
  around = λ t. let a = o.around t in record { from = omega (arith, a.from); upto = omega (arith, a.upto) };
}
