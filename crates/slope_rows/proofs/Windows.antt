-- A legal window that is no rectangle fits its height and width.
-- Assumes nothing.
use mathlib.Core.Path.{◌≡◌, sym}
use mathlib.Core.Bool.{false}
use Prim.Native.Nat.{ℕ}
use native.Mathlib.Omega.{arith}
use Rattle.spec_picture.specs.declared.checked.CheckedWindow.{CheckedWindow}
use Rattle.spec_picture.specs.Checked.{given}
use Rattle.spec_picture.specs.Window.{shape_of, is_rectangle, height, width}
use Rattle.spec_picture.proofs.Windows.{height-width, width_small, apart-of}
use Rattle.spec_picture.specs.Frame.{Apart}
use Rattle.slope_rows.specs.Fits.{Fits}
use Rattle.slope_rows.specs.declared.kept_slopes.SlantedInputs.{SlantedInputs}

pub window-fits : (x : CheckedWindow) (h w : ℕ) → is_rectangle (shape_of (given x)) ≡ false → h ≡ height (shape_of (given x)) → w ≡ width (shape_of (given x)) → Fits (shape_of (given x)) h w
window-fits x h w slanted high wide = record {
  slanted = slanted;
  high = high;
  wide = wide;
  low = omega (arith, high, wide, height-width (shape_of (given x)) slanted);
  narrow = omega (arith, wide, width_small (given x) x.legal);
}

-- it fits the columns, where they wrap
pub apart-in : (x : SlantedInputs) → Apart x.inputs.source.frame x.width
apart-in x =
    let e : width (shape_of (given x.inputs.window)) ≡ x.width = sym x.fits.wide in
    rw e at (apart-of x.inputs.source.frame (given x.inputs.window) x.inputs.fitting)
