-- `checks::legal_windows::window_fits` meets its contract. Assumes nothing.
use native.Mathlib.Omega.{arith}
use Rattle.spec_picture.specs.Checked.{given}
use Rattle.spec_picture.proofs.Windows.{width_small}
use Rattle.checks.proofs.legal_windows.window_fits.Goals as goal

pub overflow_mul-result : goal.overflow_mul-result
overflow_mul-result c = omega (arith, c.width.ensures, width_small (given c.args.window) c.args.window.legal)

pub overflow_add-result : goal.overflow_add-result
overflow_add-result c = omega (arith, c.width.ensures, width_small (given c.args.window) c.args.window.legal)
