-- `checks::check_window` meets its contract. Assumes nothing.
use Rattle.spec_picture.proofs.Refusals.{refuses, refused-has}
use Rattle.checks.proofs.Shapes.{no-shape}
use Rattle.checks.proofs.check_window.Goals as goal

pub returns-in_err-shape : goal.returns-in_err-shape
returns-in_err-shape c = refuses _ _ _ _ _ (no-shape _ _ (refused-has _ _ _ c.in_err-shape.ensures)) c.from_residual.ensures.1
