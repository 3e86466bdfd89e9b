-- `checks::legal_frames::is_full` meets its contract. Assumes nothing.
use native.Mathlib.Omega.{arith}
use native.Mathlib.Nat.{mul-le-mul}
use Rattle.spec_picture.proofs.Refusals.{in-limits}
use Rattle.checks.proofs.legal_frames.is_full.Goals as goal

pub overflow_mul-result : goal.overflow_mul-result
overflow_mul-result c =
    let l = in-limits c.args.frame c.requires in
    omega (arith, mul-le-mul l.few_rows l.few_columns)
