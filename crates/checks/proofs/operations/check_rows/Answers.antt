-- `checks::operations::check_rows` meets its contract. Assumes nothing.
use mathlib.Core.Path.{refl, sym}
use Prim.Native.Nat.{◌≤◌}
use native.Mathlib.Omega.{arith}
use native.Mathlib.Nat.{mul-le-mul}
use lib.Dec.{leb→le}
use Rattle.spec_picture.specs.Picture.{Inputs}
use Rattle.spec_picture.specs.Given.{inputs_of}
use Rattle.spec_picture.proofs.Refusals.{in-limits, accepted-has, sound, answered-has}
use Rattle.checks.proofs.operations.check_rows.Goals as goal

pub overflow_mul-request : goal.overflow_mul-request
overflow_mul-request c =
    let asked : Inputs = inputs_of c.args.inputs.now in
    let l = in-limits asked.source.frame (accepted-has asked (sym (answered-has _ _ _ c.in_ok-checked.ensures).0)).frame in
    let little = leb→le _ _ (sound 7 _ _ refl c.in_ok-require-2.ensures) in
    let few : c.args.request ≤ 256 = omega (arith, l.few_rows, little) in
    omega (arith, mul-le-mul few l.few_columns)
