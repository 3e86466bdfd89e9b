-- `Shape::try_from` meets its contract. Assumes nothing.
use mathlib.Core.Path.{refl}
use native.Mathlib.Omega.{arith}
use Rattle.spec_picture.proofs.Refusals.{shape-accepted, shape-refused}
use Rattle.spec_picture.proofs.shape.ShapeTryFromU32.try_from.Goals as goal

pub returns-in-1 : goal.returns-in-1
returns-in-1 c = shape-accepted _ _ c.in-1.is refl

pub returns-in-2 : goal.returns-in-2
returns-in-2 c = shape-accepted _ _ c.in-2.is refl

pub returns-in-3 : goal.returns-in-3
returns-in-3 c = shape-accepted _ _ c.in-3.is refl

pub returns-in_default : goal.returns-in_default
returns-in_default c = shape-refused c.args.number (λ h. omega (arith, h.0, h.1))
