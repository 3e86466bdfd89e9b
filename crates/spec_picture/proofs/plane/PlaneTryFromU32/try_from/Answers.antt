-- `Plane::try_from` meets its contract. Assumes nothing.
use mathlib.Core.Path.{refl}
use native.Mathlib.Omega.{arith}
use Rattle.spec_picture.proofs.Refusals.{plane-accepted, plane-refused}
use Rattle.spec_picture.proofs.plane.PlaneTryFromU32.try_from.Goals as goal

pub returns-in-0 : goal.returns-in-0
returns-in-0 c = plane-accepted _ _ c.in-0.is refl

pub returns-in-1 : goal.returns-in-1
returns-in-1 c = plane-accepted _ _ c.in-1.is refl

pub returns-in-2 : goal.returns-in-2
returns-in-2 c = plane-accepted _ _ c.in-2.is refl

pub returns-in-3 : goal.returns-in-3
returns-in-3 c = plane-accepted _ _ c.in-3.is refl

pub returns-in-4 : goal.returns-in-4
returns-in-4 c = plane-accepted _ _ c.in-4.is refl

pub returns-in-5 : goal.returns-in-5
returns-in-5 c = plane-accepted _ _ c.in-5.is refl

pub returns-in_default : goal.returns-in_default
returns-in_default c = plane-refused _ (omega arith)
