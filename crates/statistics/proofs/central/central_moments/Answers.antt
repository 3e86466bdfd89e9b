-- `statistics::central::central_moments` meets its contract. Assumes nothing.
use borrow.Author.Rules.{rules}
use native.Mathlib.Omega.{arith}
use mir.Facts.{to_z-of_z}
use Rattle.spec_statistics.proofs.Fits.{Fit}
use Rattle.statistics.proofs.Deciding.{Held, negative, refused-unbounded, refused-f, refused-g, refused-c, empty, given, factors-f, factors-g, factors-c}
use Rattle.statistics.proofs.central.central_moments.Goals as goal

pub returns-then-unbounded : goal.returns-then-unbounded
returns-then-unbounded c = grind (arith, refused-unbounded)

pub covariance-f-requires : goal.covariance-f-requires
covariance-f-requires c = let fit : Fit c.args.z = search rules in grind (arith, to_z-of_z, factors-f)

pub covariance-g-requires : goal.covariance-g-requires
covariance-g-requires c = let fit : Fit c.args.z = search rules in grind (arith, to_z-of_z, factors-g)

pub covariance-c-requires : goal.covariance-c-requires
covariance-c-requires c = let fit : Fit c.args.z = search rules in grind (arith, to_z-of_z, factors-c)

pub returns-in_default : goal.returns-in_default
returns-in_default c =
    let held : Held c.args.z c.covariance-f.result c.covariance-g.result c.covariance-c.result = search rules in
    let n = negative _ c.try_from.result held.vf (simp (to_z-of_z, held.vf) at c.try_from.ensures) c.in_default.not-Ok in
    grind (arith, to_z-of_z, refused-f)

pub returns-in_default-try_from : goal.returns-in_default-try_from
returns-in_default-try_from c =
    let held : Held c.args.z c.covariance-f.result c.covariance-g.result c.covariance-c.result = search rules in
    let n = negative _ c.try_from-2.result held.vg (simp (to_z-of_z, held.vg) at c.try_from-2.ensures) c.in_default-try_from.not-Ok in
    grind (arith, to_z-of_z, refused-g)

pub returns-then-not-at_most : goal.returns-then-not-at_most
returns-then-not-at_most c = grind (arith, to_z-of_z, refused-c)

pub returns-then-count-eq0 : goal.returns-then-count-eq0
returns-then-count-eq0 c = grind (arith, to_z-of_z, empty)

pub returns : goal.returns
returns c = grind (arith, to_z-of_z, given)
