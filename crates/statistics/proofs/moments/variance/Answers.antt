-- `statistics::moments::variance` meets its contract. Assumes nothing.
use borrow.Author.Rules.{rules}
use mathlib.Core.Path.{◌≡◌, sym, ◌∙◌}
use Prim.Native.Nat.{◌*◌}
use native.Mathlib.Omega.{arith}
use mir.Syntax.{w64}
use mir.Val.{SFits, to_z}
use mir.Facts.{to_z-of_z}
use Rattle.numbers.specs.Round.{nearest}
use Rattle.spec_statistics.specs.Moments.{variance, variance_call}
use Rattle.spec_statistics.proofs.Inner.{square-small, spread-small, variance-required, variance-is}
use Rattle.statistics.proofs.Mapped.{mapped}
use Rattle.statistics.proofs.moments.variance.Goals as goal

pub map-requires : goal.map-requires
map-requires c m is =
    let e = rw is at c.in_ok-central_moments.ensures in (
      λ p q. record { sfits = omega (arith, spread-small c.args.z m e) },
      λ p q r. record { fits = omega (arith, square-small c.args.z m e) },
      λ p q r s. variance-required c.args.z m e,
    )

pub returns : goal.returns
unfolding variance_call
returns c = mapped c.args.z (variance c.args.z) _ (λ m y e p. let g : SFits w64 y = search rules in let q : y ≡ nearest (to_z w64 m.vf) (m.count * m.count) = search rules in sym (to_z-of_z g) ∙ variance-is c.args.z m e y g q) c.in_ok-central_moments.field-0 c.map.result c.in_ok-central_moments.ensures c.map.ensures.cases
