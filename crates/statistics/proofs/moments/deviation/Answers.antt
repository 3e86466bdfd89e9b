-- `statistics::moments::deviation` meets its contract. Assumes nothing.
use borrow.Author.Rules.{rules}
use mathlib.Core.Path.{◌≡◌, refl, ◌∙◌}
use Prim.Native.Nat.{◌*◌}
use native.Mathlib.Omega.{arith}
use mir.Syntax.{w64}
use mir.Val.{to_z}
use Rattle.numbers.specs.Round.{root_over}
use lib.IntN.{pos}
use Rattle.spec_statistics.specs.Moments.{deviation, deviation_call}
use Rattle.spec_statistics.proofs.Inner.{square-small, ratio, root-small, deviation-is}
use Rattle.statistics.proofs.Mapped.{mapped}
use Rattle.statistics.proofs.moments.deviation.Goals as goal

pub map-requires : goal.map-requires
map-requires c m is =
    let e = rw is at c.in_ok-central_moments.ensures in (
      λ p q. record { fits = omega (arith, square-small c.args.z m e) },
      λ p q r. ratio c.args.z m e,
      λ p q r. record { sfits = omega (arith, root-small c.args.z m e _ r.ensures) },
    )

pub returns : goal.returns
unfolding deviation_call
returns c = mapped c.args.z (pos (deviation c.args.z)) _ (λ m y e p. let q : y ≡ to_z w64 (root_over m.vf (m.count * m.count)) = search rules in q ∙ deviation-is c.args.z m e _ refl) c.in_ok-central_moments.field-0 c.map.result c.in_ok-central_moments.ensures c.map.ensures.cases
