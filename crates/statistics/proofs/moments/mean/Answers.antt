-- `statistics::moments::mean` meets its contract. Assumes nothing.
use borrow.Author.Rules.{rules}
use mathlib.Core.Path.{◌≡◌, sym, ◌∙◌}
use mir.Syntax.{w64}
use mir.Val.{SFits, to_z, of_z}
use mir.Facts.{to_z-of_z}
use Rattle.numbers.specs.Round.{nearest}
use Rattle.spec_statistics.specs.Moments.{mean, mean_call}
use Rattle.spec_statistics.proofs.Inner.{mean-required, mean-is}
use Rattle.statistics.proofs.Mapped.{mapped}
use Rattle.statistics.proofs.moments.mean.Goals as goal

pub map-requires : goal.map-requires
map-requires c m is =
    let e = rw is at c.in_ok-central_moments.ensures in
    λ p q r s u. mean-required c.args.z m e (record { sfits = s })

pub returns : goal.returns
unfolding mean_call
returns c = mapped c.args.z (mean c.args.z) _ (λ m y e p. let f : SFits w64 c.args.z.s = search rules in let g : SFits w64 y = search rules in let q : y ≡ nearest (to_z w64 (of_z w64 c.args.z.s)) m.count = search rules in sym (to_z-of_z g) ∙ mean-is c.args.z m e f y g q) c.in_ok-central_moments.field-0 c.map.result c.in_ok-central_moments.ensures c.map.ensures.cases
