-- `direct_sum::row_totals::levels_total` meets its contract. Assumes nothing.
use Rattle.std.proofs.Common.{◌≡◌, ◌∙◌, arith, rules}
use mir.Syntax.{w16, w32}
use mir.Val.{SFits}
use mir.Facts.{to_z-of_z}
use Rattle.numbers.proofs.Writes.{at}
use Rattle.direct_sum.proofs.Totals.{exact-more, exact-fits}
use Rattle.direct_sum.proofs.row_totals.levels_total.Goals as goal
use Rattle.std.proofs.Math.Facts.{sfits_widen}

pub loop-level-preserved : goal.loop-level-preserved
loop-level-preserved c =
    let f : SFits w16 (at c.args.levels.now c.loop-level.level-index) = search rules in
    let e = c.loop-level.invariant in
    let widened : c.from-s.result ≡ at c.args.levels.now c.loop-level.level-index = c.from-s.ensures ∙ to_z-of_z {w = w16} f in
    simp (widened, to_z-of_z, sfits_widen {w' = w32} tt f, exact-fits _ _ _ e f (omega arith)) (exact-more _ _ _ e f)
