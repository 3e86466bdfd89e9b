-- `panel_text::panel_print::line` meets its contract. Assumes nothing.
use Rattle.std.proofs.Common.{◌≡◌, length, rules, arith, pos, FitsSigned, w16, slice_index_or}
use Rattle.std.proofs.lemmas.Int.{to_z-of_z}
use Rattle.std.proofs.lemmas.Option.{MatchOption-at_some}
use Rattle.panel_text.proofs.Prints.{at-front, at-last, line_first, line-more, line-done}
use Rattle.panel_text.proofs.panel_print.line.Goals as goal

pub loop-v-init : goal.loop-v-init
loop-v-init c = line_first _ _ c.requires.some_column

pub loop-v-preserved : goal.loop-v-preserved
loop-v-preserved c =
    let parts = MatchOption-at_some _ _ c.unwrap.result c.unwrap.ensures c.split_last.ensures.cases in
    let fits : FitsSigned w16 (slice_index_or c.unwrap.result.1.now c.loop-v.v-index (pos 0)) = search rules in
    let w = simp (to_z-of_z, fits) at c.field-len.ensures in
    line-more _ _ _ _ _ c.loop-v.invariant _ _ (omega (arith, parts.1, c.loop-v-test.true)) (rw (← at-front _ _ _ parts.0 c.loop-v.v-index c.loop-v-test.true) w.0) w.1

pub returns : goal.returns
returns c =
    let parts = MatchOption-at_some _ _ c.unwrap.result c.unwrap.ensures c.split_last.ensures.cases in
    let fits : FitsSigned w16 c.unwrap.result.0.now = search rules in
    let w = simp (to_z-of_z, fits) at c.field.ensures in
    let end : c.loop-v.v-index ≡ length c.unwrap.result.1.now = omega (arith, c.loop-v-test.false) in
    line-done _ _ _ _ _ c.loop-v.invariant _ _ (omega (arith, parts.1, end)) (rw (← at-last _ _ _ parts.0 c.loop-v.v-index end) w.0) w.1
