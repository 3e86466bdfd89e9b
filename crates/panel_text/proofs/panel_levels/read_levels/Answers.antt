-- `panel_text::panel_levels::read_levels` meets its contract. Assumes nothing.
use Rattle.std.proofs.Common.{FitsSigned, w32, rules, sym, ◌∙◌, ap, ◌∷◌}
use Rattle.std.proofs.lemmas.Int.{to_z-of_z}
use Rattle.panel_text.specs.Levels.{levels_if_read}
use Rattle.panel_text.proofs.Levels.{levels-first, level-missing, level-malformed, level-beyond, levels-more, levels-last, beyond-16-bits, within-16-bits}
use Rattle.panel_text.proofs.panel_levels.read_levels.Goals as goal

pub loop-level-init : goal.loop-level-init
loop-level-init c = levels-first _ _

pub returns-in_err-next : goal.returns-in_err-next
returns-in_err-next c = rw c.from_residual.ensures (level-missing _ _ _ _ _ c.loop-level.invariant c.loop-level-test.true c.in_err-next.ensures.steps.0)

pub returns-in_err-branch : goal.returns-in_err-branch
returns-in_err-branch c = rw c.from_residual-in_err-branch.ensures (level-malformed _ _ _ _ _ c.loop-level.invariant c.loop-level-test.true _ (c.in_ok-next.ensures.steps ∙ ap (λ n. n ∷ c.next.new.self) c.in_err-branch.was))

pub returns-in_err-level : goal.returns-in_err-level
returns-in_err-level c =
    let fits : FitsSigned w32 c.in_ok-branch.field-0 = search rules in
    let beyond = beyond-16-bits _ c.try_from.result (simp (to_z-of_z, fits) at c.try_from.ensures) (search rules) in
    rw c.from_residual-in_err-level.ensures (level-beyond _ _ _ _ _ c.loop-level.invariant c.loop-level-test.true _ _ (c.in_ok-next.ensures.steps ∙ ap (λ n. n ∷ c.next.new.self) c.in_ok-branch.was) beyond)

pub loop-level-preserved : goal.loop-level-preserved
loop-level-preserved c =
    let fits : FitsSigned w32 c.in_ok-branch.field-0 = search rules in
    let within = within-16-bits _ c.try_from.result c.in_ok-level.field-0 (simp (to_z-of_z, fits) at c.try_from.ensures) (search rules) in
    simp (to_z-of_z, within.1.1)
    (rw within.1.0 (levels-more _ _ _ _ _ c.loop-level.invariant c.loop-level-test.true _ _ (c.in_ok-next.ensures.steps ∙ ap (λ n. n ∷ c.next.new.self) c.in_ok-branch.was) within.0))

pub returns : goal.returns
returns c = levels-last _ _ _ _ _ c.loop-level.invariant c.loop-level-test.false c.next-2.result _ c.next-2.ensures.steps c.is_none.result c.is_none.ensures ∙ ap (λ r. levels_if_read r c.loop-level.levels) (sym c.then_some.ensures)
