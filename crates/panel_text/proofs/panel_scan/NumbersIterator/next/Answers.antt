-- `panel_text::panel_scan::Numbers::next` meets its contract. Assumes nothing.
use Rattle.std.proofs.Common.{◌≡◌, sym, ◌∙◌, ap, rules, length, unwrap_or, map, ◌∷◌}
use Rattle.spec_panel.specs.Text.{runs, number}
use Rattle.panel_text.proofs.Runs.{numbers-none, numbers-some}
use Rattle.panel_text.proofs.panel_scan.NumbersIterator.next.Goals as goal

pub returns-in_err-start-clause-steps : goal.returns-in_err-start-clause-steps
returns-in_err-start-clause-steps c =
    let e = sym c.self.view_is ∙ numbers-none c.self.inside.rest.now (sym c.in_err-start.ensures) in
    rw c.from_residual.ensures (e, e)

pub returns-clause-steps : goal.returns-clause-steps
returns-clause-steps c =
    sym c.self.view_is
    ∙ numbers-some _ _ (sym c.in_ok-start.ensures) _ _ _ _ c.split_at.ensures.back (c.unwrap_or.ensures ∙ ap (λ o. unwrap_or o (length c.split_at.result.1.now)) c.run_end.ensures) c.split_at-2.ensures.front c.split_at-2.ensures.back
    ∙ ap (λ n. n ∷ map number (runs c.split_at-2.result.1.now)) (sym c.number.ensures)

pub returns-clause-goes : goal.returns-clause-goes
returns-clause-goes c =
    let s : c.args.self.now ≡ c.number.result ∷ map number (runs c.split_at-2.result.1.now) = returns-clause-steps c in
    search rules
