-- `panel_text::panel_scan::number` meets its contract. Assumes nothing.
use Rattle.std.proofs.Common.{◌∙◌, rules, ap, option_map, pos, neg_ℤ}
use Rattle.panel_text.proofs.Signs.{mapped, number-signed, number-plain}
use Rattle.spec_panel.specs.Text.{natural}
use Rattle.panel_text.proofs.panel_scan.number.Goals as goal

pub returns-in-Some : goal.returns-in-Some
returns-in-Some c =
    mapped _ (λ n. neg_ℤ (pos n)) (λ n z h p. search rules) c.natural.result c.map.result c.natural.ensures.small c.map.ensures.cases ∙ ap (option_map (λ n. neg_ℤ (pos n))) (c.natural.ensures.value ∙ ap natural c.in-Some.ensures.cases.1) ∙ number-signed c.args.run.now c.in-Some.ensures.cases.0

pub returns-in-None : goal.returns-in-None
returns-in-None c =
    mapped _ pos (λ n z h p. search rules) c.natural-in-None.result c.map-in-None.result c.natural-in-None.ensures.small c.map-in-None.ensures.cases ∙ ap (option_map pos) c.natural-in-None.ensures.value ∙ number-plain c.args.run.now c.in-None.ensures.cases
