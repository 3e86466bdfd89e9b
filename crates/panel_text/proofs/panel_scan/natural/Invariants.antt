-- What the loops of `panel_text::panel_scan::natural` keep. Assumes nothing.
use Rattle.panel_text.proofs.Digits.{Worth}
use Rattle.panel_text.proofs.panel_scan.natural.Given as goal

abbrev pub invariant-loop-b : goal.invariant-loop-b
invariant-loop-b l = Worth l.run l.value l.b-index
