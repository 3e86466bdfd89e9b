-- What the loops of `panel_text::panel_print::line` keep. Assumes nothing.
use Rattle.panel_text.proofs.Prints.{LineUpto}
use Rattle.panel_text.proofs.panel_print.line.Given as goal

abbrev pub invariant-loop-v : goal.invariant-loop-v
invariant-loop-v l = LineUpto l.row l.initial.out l.out l.len l.v-index
