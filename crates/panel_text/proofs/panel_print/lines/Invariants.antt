-- What the loops of `panel_text::panel_print::lines` keep. Assumes nothing.
use Rattle.panel_text.proofs.Prints.{LinesUpto}
use Rattle.panel_text.proofs.panel_print.lines.Given as goal

abbrev pub invariant-loop-i : goal.invariant-loop-i
invariant-loop-i l = LinesUpto l.frame l.means l.initial.out l.out l.len l.i
