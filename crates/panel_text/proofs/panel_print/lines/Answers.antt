-- `panel_text::panel_print::lines` meets its contract. Assumes nothing.
use Rattle.panel_text.proofs.Prints.{lines_next, lines-done}
use Rattle.panel_text.proofs.panel_print.lines.Goals as goal

pub loop-i-preserved : goal.loop-i-preserved
loop-i-preserved c = lines_next _ _ _ _ _ _ c.requires c.loop-i.invariant c.loop-i-test.true _ _ c.line-len.ensures

pub returns : goal.returns
returns c = lines-done _ _ _ _ _ _ c.requires c.loop-i.invariant c.loop-i-test.false
