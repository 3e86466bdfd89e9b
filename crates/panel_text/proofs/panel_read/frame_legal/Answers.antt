-- `panel_text::panel_read::frame_legal` meets its contract. Assumes nothing.
use Rattle.std.proofs.Common.{sym, ◌∙◌, arith}
use Rattle.panel_text.proofs.Drawings.{small-cells, frame-inside, frame-outside}
use Rattle.panel_text.proofs.panel_read.frame_legal.Goals as goal

pub overflow_mul-result : goal.overflow_mul-result
overflow_mul-result c = omega (arith, small-cells _ (sym c.if-frame_legal.ensures))

pub returns-then-frame_legal : goal.returns-then-frame_legal
returns-then-frame_legal c = frame-inside _ (sym c.if-frame_legal.ensures)

pub returns-else-frame_legal : goal.returns-else-frame_legal
returns-else-frame_legal c = c.if-frame_legal.false ∙ frame-outside _ (sym c.if-frame_legal.ensures)
