-- `panel_text::panel_print::refused` meets its contract. Assumes nothing.
use Rattle.std.proofs.Common.{rules, append_assoc}
use Rattle.spec_panel.specs.Text.{line_feed}
use Rattle.panel_text.proofs.Bytes.{decimal_is, then_byte, then_bytes}
use Rattle.panel_text.proofs.panel_print.refused.Goals as goal

pub returns : goal.returns
returns c =
    let both = then_bytes _ _ _ _ c.put-len.ensures _ _ _ c.put-len-2.ensures in
    search (rules, decimal_is, append_assoc, then_byte _ _ _ _ both line_feed)
