-- What a call of `ls_panel` hands back.
-- Assumes nothing.
use Rattle.std.specs.Prelude.{ℕ, true, false, List, ltb, pos, length}
use Rattle.panel_text.specs.Rendered.{rendered}
use Rattle.spec_c.specs.CResult.{CResult, with_value, without_value}

-- the count of the bytes that panel prints for a text, a refused text's line included; 8, "output area of another length", where the area has
-- no room for the longest print
unfoldable pub panel_result : (text out : List ℕ) → CResult ℕ
panel_result text out = elim (ltb (length out) 28672) [ true ↦ without_value (pos 8) | false ↦ with_value (rendered text out).count ]
