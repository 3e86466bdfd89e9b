-- What rendering leaves: the count of the bytes written, and the area that it was lent.
-- Assumes nothing.
use Rattle.std.specs.Prelude.{ℕ, true, false, List, ◌++◌, ltb, length, drop}
use Rattle.spec_panel.specs.Panel.{panel}

pub record Rendering : Type 0 where
  pub count : ℕ
  pub area : List ℕ

-- 28,672 bytes hold the longest output: 4,096 cells, a mean at most 6 bytes, `-32768`, and a byte after each. The output is at the
-- front of the area, whose rest keeps its bytes; a shorter area keeps all of them, and 0 is answered.
unfoldable pub rendered : (text out : List ℕ) → Rendering
rendered text out =
    elim (ltb (length out) 28672) [ true ↦ record { count = 0; area = out } | false ↦ record { count = length (panel text); area = panel text ++ drop (length (panel text)) out } ]
