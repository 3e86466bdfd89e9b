-- A worked example of a call with an area that is too short.
-- Assumes nothing.
use mathlib.Core.Path.{◌≡◌, refl}
use mathlib.Core.List.{List, [], ◌∷◌}
use Prim.Native.Nat.{ℕ}
use lib.IntN.{pos}
use Rattle.panel_text.specs.Rendered.{rendered}
use Rattle.spec_c.specs.CResult.{status}
use Rattle.c_interface.specs.PanelResult.{panel_result}

-- an area of one byte is refused by 8, whatever the text, and keeps its byte
pub short-area : (text : List ℕ) → (status (panel_result text (7 ∷ [])) ≡ pos 8) × ((rendered text (7 ∷ [])).area ≡ 7 ∷ [])
unfolding status panel_result rendered
short-area text = (refl, refl)
