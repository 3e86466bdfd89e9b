-- The paper's example, what counts as a number, and an input for each refusal in its order.
-- Assumes nothing.
use mathlib.Core.Path.{◌≡◌, refl}
use Prim.Native.Nat.{ℕ, ◌<◌}
use mathlib.Core.Bool.{Bool, true, false}
use mathlib.Core.List.{List, [], ◌∷◌, map}
use Rattle.std.specs.Prelude.{None, Some}
use lib.Dec.{T, ltb, lt→ltb}
use lib.ListN.{length}
use lib.IntN.{pos}
use Rattle.numbers.specs.Sum.{sum_to, pick}
use Rattle.numbers.specs.Grid.{tabulate, rows_from}
use Rattle.numbers.specs.Round.{floor_div, nearest}
use Rattle.spec_picture.specs.Refusal.{Outcome, refused}
use Rattle.spec_picture.specs.Window.{rectangle_legal, diamond_legal, hexagon_legal, window_legal, shape_of, height, reach}
use Rattle.spec_picture.specs.Frame.{frame_legal, in_range}
use Rattle.spec_picture.specs.Picture.{counts, plane_value, plane_at}
use Rattle.spec_picture.specs.Direct.{window_sum, direct_sum}
use Rattle.spec_statistics.specs.Moments.{mean}
use Rattle.spec_smoothing.specs.Smoothing.{smoothed}
use Rattle.spec_panel.specs.Text.{runs, divides, is_digit, ended, runs_from, all_digits, value_from, natural, number, decimal_in, decimal, printed}
use Rattle.spec_panel.specs.Panel.{Drawing, count_of, panel_frame, levels_of, windowed, filled, sized, parsed, line_of, lines_of, output_of, panel}

-- 2 3 1 0 1 1 2 6 -1 -2 -6
abbrev asked : List ℕ
asked = 50 ∷ 32 ∷ 51 ∷ 32 ∷ 49 ∷ 32 ∷ 48 ∷ 32 ∷ 49 ∷ 32 ∷ 49 ∷ 32 ∷ 50 ∷ 32 ∷ 54 ∷ 32 ∷ 45 ∷ 49 ∷ 32 ∷ 45 ∷ 50 ∷ 32 ∷ 45 ∷ 54 ∷ []

-- 2 3 4 / -1 -3 -4
example : panel asked ≡ 50 ∷ 32 ∷ 51 ∷ 32 ∷ 52 ∷ 10 ∷ 45 ∷ 49 ∷ 32 ∷ 45 ∷ 51 ∷ 32 ∷ 45 ∷ 52 ∷ 10 ∷ []
unfolding panel output_of parsed sized filled windowed levels_of panel_frame count_of line_of lines_of printed decimal decimal_in number natural value_from all_digits runs_from ended is_digit divides smoothed mean direct_sum window_sum plane_at plane_value counts in_range frame_legal rectangle_legal diamond_legal hexagon_legal window_legal shape_of height reach floor_div nearest tabulate rows_from sum_to pick
example = refl

-- the same numbers with other dividers: 1 1 / 1 0 0 / 7, led, divided and trailed by line feeds, tabs and spaces
divided : panel (10 ∷ 49 ∷ 9 ∷ 49 ∷ 32 ∷ 32 ∷ 49 ∷ 32 ∷ 48 ∷ 32 ∷ 48 ∷ 10 ∷ 55 ∷ 32 ∷ 10 ∷ []) ≡ 55 ∷ 10 ∷ []
unfolding panel output_of parsed sized filled windowed levels_of panel_frame count_of line_of lines_of printed decimal decimal_in number natural value_from all_digits runs_from ended is_digit divides smoothed mean direct_sum window_sum plane_at plane_value counts in_range frame_legal rectangle_legal diamond_legal hexagon_legal window_legal shape_of height reach floor_div nearest tabulate rows_from sum_to pick
divided = refl

-- "an optional minus sign and 1 to 9 digits": -0 is 0, leading zeros count among the nine digits; a lone minus, two of them, a plus sign, a carriage return and ten digits are malformed
numbers :
    (number (45 ∷ 48 ∷ []) ≡ Some (pos 0)) × (number (48 ∷ 48 ∷ 55 ∷ []) ≡ Some (pos 7)) × (number (48 ∷ 48 ∷ 48 ∷ 48 ∷ 48 ∷ 48 ∷ 48 ∷ 48 ∷ 55 ∷ []) ≡ Some (pos 7)) ×
    (number (45 ∷ []) ≡ None) × (number (45 ∷ 45 ∷ 49 ∷ []) ≡ None) × (number (43 ∷ 49 ∷ []) ≡ None) × (number (49 ∷ 13 ∷ []) ≡ None) × (number (48 ∷ 48 ∷ 48 ∷ 48 ∷ 48 ∷ 48 ∷ 48 ∷ 48 ∷ 48 ∷ 55 ∷ []) ≡ None)
unfolding number natural value_from all_digits is_digit
numbers = (refl, refl, refl, refl, refl, refl, refl, refl)

-- "The order is": 1 before a malformed number and for a negative size (0 3 x; -1 3); 10 for a size that is malformed or missing (2 x; nothing)
sizes-first :
    (parsed (48 ∷ 32 ∷ 51 ∷ 32 ∷ 120 ∷ []) ≡ refused 1) × (parsed (45 ∷ 49 ∷ 32 ∷ 51 ∷ []) ≡ refused 1) × (parsed (50 ∷ 32 ∷ 120 ∷ []) ≡ refused 10) × (parsed [] ≡ refused 10)
unfolding parsed sized panel_frame count_of number natural value_from all_digits runs_from ended is_digit divides frame_legal
sizes-first = (refl, refl, refl, refl)

-- "more than 4,096 cells": 65 64
too_large : parsed (54 ∷ 53 ∷ 32 ∷ 54 ∷ 52 ∷ []) ≡ refused 1
unfolding parsed sized panel_frame count_of number natural value_from all_digits runs_from ended is_digit divides frame_legal
too_large = refl

-- 10 before 3 where a level is missing (1 1 4 0 0), and where there is one too many (1 1 4 0 0 7 7) or one beyond 16 bits (1 1 4 0 0 32768); then 3 (1 1 4 0 0 7), also for a negative shape
windows-last :
    (parsed (49 ∷ 32 ∷ 49 ∷ 32 ∷ 52 ∷ 32 ∷ 48 ∷ 32 ∷ 48 ∷ []) ≡ refused 10) ×
    (parsed (49 ∷ 32 ∷ 49 ∷ 32 ∷ 52 ∷ 32 ∷ 48 ∷ 32 ∷ 48 ∷ 32 ∷ 55 ∷ 32 ∷ 55 ∷ []) ≡ refused 10) ×
    (parsed (49 ∷ 32 ∷ 49 ∷ 32 ∷ 52 ∷ 32 ∷ 48 ∷ 32 ∷ 48 ∷ 32 ∷ 51 ∷ 50 ∷ 55 ∷ 54 ∷ 56 ∷ []) ≡ refused 10) ×
    (parsed (49 ∷ 32 ∷ 49 ∷ 32 ∷ 52 ∷ 32 ∷ 48 ∷ 32 ∷ 48 ∷ 32 ∷ 55 ∷ []) ≡ refused 3) ×
    (parsed (49 ∷ 32 ∷ 49 ∷ 32 ∷ 45 ∷ 49 ∷ 32 ∷ 48 ∷ 32 ∷ 48 ∷ 32 ∷ 55 ∷ []) ≡ refused 3)
unfolding parsed sized filled windowed levels_of panel_frame count_of number natural value_from all_digits runs_from ended is_digit divides frame_legal window_legal
windows-last = (refl, refl, refl, refl, refl)

-- "longer input, 10", whatever it holds
pub longer : (text : List ℕ) → 65536 < length text → parsed text ≡ refused 10
unfolding parsed
longer text h = go (ltb 65536 (length text)) (lt→ltb 65536 (length text) h)
  where
    go : (b : Bool) → T b → ◌≡◌ {A = Outcome Drawing} (elim b [ true ↦ refused 10 | false ↦ sized (map number (runs text)) ]) (refused 10)
    go true t = refl
    go false t = absurd t

-- refused 10
word : output_of (refused 10) ≡ 114 ∷ 101 ∷ 102 ∷ 117 ∷ 115 ∷ 101 ∷ 100 ∷ 32 ∷ 49 ∷ 48 ∷ 10 ∷ []
unfolding output_of decimal decimal_in
word = refl
