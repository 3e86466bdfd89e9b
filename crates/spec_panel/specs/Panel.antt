-- "The program panel": from the bytes of its input to the bytes of its output.
-- Assumes nothing.
use Rattle.std.specs.Prelude.{ℕ, zero, suc, ◌+◌, ◌*◌, Bool, true, false, ◌&&◌, List, [], ◌∷◌, ◌++◌, map, leb, ltb, length, get_or, Option, None, Some, option_map, ℤ, pos, negsuc}
use Rattle.spec_picture.specs.Refusal.{Outcome, refused, answered}
use Rattle.spec_picture.specs.declared.Window.{Window}
use Rattle.spec_picture.specs.Window.{window, window_legal, between}
use Rattle.spec_picture.specs.declared.Frame.{Frame}
use Rattle.spec_picture.specs.Frame.{frame, frame_legal, cells}
use Rattle.spec_smoothing.specs.Smoothing.{smoothed}
use Rattle.spec_panel.specs.Text.{space, line_feed, runs, number, decimal, printed}

-- what the text asks for
pub record Drawing : Type 0 where
  pub frame : Frame
  pub window : Window
  pub levels : List ℤ

-- a number that counts, 0 if it is negative (0 is beyond the limits of rows and columns, and no shape)
unfoldable pub count_of : ℤ → ℕ
count_of (pos n) = n
count_of (negsuc n) = 0

-- "either beyond limits or more than 4,096 cells"
unfoldable pub panel_frame : Frame → Bool
panel_frame z = frame_legal z && leb (cells z) 4096

-- a level of 16 bits
abbrev pub is_level : ℤ → Bool
is_level n = between (negsuc 32767) (pos 32767) n

-- all levels: exactly so many numbers, none malformed, none beyond 16 bits
unfoldable pub levels_of : ℕ → List (Option ℤ) → Option (List ℤ)
levels_of zero [] = Some []
levels_of zero (n ∷ ns) = None
levels_of (suc k) [] = None
levels_of (suc k) (None ∷ ns) = None
levels_of (suc k) (Some n ∷ ns) = elim (is_level n) [ true ↦ option_map (λ l. n ∷ l) (levels_of k ns) | false ↦ None ]

-- the last check: "then 3"
unfoldable pub windowed : Frame → Window → Option (List ℤ) → Outcome Drawing
windowed z w None = refused 10
windowed z w (Some l) = elim (window_legal w) [ true ↦ answered (record { frame = z; window = w; levels = l }) | false ↦ refused 3 ]

-- "any other malformed, missing or extra number or a level beyond 16 bits, 10"
unfoldable pub filled : Frame → List (Option ℤ) → Outcome Drawing
filled z [] = refused 10
filled z (None ∷ ns) = refused 10
filled z (Some s ∷ []) = refused 10
filled z (Some s ∷ None ∷ ns) = refused 10
filled z (Some s ∷ Some a ∷ []) = refused 10
filled z (Some s ∷ Some a ∷ None ∷ ns) = refused 10
filled z (Some s ∷ Some a ∷ Some b ∷ ns) = windowed z (window (count_of s) a b) (levels_of (cells z) ns)

-- "rows or columns malformed or missing, 10; either beyond limits or more than 4,096 cells, 1"
unfoldable pub sized : List (Option ℤ) → Outcome Drawing
sized [] = refused 10
sized (None ∷ ns) = refused 10
sized (Some r ∷ []) = refused 10
sized (Some r ∷ None ∷ ns) = refused 10
sized (Some r ∷ Some c ∷ ns) = elim (panel_frame (frame (count_of r) (count_of c))) [ true ↦ filled (frame (count_of r) (count_of c)) ns | false ↦ refused 1 ]

-- "The order is: longer input, 10; .."
unfoldable pub parsed : List ℕ → Outcome Drawing
parsed text = elim (ltb 65536 (length text)) [ true ↦ refused 10 | false ↦ sized (map number (runs text)) ]

-- ---- output
-- "the means in column order, one space between", "each ended by a line feed"
unfoldable pub line_of : (ℕ → ℤ) → ℕ → List ℕ
line_of f zero = line_feed ∷ []
line_of f (suc zero) = printed (f 0) ++ (line_feed ∷ [])
line_of f (suc (suc n)) = printed (f 0) ++ (space ∷ line_of (λ j. f (suc j)) (suc n))

-- "one line a row"
unfoldable pub lines_of : (ℕ → ℕ → ℤ) → (i n columns : ℕ) → List ℕ
lines_of f i zero columns = []
lines_of f i (suc n) columns = line_of (f i) columns ++ lines_of f (suc i) n columns

-- "the word, a space and the number", and a line feed
abbrev pub refused_line : ℕ → List ℕ
refused_line n = 114 ∷ 101 ∷ 102 ∷ 117 ∷ 115 ∷ 101 ∷ 100 ∷ space ∷ (decimal n ++ (line_feed ∷ []))

-- what panel prints of a drawing: its smoothed picture
unfoldable pub output_of : Outcome Drawing → List ℕ
output_of (refused n) = refused_line n
output_of (answered d) =
    let out = smoothed d.frame d.levels d.window in
    lines_of (λ i j. get_or out (i * d.frame.columns + j) (pos 0)) 0 d.frame.rows d.frame.columns

unfoldable pub panel : List ℕ → List ℕ
panel text = output_of (parsed text)
