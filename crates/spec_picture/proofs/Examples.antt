-- Worked examples: the planes of two small pictures under a shift, their sums over a window at the border, refusals at the limits, and columns that wrap.
-- Assumes nothing.
use mathlib.Core.Path.{◌≡◌, refl}
use Prim.Native.Nat.{ℕ}
use mathlib.Core.List.{List, [], ◌∷◌}
use mathlib.Core.Option.{none, some}
use lib.IntN.{ℤ, pos, negsuc}
use Rattle.numbers.specs.Sum.{sum_to, pick}
use Rattle.spec_picture.specs.Refusal.{refusal}
use Rattle.spec_picture.specs.declared.Shift.{Shift}
use Rattle.spec_picture.specs.declared.Window.{Window}
use Rattle.spec_picture.specs.Frame.{frame, looped, frame_legal, in_range, remainder}
use Rattle.spec_picture.specs.Window.{window, rectangle_legal, diamond_legal, hexagon_legal, window_legal, shape_of, height, reach, width}
use Rattle.spec_picture.specs.Picture.{shift, no_shift, shift_legal, inputs, counts, plane_value, plane_at}
use Rattle.spec_picture.specs.Conditions.{check1, check3, check4, check7, check8, check11}
use Rattle.spec_picture.specs.Direct.{window_sum, direct_sum, direct_checks}

-- f is 1 2 3 / 4 5 6, and g is 10 20 30 / 40 50 60
abbrev f : List ℤ
f = pos 1 ∷ pos 2 ∷ pos 3 ∷ pos 4 ∷ pos 5 ∷ pos 6 ∷ []

abbrev g : List ℤ
g = pos 10 ∷ pos 20 ∷ pos 30 ∷ pos 40 ∷ pos 50 ∷ pos 60 ∷ []

abbrev f123 : List ℤ
f123 = pos 1 ∷ pos 2 ∷ pos 3 ∷ []

abbrev sum : Window → Shift → (plane i j : ℕ) → ℤ
sum w d p i j = direct_sum (inputs (frame 2 3) f g w d p) i j

-- a window of one cell, and a rectangle 1, 1
abbrev one : Window
one = window 1 (pos 0) (pos 0)

abbrev around : Window
around = window 1 (pos 1) (pos 1)

-- the shifts (0, 1) and (1, -1)
abbrev right : Shift
right = shift (pos 0) (pos 1)

abbrev down-left : Shift
down-left = shift (pos 1) (negsuc 0)

-- "2, g(m+u, n+v); 3 and 4, the squares of those two; 5, their product", at one cell
pub shifted :
    (sum one right 2 0 0 ≡ pos 20) × (sum one right 5 1 0 ≡ pos 200) ×
    (sum one down-left 1 0 1 ≡ pos 2) × (sum one down-left 2 0 1 ≡ pos 40) × (sum one down-left 3 0 1 ≡ pos 4) × (sum one down-left 4 0 1 ≡ pos 1600) × (sum one down-left 5 0 1 ≡ pos 80)
unfolding direct_sum window_sum plane_at plane_value counts in_range shape_of height reach sum_to pick
shifted = (refl, refl, refl, refl, refl, refl, refl)

-- "At every other cell it is 0": past the last column, before the first one, and below the last row
pub elsewhere : (sum one right 2 0 2 ≡ pos 0) × (sum one down-left 1 0 0 ≡ pos 0) × (sum one down-left 0 1 1 ≡ pos 0)
unfolding direct_sum window_sum plane_at plane_value counts in_range shape_of height reach sum_to pick
elsewhere = (refl, refl, refl)

-- "here it is clipped": how many cells count, and the sum of their products
pub counted : (sum around right 0 0 0 ≡ pos 4) × (sum around right 5 0 0 ≡ pos 580) × (sum around down-left 0 0 0 ≡ pos 1) × (sum around down-left 5 0 1 ≡ pos 230)
unfolding direct_sum window_sum plane_at plane_value counts in_range shape_of height reach sum_to pick
counted = (refl, refl, refl, refl)

-- "256 rows pass, 0 and 257 give 1"
pub rows-limits : (refusal (check1 (frame 256 1) ∷ []) ≡ none) × (refusal (check1 (frame 0 1) ∷ []) ≡ some 1) × (refusal (check1 (frame 257 1) ∷ []) ≡ some 1)
unfolding refusal frame_legal
rows-limits = (refl, refl, refl)

-- a rectangle's numbers, "each number 0 to 127": 127 passes, 128 gives 3, and so does -1
pub rectangle-limits :
    (refusal (check3 (window 1 (pos 127) (pos 127)) ∷ []) ≡ none) × (refusal (check3 (window 1 (pos 128) (pos 0)) ∷ []) ≡ some 3) × (refusal (check3 (window 1 (pos 0) (pos 128)) ∷ []) ≡ some 3) ×
    (refusal (check3 (window 1 (negsuc 0) (pos 0)) ∷ []) ≡ some 3) × (refusal (check3 (window 1 (pos 0) (negsuc 0)) ∷ []) ≡ some 3)
unfolding refusal window_legal rectangle_legal diamond_legal hexagon_legal
rectangle-limits = (refl, refl, refl, refl, refl)

-- "radius 127 passes, 128 gives 3", and so do a diamond's second number, k + h above 127 and shape 4
pub window-limits :
    (refusal (check3 (window 2 (pos 127) (pos 0)) ∷ []) ≡ none) × (refusal (check3 (window 2 (pos 128) (pos 0)) ∷ []) ≡ some 3) ×
    (refusal (check3 (window 2 (pos 1) (pos 1)) ∷ []) ≡ some 3) × (refusal (check3 (window 3 (pos 64) (pos 64)) ∷ []) ≡ some 3) × (refusal (check3 (window 4 (pos 1) (pos 1)) ∷ []) ≡ some 3)
unfolding refusal window_legal rectangle_legal diamond_legal hexagon_legal
window-limits = (refl, refl, refl, refl, refl)

-- "u from -255 to 255 and v from -1,023 to 1,023": the last on either side pass, the next give 4
pub shift-limits :
    (refusal (check4 (shift (negsuc 254) (pos 1023)) ∷ []) ≡ none) × (refusal (check4 (shift (pos 255) (negsuc 1022)) ∷ []) ≡ none) ×
    (refusal (check4 (shift (negsuc 255) (pos 0)) ∷ []) ≡ some 4) × (refusal (check4 (shift (pos 256) (pos 0)) ∷ []) ≡ some 4) ×
    (refusal (check4 (shift (pos 0) (negsuc 1023)) ∷ []) ≡ some 4) × (refusal (check4 (shift (pos 0) (pos 1024)) ∷ []) ≡ some 4)
unfolding refusal shift_legal
shift-limits = (refl, refl, refl, refl, refl, refl)

-- "position above rows, or request above rows minus position", of 2 rows: 2 and 0, 1 and 1 pass; 3 and 0, 1 and 2 give 7
pub request-limits :
    (refusal (check7 (frame 2 3) 2 0 ∷ []) ≡ none) × (refusal (check7 (frame 2 3) 1 1 ∷ []) ≡ none) × (refusal (check7 (frame 2 3) 3 0 ∷ []) ≡ some 7) × (refusal (check7 (frame 2 3) 1 2 ∷ []) ≡ some 7)
unfolding refusal
request-limits = (refl, refl, refl, refl)

-- "area of another length": shorter or longer
pub length-limits : (refusal (check8 6 6 ∷ []) ≡ none) × (refusal (check8 6 5 ∷ []) ≡ some 8) × (refusal (check8 6 7 ∷ []) ≡ some 8)
unfolding refusal
length-limits = (refl, refl, refl)

-- ---- columns that wrap: "A looping pad joins its last column to its first"
-- a picture of 1 x 4, and two of 3 x 5: f is 1 to 15, and g ten times that
abbrev four : List ℤ
four = pos 1 ∷ pos 2 ∷ pos 3 ∷ pos 4 ∷ []

abbrev fifteen : List ℤ
fifteen = pos 1 ∷ pos 2 ∷ pos 3 ∷ pos 4 ∷ pos 5 ∷ pos 6 ∷ pos 7 ∷ pos 8 ∷ pos 9 ∷ pos 10 ∷ pos 11 ∷ pos 12 ∷ pos 13 ∷ pos 14 ∷ pos 15 ∷ []

abbrev tens : List ℤ
tens = pos 10 ∷ pos 20 ∷ pos 30 ∷ pos 40 ∷ pos 50 ∷ pos 60 ∷ pos 70 ∷ pos 80 ∷ pos 90 ∷ pos 100 ∷ pos 110 ∷ pos 120 ∷ pos 130 ∷ pos 140 ∷ pos 150 ∷ []

abbrev in-four : (b : ℕ) → (plane j : ℕ) → ℤ
in-four b p j = direct_sum (inputs (looped 1 4) four four (window 1 (pos 0) (pos b)) no_shift p) 0 j

abbrev in-loop : Window → Shift → (plane i j : ℕ) → ℤ
in-loop w d p i j = direct_sum (inputs (looped 3 5) fifteen tens w d p) i j

-- three cells about each column of 1 2 3 4: the last, the first and the second; the first three; and the last two and the first
pub seam-of-four : (in-four 1 1 0 ≡ pos 7) × (in-four 1 1 1 ≡ pos 6) × (in-four 1 1 3 ≡ pos 8) × (in-four 1 0 3 ≡ pos 3)
unfolding direct_sum window_sum plane_at plane_value counts in_range remainder shape_of height reach sum_to pick
seam-of-four = (refl, refl, refl, refl)

-- rows clip and columns wrap: a rectangle 1, 1 at (0, 4) has two rows of three cells, 4 5 1 and 9 10 6; a diamond 1 at (1, 0) has 1, 10 6 7 and 11
pub seam-of-fifteen : (in-loop around no_shift 0 0 4 ≡ pos 6) × (in-loop around no_shift 1 0 4 ≡ pos 35) × (in-loop (window 2 (pos 1) (pos 0)) no_shift 1 1 0 ≡ pos 35)
unfolding direct_sum window_sum plane_at plane_value counts in_range remainder shape_of height reach sum_to pick
seam-of-fifteen = (refl, refl, refl)

-- "A counting cell of g is found at the wrapped column": 7 columns to the left of 5 is 3 to the right; every cell of a row that counts does so, and one past the last row does not
pub seven-left :
    (in-loop one (shift (pos 0) (negsuc 6)) 2 0 0 ≡ pos 40) × (in-loop one (shift (pos 0) (negsuc 6)) 2 0 1 ≡ pos 50) × (in-loop one (shift (pos 0) (negsuc 6)) 2 0 2 ≡ pos 10) ×
    (in-loop one (shift (pos 1) (pos 1023)) 2 0 4 ≡ pos 80) × (in-loop one (shift (pos 1) (pos 1023)) 0 2 0 ≡ pos 0)
unfolding direct_sum window_sum plane_at plane_value counts in_range remainder shape_of height reach sum_to pick
seven-left = (refl, refl, refl, refl, refl)

-- one column is beside itself, however far g is shifted
abbrev in-column : Shift → (plane i : ℕ) → ℤ
in-column d p i = direct_sum (inputs (looped 3 1) f123 f123 (window 1 (pos 1) (pos 0)) d p) i 0

pub one-column : (in-column (shift (pos 0) (negsuc 1022)) 2 0 ≡ pos 3) × (in-column (shift (pos 1) (pos 1)) 2 1 ≡ pos 5) × (in-column (shift (pos 1) (pos 1)) 0 1 ≡ pos 2)
unfolding direct_sum window_sum plane_at plane_value counts in_range remainder shape_of height reach sum_to pick
one-column = (refl, refl, refl)

-- "its widest row must fit the columns": equality is taken, whatever the height; one column has room for windows of one column
pub width-limits :
    (refusal (check11 (looped 1 5) (window 1 (pos 127) (pos 2)) ∷ []) ≡ none) × (refusal (check11 (looped 1 4) (window 1 (pos 0) (pos 2)) ∷ []) ≡ some 11) × (refusal (check11 (frame 1 4) (window 1 (pos 0) (pos 2)) ∷ []) ≡ none) ×
    (refusal (check11 (looped 1 5) (window 2 (pos 2) (pos 0)) ∷ []) ≡ none) × (refusal (check11 (looped 1 4) (window 2 (pos 2) (pos 0)) ∷ []) ≡ some 11) ×
    (refusal (check11 (looped 1 5) (window 3 (pos 1) (pos 1)) ∷ []) ≡ none) × (refusal (check11 (looped 1 4) (window 3 (pos 1) (pos 1)) ∷ []) ≡ some 11) ×
    (refusal (check11 (looped 3 1) (window 1 (pos 1) (pos 0)) ∷ []) ≡ none) × (refusal (check11 (looped 3 1) (window 1 (pos 0) (pos 1)) ∷ []) ≡ some 11)
unfolding refusal shape_of width
width-limits = (refl, refl, refl, refl, refl, refl, refl, refl, refl)

-- 11 is "checked after 5", and before 6
pub width-order :
    (refusal (direct_checks (inputs (looped 1 4) four four (window 1 (pos 0) (pos 2)) no_shift 6) 1 0) ≡ some 5) ×
    (refusal (direct_checks (inputs (looped 1 4) four four (window 1 (pos 0) (pos 2)) no_shift 5) 1 0) ≡ some 11) ×
    (refusal (direct_checks (inputs (looped 1 4) four four (window 1 (pos 0) (pos 1)) no_shift 5) 1 0) ≡ some 6)
unfolding refusal shape_of width frame_legal window_legal rectangle_legal shift_legal
width-order = (refl, refl, refl)
