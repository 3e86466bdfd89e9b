-- Worked examples of results: what C sees of an answer, of a refusal, and of an answer with no value; and of frames as C gives them.
-- Assumes nothing.
use mathlib.Core.Path.{◌≡◌, refl}
use mathlib.Core.Bool.{false}
use mathlib.Core.List.{List, [], ◌∷◌}
use Prim.Native.Nat.{ℕ}
use lib.IntN.{ℤ, pos, negsuc}
use lib.Ieee.{fin, round}
use Rattle.numbers.specs.Sum.{sum_to, pick}
use Rattle.numbers.specs.Round.{floor_div, nearest, root_step, root_in, root, root_over}
use Rattle.spec_picture.specs.Refusal.{Outcome, refused, answered, refusal, outcome}
use Rattle.spec_picture.specs.declared.Cell.{Cell}
use Rattle.spec_picture.specs.Frame.{frame, looped, cell, frame_legal, in_range}
use Rattle.spec_picture.specs.Window.{window, rectangle_legal, window_legal, shape_of, height, reach}
use Rattle.spec_picture.specs.Picture.{no_shift, shift_legal, inputs, counts, plane_value, plane_at}
use Rattle.spec_picture.specs.Direct.{window_sum, direct_sum, direct_call}
use Rattle.spec_statistics.specs.declared.Sums.{Sums}
use Rattle.spec_statistics.specs.SixSums.{impossible}
use Rattle.spec_statistics.specs.Moments.{mean, deviation, unless_empty, mean_call}
use Rattle.spec_statistics.specs.Voice.{over32768, voice, voice_call}
use Rattle.spec_statistics.specs.Coefficient.{signed, magnitude, coefficient, coefficient_call}
use Rattle.spec_smoothing.specs.Steady.{find_column, or_else, find_cell, first_steady, steady_call}
use Rattle.spec_c.specs.Frame.{frame_from}
use Rattle.spec_c.specs.Leaves.{RowCallLeaves}
use Rattle.spec_c.specs.CResult.{CResult, VoiceResult, with_value, status, result_or, c_result, sums, of_whole, of_coefficient, of_cell, voice_result, of_voice}

-- ---- frames of 3 rows and 5 columns: 0 clips; 1, 2 and the largest number of 32 bits wrap
pub frames-given : (frame_from 3 5 0 ≡ frame 3 5) × (frame_from 3 5 1 ≡ looped 3 5) × (frame_from 3 5 2 ≡ looped 3 5) × (frame_from 3 5 4294967295 ≡ looped 3 5)
frames-given = (refl, refl, refl, refl)

-- ---- the direct sum of a plane of the picture 1 2 over a window of one cell
abbrev direct : (plane column : ℕ) → CResult ℤ
direct p j = c_result with_value (direct_call (inputs (frame 1 2) (pos 1 ∷ pos 2 ∷ []) (pos 1 ∷ pos 2 ∷ []) (window 1 (pos 0) (pos 0)) no_shift p) 0 j)

-- an answer has status 0, and its sum takes the place of what was behind the pointer; a call that is refused has its number for a status,
-- 5 for a plane above 5 and 6 for a cell outside, and leaves what was there
pub sums-returned :
    (status (direct 1 1) ≡ pos 0) × (result_or (pos 77) (direct 1 1) ≡ pos 2) ×
    (status (direct 6 1) ≡ pos 5) × (result_or (pos 77) (direct 6 1) ≡ pos 77) ×
    (status (direct 1 2) ≡ pos 6) × (result_or (pos 77) (direct 1 2) ≡ pos 77)
unfolding status result_or c_result direct_call outcome refusal direct_sum window_sum plane_at plane_value counts in_range shape_of height reach window_legal rectangle_legal frame_legal shift_legal sum_to pick
sums-returned = (refl, refl, refl, refl, refl, refl)

-- ---- the mean
-- the sums of no cell, and those of f -1 -2
abbrev no_cell : Sums
no_cell = sums (pos 0) (pos 0) (pos 0) (pos 0) (pos 0) (pos 0)

abbrev below0 : Sums
below0 = sums (pos 2) (negsuc 2) (pos 0) (pos 5) (pos 0) (pos 0)

abbrev means : Sums → CResult ℤ
means z = c_result of_whole (mean_call z)

-- -1 and -2 have mean -1; no cell is Empty, -1, which leaves what was behind the pointer; N below 0 is impossible, 9
pub means-returned :
    (status (means below0) ≡ pos 0) × (result_or (pos 77) (means below0) ≡ negsuc 0) ×
    (status (means no_cell) ≡ negsuc 0) × (result_or (pos 77) (means no_cell) ≡ pos 77) ×
    (status (means (sums (negsuc 0) (pos 0) (pos 0) (pos 0) (pos 0) (pos 0))) ≡ pos 9)
unfolding status result_or c_result mean_call mean unless_empty nearest floor_div outcome refusal impossible
means-returned = (refl, refl, refl, refl, refl)

-- ---- the coefficient
-- the sums of f 1 2 3 and g 3 2 1, and of f 1 2 3 and g 4 4 4
abbrev opposed : Sums
opposed = sums (pos 3) (pos 6) (pos 6) (pos 14) (pos 14) (pos 10)

abbrev flat_g : Sums
flat_g = sums (pos 3) (pos 6) (pos 12) (pos 14) (pos 48) (pos 24)

abbrev correlated : Sums → CResult ℤ
correlated z = c_result of_coefficient (coefficient_call z)

-- the first have -1000; the second are Flat, -2; no cell is Empty, -1
pub coefficients-returned :
    (status (correlated opposed) ≡ pos 0) × (result_or (pos 77) (correlated opposed) ≡ negsuc 999) ×
    (status (correlated flat_g) ≡ negsuc 1) × (status (correlated no_cell) ≡ negsuc 0)
unfolding status result_or c_result coefficient_call coefficient signed magnitude root_step root_in root root_over outcome refusal impossible
coefficients-returned = (refl, refl, refl, refl)

-- ---- the voice, where kind 7, level 1 and spread 1 were
abbrev voice_answered : Sums → VoiceResult
voice_answered z = result_or (voice_result 7 (fin false 1 (pos 0)) (fin false 1 (pos 0))) (c_result of_voice (voice_call z))

-- one cell of level 0 is Steady, kind 1, and its spread is written too; cells 0, 0, 1 are Grainy, kind 2; no cell leaves all three
pub voices-returned :
    (voice_answered (sums (pos 1) (pos 0) (pos 0) (pos 0) (pos 0) (pos 0)) ≡ voice_result 1 (fin false 0 (pos 0)) (fin false 0 (pos 0))) ×
    (voice_answered (sums (pos 3) (pos 1) (pos 0) (pos 1) (pos 0) (pos 0)) ≡ voice_result 2 (fin false 0 (pos 0)) (fin false 0 (pos 0))) ×
    (voice_answered no_cell ≡ voice_result 7 (fin false 1 (pos 0)) (fin false 1 (pos 0)))
unfolding result_or c_result voice_call voice mean deviation nearest floor_div root_step root_in root root_over over32768 round outcome refusal impossible
voices-returned = (refl, refl, refl)

-- ---- the search over one row and three columns, where row 8 and column 9 were
abbrev searched : List ℤ → CResult Cell
searched f = c_result of_cell (steady_call (frame 1 3) f f (window 1 (pos 0) (pos 1)) no_shift)

-- 1 2 2 is steady at its last cell; 1 2 1 nowhere, -3; two levels are no picture of this size, 2
pub cells-returned :
    (status (searched (pos 1 ∷ pos 2 ∷ pos 2 ∷ [])) ≡ pos 0) × (result_or (cell 8 9) (searched (pos 1 ∷ pos 2 ∷ pos 2 ∷ [])) ≡ cell 0 2) ×
    (status (searched (pos 1 ∷ pos 2 ∷ pos 1 ∷ [])) ≡ negsuc 2) × (result_or (cell 8 9) (searched (pos 1 ∷ pos 2 ∷ pos 1 ∷ [])) ≡ cell 8 9) ×
    (status (searched (pos 1 ∷ pos 2 ∷ [])) ≡ pos 2)
unfolding status result_or c_result steady_call first_steady find_cell find_column or_else outcome voice direct_sum window_sum plane_at plane_value counts in_range shape_of height reach window_legal rectangle_legal frame_legal shift_legal refusal sum_to pick
cells-returned = (refl, refl, refl, refl, refl)

-- ---- a row call, where granted was 77: of 2 rows from position 1 on, and one that is turned down by 7, which keeps all
abbrev row_call_left : (answer : Outcome ℕ) → (position : ℕ) → (work output : List ℤ) → (status : ℤ) → (granted : ℕ) → Type 0
row_call_left answer position work output status granted =
    RowCallLeaves (record { answer = answer; position = position; work = work; output = output }) 77 status granted position work output

pub rows-left :
    row_call_left (answered 2) 3 (pos 5 ∷ []) (pos 4 ∷ pos 5 ∷ []) (pos 0) 2 ×
    row_call_left (refused 7) 1 (pos 5 ∷ []) (pos 4 ∷ pos 5 ∷ []) (pos 7) 77
unfolding status result_or c_result
rows-left = (
  record { result_is = record { status_is = refl; value_is = refl }; position_is = refl; work_is = refl; output_is = refl },
  record { result_is = record { status_is = refl; value_is = refl }; position_is = refl; work_is = refl; output_is = refl },
)
