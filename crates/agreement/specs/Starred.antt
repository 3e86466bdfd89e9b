-- "Sums to try": the starred cases of document 01, gathered into one list, each as an equation between the definitions and the paper's numbers.
-- Assumes nothing.
use Rattle.std.specs.Prelude.{◌≡◌, ℕ, List, [], ◌∷◌, ◌++◌, ℤ, pos, negsuc}
use Rattle.std.proofs.Math.Option.{none, some}
use Rattle.spec_picture.specs.Refusal.{Outcome, refused, answered}
use Rattle.spec_picture.specs.declared.Window.{Window}
use Rattle.spec_picture.specs.Window.{window, shape_of, cell_count}
use Rattle.spec_picture.specs.declared.Frame.{Frame}
use Rattle.spec_picture.specs.Frame.{frame}
use Rattle.spec_picture.specs.Picture.{shift, no_shift, Inputs, inputs}
use Rattle.spec_picture.specs.Direct.{direct_call}
use Rattle.spec_rows.specs.Rows.{RowOutcome, row_call}
use Rattle.spec_statistics.specs.declared.Sums.{Sums}
use Rattle.spec_statistics.specs.SixSums.{six_sums, on_plane, Vf}
use Rattle.spec_statistics.specs.Moments.{mean_call, variance_call, deviation_call}
use Rattle.spec_statistics.specs.Voice.{voice_call, Voice}
use Rattle.spec_statistics.specs.Coefficient.{coefficient_call, Coefficient, value}

-- Picture K is 1 2 3 / 4 5 6 / 7 8 9
abbrev pub K : List ℤ
K = pos 1 ∷ pos 2 ∷ pos 3 ∷ pos 4 ∷ pos 5 ∷ pos 6 ∷ pos 7 ∷ pos 8 ∷ pos 9 ∷ []

abbrev pub three : Frame
three = frame 3 3

-- K alone, with a window
abbrev pub alone : Window → Inputs
alone w = inputs three K K w no_shift 0

-- two pictures of one row, and a window over all of it
abbrev pub line : List ℤ → List ℤ → ℕ → Inputs
line f g n = inputs (frame 1 n) f g (window 1 (pos 0) (pos 2)) no_shift 0

abbrev pub rect11 : Window
rect11 = window 1 (pos 1) (pos 1)

abbrev pub diamond1 : Window
diamond1 = window 2 (pos 1) (pos 0)

abbrev pub hexagon11 : Window
hexagon11 = window 3 (pos 1) (pos 1)

-- N 2 with a sum S of levels 0, -1 or -2
abbrev pub two : ℤ → ℕ → Sums
two s a = record { n = pos 2; s = s; t = s; a = pos a; b = pos a; p = pos a }

-- K with itself, shift (3, 0)
abbrev pub apart : Window → Inputs
apart w = inputs three K K w (shift (pos 3) (pos 0)) 0

abbrev pub f123 : List ℤ
f123 = pos 1 ∷ pos 2 ∷ pos 3 ∷ []

abbrev pub pair_with : List ℤ → Sums
pair_with g = six_sums (line f123 g 3) 0 1

-- the row call on K, rectangle 1, 1, plane 1
abbrev pub rows_of_k : (position request : ℕ) → (work output : List ℤ) → RowOutcome
rows_of_k = row_call (inputs three K K rect11 no_shift 1)

abbrev pub zeros : ℕ → List ℤ
zeros n = lib.ListN.replicate n (pos 0)

-- requests 0, 2, 1
abbrev pub after0 : RowOutcome
after0 = rows_of_k 0 0 (zeros 3) []

abbrev pub after2 : RowOutcome
after2 = rows_of_k after0.position 2 after0.work (zeros 6)

abbrev pub after1 : RowOutcome
after1 = rows_of_k after2.position 1 after2.work (zeros 3)

abbrev pub after3 : RowOutcome
after3 = rows_of_k 0 3 (zeros 3) (zeros 9)

-- a statement for each number that the paper gives
pub record Case : Type 1 where
  pub statement : Type 0

infix 3 ◌is◌
abbrev pub ◌is◌ : {A : Type 0} → A → A → Case
◌is◌ x y = record { statement = x ≡ y }

abbrev pub plane : (i j : ℕ) → Window → ℕ → Outcome ℤ
plane i j w p = direct_call (on_plane (alone w) p) i j

-- all of them hold
abbrev pub All : List Case → Type 0
All [] = Unit
All (c ∷ cs) = c.statement × All cs

-- the list
abbrev pub starred : List Case
starred =
    -- rectangle 1, 1 at (1, 1): N 9, S 45, A 285, mean 5, variance 7, deviation 2
    (plane 1 1 rect11 0 is answered (pos 9)) ∷
    (plane 1 1 rect11 1 is answered (pos 45)) ∷
    (plane 1 1 rect11 3 is answered (pos 285)) ∷
    (mean_call (six_sums (alone rect11) 1 1) is answered (some (pos 5))) ∷
    (Vf (six_sums (alone rect11) 1 1) is pos 540) ∷
    (variance_call (six_sums (alone rect11) 1 1) is answered (some (pos 7))) ∷
    (deviation_call (six_sums (alone rect11) 1 1) is answered (some (pos 2))) ∷
    -- the same at (0, 0): N 4, S 12, A 46, mean 3, variance 3, deviation 1
    (plane 0 0 rect11 0 is answered (pos 4)) ∷
    (plane 0 0 rect11 1 is answered (pos 12)) ∷
    (plane 0 0 rect11 3 is answered (pos 46)) ∷
    (mean_call (six_sums (alone rect11) 0 0) is answered (some (pos 3))) ∷
    (Vf (six_sums (alone rect11) 0 0) is pos 40) ∷
    (variance_call (six_sums (alone rect11) 0 0) is answered (some (pos 3))) ∷
    (deviation_call (six_sums (alone rect11) 0 0) is answered (some (pos 1))) ∷
    -- diamond 1 at (1, 1): N 5, S 25, A 145, variance 4, deviation 2
    (plane 1 1 diamond1 0 is answered (pos 5)) ∷
    (plane 1 1 diamond1 1 is answered (pos 25)) ∷
    (plane 1 1 diamond1 3 is answered (pos 145)) ∷
    (variance_call (six_sums (alone diamond1) 1 1) is answered (some (pos 4))) ∷
    (deviation_call (six_sums (alone diamond1) 1 1) is answered (some (pos 2))) ∷
    -- hexagon 1, 1 at (1, 1): N 9 of 11, S 45
    (plane 1 1 hexagon11 0 is answered (pos 9)) ∷
    (cell_count (shape_of hexagon11) is 11) ∷
    (plane 1 1 hexagon11 1 is answered (pos 45)) ∷
    -- N 2: S -1 has mean 0; S -3 has mean -1
    (mean_call (two (negsuc 0) 1) is answered (some (pos 0))) ∷
    (mean_call (two (negsuc 2) 5) is answered (some (negsuc 0))) ∷
    -- cells -32,768 and 32,767: Vf 4,294,836,225, variance 1,073,709,056, deviation 32,767
    (Vf (six_sums (line (negsuc 32767 ∷ pos 32767 ∷ []) (negsuc 32767 ∷ pos 32767 ∷ []) 2) 0 0) is pos 4294836225) ∷
    (variance_call (six_sums (line (negsuc 32767 ∷ pos 32767 ∷ []) (negsuc 32767 ∷ pos 32767 ∷ []) 2) 0 0) is answered (some (pos 1073709056))) ∷
    (deviation_call (six_sums (line (negsuc 32767 ∷ pos 32767 ∷ []) (negsuc 32767 ∷ pos 32767 ∷ []) 2) 0 0) is answered (some (pos 32767))) ∷
    -- f 1 2 3, g 2 4 6: 1000; g 3 2 1: -1000; g 1 3 2: 500; g 4 4 4: Flat
    (coefficient_call (pair_with (pos 2 ∷ pos 4 ∷ pos 6 ∷ [])) is answered (value (pos 1000))) ∷
    (coefficient_call (pair_with (pos 3 ∷ pos 2 ∷ pos 1 ∷ [])) is answered (value (negsuc 999))) ∷
    (coefficient_call (pair_with (pos 1 ∷ pos 3 ∷ pos 2 ∷ [])) is answered (value (pos 500))) ∷
    (coefficient_call (pair_with (pos 4 ∷ pos 4 ∷ pos 4 ∷ [])) is answered Coefficient.flat) ∷
    -- K with itself, shift (3, 0): Empty everywhere
    record { statement = (w : Window) (i j : ℕ) → voice_call (six_sums (apart w) i j) ≡ answered Voice.empty } ∷
    record { statement = (w : Window) (i j : ℕ) → coefficient_call (six_sums (apart w) i j) ≡ answered Coefficient.empty } ∷
    record { statement = (w : Window) (i j : ℕ) → mean_call (six_sums (apart w) i j) ≡ answered none } ∷
    record { statement = (w : Window) (i j : ℕ) → variance_call (six_sums (apart w) i j) ≡ answered none } ∷
    record { statement = (w : Window) (i j : ℕ) → deviation_call (six_sums (apart w) i j) ≡ answered none } ∷
    -- K, rectangle 1, 1, plane 1, by requests 0, 2, 1 equals request 3; after it, 1 more is refused by 7 and 0 is granted
    ((after2.output ++ after1.output) is after3.output) ∷
    (after1.position is after3.position) ∷
    (after1.work is after3.work) ∷
    (after0.answer is answered 0) ∷
    (after2.answer is answered 2) ∷
    (after1.answer is answered 1) ∷
    (after3.answer is answered 3) ∷
    ((rows_of_k after1.position 1 after1.work (zeros 3)).answer is refused 7) ∷
    ((rows_of_k after1.position 0 after1.work []).answer is answered 0) ∷
    []
