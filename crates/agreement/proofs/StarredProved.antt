-- The starred cases hold, as a whole: by computing the definitions, and for the empty shift from the sums of no cell.
-- Assumes nothing.
use mathlib.Core.Path.{◌≡◌, refl, ◌∙◌, ap}
use Prim.Native.Nat.{ℕ, zero, suc, ◌<◌}
use native.Mathlib.Omega.{arith}
use mathlib.Core.Bool.{Bool, true, false}
use mathlib.Core.Option.{none}
use lib.IntN.{ℤ, pos}
use Rattle.numbers.specs.Sum.{sum_to, pick}
use Rattle.numbers.specs.Grid.{tabulate}
use Rattle.numbers.specs.Wrap.{wrap}
use Rattle.numbers.specs.Round.{floor_div, nearest, root_step, root_in, root, root_over}
use Rattle.numbers.proofs.Sums.{sum-none}
use Rattle.spec_picture.specs.Refusal.{answered, refusal, outcome}
use Rattle.spec_picture.specs.declared.Window.{Window}
use Rattle.spec_picture.specs.Window.{rectangle_legal, diamond_legal, hexagon_legal, window_legal, shape_of, height, reach, width, depth, cells_beyond, cell_count, holds}
use Rattle.spec_picture.specs.Frame.{frame_legal, in_range}
use Rattle.spec_picture.specs.Picture.{shift_legal, counts, plane_value, plane_at}
use Rattle.spec_picture.specs.Direct.{window_sum, direct_sum, direct_call}
use Rattle.spec_rows.specs.Rows.{column_sum, cell_below, cell_above, enter_leave, work_value, work_change, work_after, output_row, strip, row_result, row_call}
use Rattle.spec_statistics.specs.declared.Sums.{Sums}
use Rattle.spec_statistics.specs.SixSums.{six_sums, impossible, on_plane}
use Rattle.spec_statistics.specs.Moments.{mean, variance, deviation, unless_empty, mean_call, variance_call, deviation_call}
use Rattle.spec_statistics.specs.Voice.{voice, voice_call, Voice}
use Rattle.spec_statistics.specs.Coefficient.{signed, magnitude, coefficient, coefficient_call, Coefficient}
use Rattle.agreement.specs.Starred.{starred, All, apart, three}

pick-zero : (b : Bool) (x : ℤ) → x ≡ pos 0 → pick b x ≡ pos 0
unfolding pick
pick-zero true x e = e
pick-zero false x e = refl

-- no cell of K counts under the shift (3, 0)
no-count : (w : Window) (p m n : ℕ) → m < 3 → n < 3 → plane_at (on_plane (apart w) p).source m n ≡ pos 0
unfolding plane_at counts in_range pick
no-count w p zero n h k = row0 n k
  where
    row0 : (n : ℕ) → n < 3 → plane_at (on_plane (apart w) p).source 0 n ≡ pos 0
    row0 zero k = refl
    row0 (suc zero) k = refl
    row0 (suc (suc zero)) k = refl
    row0 (suc (suc (suc n))) k = absurd (omega arith)
no-count w p (suc zero) n h k = row1 n k
  where
    row1 : (n : ℕ) → n < 3 → plane_at (on_plane (apart w) p).source 1 n ≡ pos 0
    row1 zero k = refl
    row1 (suc zero) k = refl
    row1 (suc (suc zero)) k = refl
    row1 (suc (suc (suc n))) k = absurd (omega arith)
no-count w p (suc (suc zero)) n h k = row2 n k
  where
    row2 : (n : ℕ) → n < 3 → plane_at (on_plane (apart w) p).source 2 n ≡ pos 0
    row2 zero k = refl
    row2 (suc zero) k = refl
    row2 (suc (suc zero)) k = refl
    row2 (suc (suc (suc n))) k = absurd (omega arith)
no-count w p (suc (suc (suc m))) n h k = absurd (omega arith)

no-sum : (w : Window) (p i j : ℕ) → direct_sum (on_plane (apart w) p) i j ≡ pos 0
unfolding direct_sum window_sum
no-sum w p i j =
    sum-none 3 (λ m. sum_to 3 (λ n. pick (holds three (shape_of w) i j m n) (plane_at (on_plane (apart w) p).source m n)))
    (λ m h. sum-none 3 (λ n. pick (holds three (shape_of w) i j m n) (plane_at (on_plane (apart w) p).source m n))
    (λ n k. pick-zero (holds three (shape_of w) i j m n) (plane_at (on_plane (apart w) p).source m n) (no-count w p m n h k)))

abbrev nothing : Sums
nothing = record { n = pos 0; s = pos 0; t = pos 0; a = pos 0; b = pos 0; p = pos 0 }

no-sums : (w : Window) (i j : ℕ) → six_sums (apart w) i j ≡ nothing
no-sums w i j = rw (no-sum w 0 i j, no-sum w 1 i j, no-sum w 2 i j, no-sum w 3 i j, no-sum w 4 i j, no-sum w 5 i j)

voice-none : voice_call nothing ≡ answered Voice.empty
unfolding voice_call voice outcome refusal impossible
voice-none = refl

coefficient-none : coefficient_call nothing ≡ answered Coefficient.empty
unfolding coefficient_call coefficient outcome refusal impossible
coefficient-none = refl

mean-none : mean_call nothing ≡ answered none
unfolding mean_call unless_empty outcome refusal impossible
mean-none = refl

variance-none : variance_call nothing ≡ answered none
unfolding variance_call unless_empty outcome refusal impossible
variance-none = refl

deviation-none : deviation_call nothing ≡ answered none
unfolding deviation_call unless_empty outcome refusal impossible
deviation-none = refl

-- one proof for each case of the list
infixr 2 ◌&◌
◌&◌ : {A B : Type 0} → A → B → A × B
◌&◌ a b = (a, b)

pub starred-hold : All starred
unfolding sum_to pick tabulate wrap floor_div nearest root_step root_in root root_over refusal outcome rectangle_legal diamond_legal hexagon_legal window_legal shape_of height reach width depth cells_beyond cell_count frame_legal shift_legal in_range counts plane_value plane_at window_sum direct_sum direct_call column_sum cell_below cell_above enter_leave work_value work_change work_after output_row strip row_result row_call impossible mean variance deviation unless_empty mean_call variance_call deviation_call signed magnitude coefficient coefficient_call
starred-hold =
    refl & refl & refl & refl & refl & refl & refl &
    refl & refl & refl & refl & refl & refl & refl &
    refl & refl & refl & refl & refl &
    refl & refl & refl &
    refl & refl &
    refl & refl & refl &
    refl & refl & refl & refl &
    (λ w i j. ap voice_call (no-sums w i j) ∙ voice-none) &
    (λ w i j. ap coefficient_call (no-sums w i j) ∙ coefficient-none) &
    (λ w i j. ap mean_call (no-sums w i j) ∙ mean-none) &
    (λ w i j. ap variance_call (no-sums w i j) ∙ variance-none) &
    (λ w i j. ap deviation_call (no-sums w i j) ∙ deviation-none) &
    refl & refl & refl & refl & refl & refl & refl & refl & refl & tt
