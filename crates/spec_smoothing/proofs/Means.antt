-- Of one picture every cell has a mean, and it is a level: the output picture's numbers are 16-bit.
-- Assumes nothing.
use mathlib.Core.Path.{◌≡◌, refl, sym, ◌∙◌, ap, subst}
use Prim.Native.Nat.{ℕ, ◌+◌, ◌*◌, ◌^◌, ◌<◌}
use native.Mathlib.Omega.{arith}
use mathlib.Core.Bool.{not, ◌&&◌, ◌||◌}
use mathlib.Core.List.{List, [], ◌∷◌}
use mathlib.Core.Option.{none, some}
use lib.Dec.{T, leb, ltb, lt→ltb, le→leb}
use lib.ListN.{get_or}
use lib.IntN.{ℤ, pos, negsuc, nat_abs, ◌*ℤ◌, *ℤ_comm}
use lib.Signed.{◌≤ℤ◌, mag, ≤ℤ_refl}
use Rattle.numbers.specs.Sum.{sum_to, pick, dist}
use Rattle.numbers.specs.Round.{nearest}
use Rattle.numbers.proofs.Integers.{leℤ, of_le}
use Rattle.numbers.proofs.Laws.{≤ℤ-trans}
use Rattle.numbers.proofs.Sums.{pick_yes}
use Rattle.numbers.proofs.Tests.{and_both, or_right, of-not}
use Rattle.numbers.proofs.SumOrders.{sum-le, sum-scale, sum_one, sum_nonneg, pick-le, pick-nonneg, pick-scale}
use Rattle.numbers.proofs.Grids.{get_or-grid}
use Rattle.numbers.proofs.Rounds.{nearest-law, nearest-within}
use Rattle.spec_picture.specs.Refusal.{refused, answered, refusal, numbers_of}
use Rattle.spec_picture.proofs.Refusals.{filling-none, filling-some, none-head, none_rest}
use Rattle.spec_picture.specs.declared.Frame.{Frame}
use Rattle.spec_picture.specs.Frame.{frame, frame_legal, in_range, column_gap}
use Rattle.spec_picture.proofs.Gaps.{gap-self}
use Rattle.spec_picture.specs.declared.Window.{Window}
use Rattle.spec_picture.specs.Window.{window, rectangle_legal, window_legal, fits, Shape, shape_of, height, reach, holds}
use Rattle.spec_picture.specs.Picture.{Levels, Inputs, counts, plane_value, plane_at, level_of}
use Rattle.spec_picture.specs.Direct.{window_sum, direct_sum}
use Rattle.spec_statistics.specs.SixSums.{six_sums, on_plane, count}
use Rattle.spec_statistics.specs.Moments.{mean, mean_call}
use Rattle.spec_statistics.proofs.Answers.{answers-some}
use Rattle.spec_statistics.proofs.Bounds.{possible-has}
use Rattle.spec_statistics.proofs.Possible.{sums-possible}
use Rattle.spec_smoothing.specs.Smoothing.{alone, smoothed, smooth_checks, smooth_call}

module _ (z : Frame) (f : List ℤ) (w : Window) where
  abbrev x : Inputs
  x = alone z f w

  abbrev one : ℕ → ℕ → ℤ
  one m n = plane_at (on_plane x 0).source m n

  one-nonneg : (m n : ℕ) → pos 0 ≤ℤ one m n
  unfolding plane_at plane_value counts
  one-nonneg m n = pick-nonneg (counts x.source m n) (pos 1) (leℤ (pos 0) (pos 1) (omega arith))

  one_inside : (i j : ℕ) → i < z.rows → j < z.columns → one i j ≡ pos 1
  unfolding plane_at plane_value counts in_range
  one_inside i j hi hj =
      let e : i + 0 ≡ i = omega arith in
      let e' : j + 0 ≡ j = omega arith in
      let a = and_both (ltb i z.rows) (ltb j z.columns) (lt→ltb i z.rows hi) (lt→ltb j z.columns hj) in
      let b = and_both (ltb i z.rows) (z.columns_wrap || ltb j z.columns) (lt→ltb i z.rows hi) (or_right z.columns_wrap (ltb j z.columns) (lt→ltb j z.columns hj)) in
      rw (e, e') (pick_yes ((ltb i z.rows && ltb j z.columns) && (ltb i z.rows && (z.columns_wrap || ltb j z.columns))) (pos 1) (and_both (ltb i z.rows && ltb j z.columns) (ltb i z.rows && (z.columns_wrap || ltb j z.columns)) a b))

  -- a window holds its own cell
  own : (s : Shape) (i j : ℕ) → T (holds z s i j i j)
  own s i j = and_both (leb (dist i i) (height s)) (leb (column_gap z j j) (reach s (dist i i))) (le→leb (dist i i) (height s) (omega arith)) (le→leb (column_gap z j j) (reach s (dist i i)) (omega (arith, gap-self z j)))

  -- N is at least 1
  pub counted : (i j : ℕ) → i < z.rows → j < z.columns → pos 1 ≤ℤ (six_sums x i j).n
  unfolding direct_sum window_sum
  counted i j hi hj =
      ≤ℤ-trans (subst (λ (v : ℤ). pos 1 ≤ℤ v) (sym here) (≤ℤ_refl (pos 1)))
      (≤ℤ-trans (sum_one z.columns j (λ n. pick (holds z (shape_of w) i j i n) (one i n)) (λ n. pick-nonneg (holds z (shape_of w) i j i n) (one i n) (one-nonneg i n)) hj)
      (sum_one z.rows i (λ m. sum_to z.columns (λ n. pick (holds z (shape_of w) i j m n) (one m n)))
      (λ m. sum_nonneg z.columns (λ n. pick (holds z (shape_of w) i j m n) (one m n)) (λ n. pick-nonneg (holds z (shape_of w) i j m n) (one m n) (one-nonneg m n))) hi))
    where
      here : pick (holds z (shape_of w) i j i j) (one i j) ≡ pos 1
      here = pick_yes (holds z (shape_of w) i j i j) (one i j) (own (shape_of w) i j) ∙ one_inside i j hi hj

  module _ (lv : Levels f) where
    level-ends : (y : ℤ) → mag y < 2 ^ 15 → (negsuc 32767 ≤ℤ y) × (y ≤ℤ pos 32767)
    level-ends (pos n) h = (leℤ (negsuc 32767) (pos n) (omega arith), leℤ (pos n) (pos 32767) (omega arith))
    level-ends (negsuc n) h = (leℤ (negsuc 32767) (negsuc n) (omega arith), leℤ (negsuc n) (pos 32767) (omega arith))

    -- a sum of levels lies between its count's multiples
    above : (c : ℤ) → ((m n : ℕ) → level_of x.source m n ≤ℤ c) → (i j : ℕ) → (six_sums x i j).s ≤ℤ (c *ℤ (six_sums x i j).n)
    unfolding direct_sum window_sum plane_at plane_value counts
    above c h i j =
        subst (λ (v : ℤ). (six_sums x i j).s ≤ℤ v) scaled
        (sum-le z.rows (λ m. sum_to z.columns (λ n. pick (holds z (shape_of w) i j m n) (plane_at (on_plane x 1).source m n))) (λ m. sum_to z.columns (λ n. pick (holds z (shape_of w) i j m n) (c *ℤ one m n)))
        (λ m l. sum-le z.columns (λ n. pick (holds z (shape_of w) i j m n) (plane_at (on_plane x 1).source m n)) (λ n. pick (holds z (shape_of w) i j m n) (c *ℤ one m n))
        (λ n k. pick-le (holds z (shape_of w) i j m n) (plane_at (on_plane x 1).source m n) (c *ℤ one m n) (term m n))))
      where
        term : (m n : ℕ) → plane_at (on_plane x 1).source m n ≤ℤ (c *ℤ one m n)
        term m n = subst (λ (v : ℤ). plane_at (on_plane x 1).source m n ≤ℤ v) (ap (pick (counts x.source m n)) (sym (Rattle.numbers.proofs.Laws.mul-oneℤ c)) ∙ pick-scale (counts x.source m n) c (pos 1)) (pick-le (counts x.source m n) (level_of x.source m n) c (h m n))

        scaled : sum_to z.rows (λ m. sum_to z.columns (λ n. pick (holds z (shape_of w) i j m n) (c *ℤ one m n))) ≡ c *ℤ (six_sums x i j).n
        scaled = simp (pick-scale, sum-scale)

    below : (c : ℤ) → ((m n : ℕ) → c ≤ℤ level_of x.source m n) → (i j : ℕ) → (c *ℤ (six_sums x i j).n) ≤ℤ (six_sums x i j).s
    unfolding direct_sum window_sum plane_at plane_value counts
    below c h i j =
        subst (λ (v : ℤ). v ≤ℤ (six_sums x i j).s) scaled
        (sum-le z.rows (λ m. sum_to z.columns (λ n. pick (holds z (shape_of w) i j m n) (c *ℤ one m n))) (λ m. sum_to z.columns (λ n. pick (holds z (shape_of w) i j m n) (plane_at (on_plane x 1).source m n)))
        (λ m l. sum-le z.columns (λ n. pick (holds z (shape_of w) i j m n) (c *ℤ one m n)) (λ n. pick (holds z (shape_of w) i j m n) (plane_at (on_plane x 1).source m n))
        (λ n k. pick-le (holds z (shape_of w) i j m n) (c *ℤ one m n) (plane_at (on_plane x 1).source m n) (term m n))))
      where
        term : (m n : ℕ) → (c *ℤ one m n) ≤ℤ plane_at (on_plane x 1).source m n
        term m n = subst (λ (v : ℤ). v ≤ℤ plane_at (on_plane x 1).source m n) (ap (pick (counts x.source m n)) (sym (Rattle.numbers.proofs.Laws.mul-oneℤ c)) ∙ pick-scale (counts x.source m n) c (pos 1)) (pick-le (counts x.source m n) c (level_of x.source m n) (h m n))

        scaled : sum_to z.rows (λ m. sum_to z.columns (λ n. pick (holds z (shape_of w) i j m n) (c *ℤ one m n))) ≡ c *ℤ (six_sums x i j).n
        scaled = simp (pick-scale, sum-scale)

    as-count : (n : ℤ) → pos 1 ≤ℤ n → (pos (nat_abs n) ≡ n) × (0 < nat_abs n)
    as-count (pos n) h = (refl, omega (arith, of_le h))
    as-count (negsuc n) h = absurd h.le

    ends-level : (y : ℤ) → negsuc 32767 ≤ℤ y → y ≤ℤ pos 32767 → mag y < 2 ^ 15
    ends-level (pos n) h k = omega (arith, of_le k)
    ends-level (negsuc n) h k = omega (arith, of_le h)

    -- the mean at every cell is a level
    pub mean-level : (i j : ℕ) → i < z.rows → j < z.columns → mag (mean (six_sums x i j)) < 2 ^ 15
    unfolding mean
    mean-level i j hi hj =
        let s = six_sums x i j in
        let c = as-count s.n (counted i j hi hj) in
        let lo = below (negsuc 32767) (λ m n. (level-ends (level_of x.source m n) (lv.level (m * z.columns + n))).0) i j in
        let hi' = above (pos 32767) (λ m n. (level-ends (level_of x.source m n) (lv.level (m * z.columns + n))).1) i j in
        let r = nearest-within s.s (count s) (nearest s.s (count s)) (negsuc 32767) (pos 32767) c.1 (nearest-law s.s (count s) c.1)
        (subst (λ (v : ℤ). v ≤ℤ s.s) (*ℤ_comm (negsuc 32767) s.n ∙ ap (λ (v : ℤ). v *ℤ negsuc 32767) (sym c.0)) lo)
        (subst (λ (v : ℤ). s.s ≤ℤ v) (*ℤ_comm (pos 32767) s.n ∙ ap (λ (v : ℤ). v *ℤ pos 32767) (sym c.0)) hi') in
        ends-level (nearest s.s (count s)) r.0 r.1

-- what smoothing writes, cell by cell
pub smoothed-at : (z : Frame) (f : List ℤ) (w : Window) (i j : ℕ) → i < z.rows → j < z.columns → get_or (smoothed z f w) (i * z.columns + j) (pos 0) ≡ mean (six_sums (alone z f w) i j)
unfolding smoothed
smoothed-at z f w i j hi hj = get_or-grid z.rows z.columns i j (λ i j. mean (six_sums (alone z f w) i j)) (pos 0) hi hj

-- what the checks of smoothing leave
accepted-window : (z : Frame) (f : List ℤ) (w : Window) (output : List ℤ) → refusal (smooth_checks z f w output) ≡ none → T (window_legal w)
accepted-window z f w output e = of-not (window_legal w) (none-head 3 (not (window_legal w)) _ (none_rest 2 _ _ (none_rest 1 _ _ e)))

accepted-fits : (z : Frame) (f : List ℤ) (w : Window) (output : List ℤ) → refusal (smooth_checks z f w output) ≡ none → T (fits z w)
accepted-fits z f w output e = of-not (fits z w) (none-head 11 (not (fits z w)) _ (none_rest 3 _ _ (none_rest 2 _ _ (none_rest 1 _ _ e))))

-- the public mean answers at every cell of a picture that is accepted, and each number that smoothing writes is its answer: never Empty, since a cell counts itself
pub mean-smoothed : (z : Frame) (f : List ℤ) (w : Window) (output : List ℤ) → Levels f → refusal (smooth_checks z f w output) ≡ none → (i j : ℕ) → i < z.rows → j < z.columns →
    mean_call (six_sums (alone z f w) i j) ≡ answered (some (get_or (smoothed z f w) (i * z.columns + j) (pos 0)))
unfolding mean_call
mean-smoothed z f w output lv e i j hi hj =
    let s = six_sums (alone z f w) i j in
    let fair = sums-possible (alone z f w) lv lv (accepted-window z f w output e) (accepted-fits z f w output e) i j hj in
    let some_cell = (as-count z f w lv s.n (counted z f w i j hi hj)).1 in
    sym (answers-some s (mean s) (possible-has s fair) (λ n. omega (arith, some_cell, n)))
    ∙ ap (λ (m : ℤ). answered (some m)) (sym (smoothed-at z f w i j hi hj))

-- a call that is accepted writes the means; one that is refused keeps the output
pub smooth-writes : (z : Frame) (f : List ℤ) (w : Window) (output : List ℤ) → refusal (smooth_checks z f w output) ≡ none →
    smooth_call z f w output ≡ record { answer = answered tt; area = smoothed z f w }
unfolding smooth_call
smooth-writes z f w output e = filling-none _ _ _ e

pub smooth-keeps : (z : Frame) (f : List ℤ) (w : Window) (output : List ℤ) (n : ℕ) → refusal (smooth_checks z f w output) ≡ some n →
    smooth_call z f w output ≡ record { answer = refused n; area = output }
unfolding smooth_call
smooth-keeps z f w output n e = filling-some _ _ _ n e

-- "Checks run in number order, each where the call has that input"
pub smooth-order : (z : Frame) (f : List ℤ) (w : Window) (output : List ℤ) → numbers_of (smooth_checks z f w output) ≡ 1 ∷ 2 ∷ 3 ∷ 11 ∷ 8 ∷ []
unfolding numbers_of
smooth-order z f w output = refl

-- "a wrong length of it is 8": no room for the mean of a picture of one cell, and room for two
pub other_length :
    (refusal (smooth_checks (frame 1 1) (pos 7 ∷ []) (window 1 (pos 0) (pos 0)) []) ≡ some 8) × (refusal (smooth_checks (frame 1 1) (pos 7 ∷ []) (window 1 (pos 0) (pos 0)) (pos 0 ∷ pos 0 ∷ [])) ≡ some 8)
unfolding refusal frame_legal window_legal rectangle_legal
other_length = (refl, refl)
