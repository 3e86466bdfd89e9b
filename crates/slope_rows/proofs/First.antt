-- The window sums of row 0 from column to column: nothing lies above row 0, so the rising slopes are added and the falling ones subtracted.
-- Assumes nothing.
use mathlib.Core.Path.{◌≡◌, sym, ◌∙◌, ap, ap₂}
use Prim.Native.Nat.{ℕ, zero, suc, ◌+◌, ◌-◌, ◌≤◌, ◌<◌, min}
use native.Mathlib.Omega.{arith}
use native.Mathlib.Decide.{dec_lt}
use mathlib.Core.Bool.{false}
use lib.Dec.{leb, ltb, le→leb}
use lib.IntN.{ℤ, pos, ◌+ℤ◌, ◌-ℤ◌}
use Rattle.numbers.specs.Sum.{sum_to, pick}
use Rattle.numbers.proofs.Linear.{any, sums, ring}
use Rattle.numbers.proofs.Sums.{sum-cong, sum-none, sum-add, sum-sub, sum-prefix, pick_yes, pick-in, pick_out}
use Rattle.spec_picture.specs.declared.Frame.{Frame}
use Rattle.spec_picture.specs.Frame.{Apart}
use Rattle.spec_picture.specs.Window.{Shape, is_rectangle, height, reach, width}
use Rattle.spec_picture.specs.Direct.{window_sum}
use Rattle.spec_picture.proofs.Windows.{height-width, reach-slanted}
use Rattle.slope_loops.specs.Slopes.{lowered, beside_row, padded, edge_slopes, rising, falling}
use Rattle.slope_loops.proofs.BesideRow.{beside-cong, beside-zero}
use Rattle.slope_loops.proofs.Moves.{padded-above}
use Rattle.slope_rows.proofs.NextColumn.{near-next}
use Rattle.row_steps.proofs.Columns.{reached, window-0}
use Rattle.slope_loops.specs.declared.padding.TheConstants.{ABOVE, MARGIN}

-- ---- sums
-- the first term and the others
sum_first : (n : ℕ) (f : ℕ → ℤ) → sum_to (suc n) f ≡ f 0 +ℤ sum_to n (λ t. f (suc t))
unfolding sum_to
sum_first zero f = ring (search (sums, any (f 0))) (omega arith)
sum_first (suc n) f = ap (λ (v : ℤ). v +ℤ f (suc n)) (sum_first n f) ∙ last (f 0) (sum_to n (λ t. f (suc t))) (f (suc n))
  where
    last : (a b c : ℤ) → (a +ℤ b) +ℤ c ≡ a +ℤ (b +ℤ c)
    last a b c = ring (search (sums, any a, any b, any c) depth 12) (omega arith)

-- the others are 0
only-first : (n : ℕ) (f : ℕ → ℤ) → 1 ≤ n → ((t : ℕ) → 1 ≤ t → f t ≡ pos 0) → sum_to n f ≡ f 0
only-first zero f h e = absurd (omega arith)
only-first (suc n) f h e = sum_first n f ∙ ap (λ (v : ℤ). f 0 +ℤ v) (sum-none n (λ t. f (suc t)) (λ t t<. e (suc t) (omega arith))) ∙ right (f 0)
  where
    right : (a : ℤ) → a +ℤ pos 0 ≡ a
    right a = ring (search (sums, any a)) (omega arith)

-- terms that are 0 from place b on
sum-upto : (a b : ℕ) (f : ℕ → ℤ) → ((k : ℕ) → b ≤ k → f k ≡ pos 0) → sum_to (min a b) f ≡ sum_to a f
sum-upto a b f e =
    let turned : min a b ≡ min b a = omega arith in
    ap (λ (m : ℕ). sum_to m f) turned ∙ sym (sum-prefix a b f) ∙ sum-cong a (λ k. pick (ltb k b) (f k)) f (λ k k<. here k (dec_lt k b))
  where
    here : (k : ℕ) → Dec (k < b) → pick (ltb k b) (f k) ≡ f k
    here k (yes h) = pick-in k b (f k) h
    here k (no h) = pick_out k b (f k) (omega arith) ∙ sym (e k (omega arith))

module _ (z : Frame) (P : ℕ → ℕ → ℤ) (past : (m n : ℕ) → z.rows ≤ m → P m n ≡ pos 0) (beside : (m n : ℕ) → z.columns ≤ n → P m n ≡ pos 0) where
  abbrev Q : ℕ → ℕ → ℤ
  Q = padded z P

  -- row m of the plane, among zeros or wrapped cells
  row-is : (m x : ℕ) → beside_row z.columns_wrap z.columns (P m) x ≡ Q (ABOVE + m) x
  unfolding padded
  row-is m x =
      let e : ABOVE + m - ABOVE ≡ m = omega arith in
      beside-cong z.columns_wrap z.columns (P m) (lowered P (ABOVE + m)) (λ n. sym (pick_yes (leb ABOVE (ABOVE + m)) (P (ABOVE + m - ABOVE) n) (le→leb ABOVE (ABOVE + m) (omega arith)) ∙ ap (λ (k : ℕ). P k n) e)) x

  padded-past : (m x : ℕ) → z.rows ≤ m → Q (ABOVE + m) x ≡ pos 0
  padded-past m x h = sym (row-is m x) ∙ beside-zero z.columns_wrap z.columns (P m) (λ n. past m n h) x

  module _ (s : Shape) (no-rectangle : is_rectangle s ≡ false) (low : height s ≤ 127) (narrow : width s ≤ 127) (apart : Apart z (width s)) (j : ℕ) (j< : suc j < z.columns) where
    abbrev h : ℕ
    h = height s

    abbrev w : ℕ
    w = width s

    -- row t of the window: the cell after its right end is added, and the one at its left end subtracted
    abbrev enters : ℕ → ℤ
    enters t = Q (ABOVE + t) (MARGIN + 1 + j + w - t)

    abbrev leaves : ℕ → ℤ
    leaves t = Q (ABOVE + t) (MARGIN + j + t - w)

    row_step : (t : ℕ) → t ≤ h → reached z P s t (suc j) ≡ reached z P s t j +ℤ (enters t -ℤ leaves t)
    row_step t l =
        let k : reach s t ≡ w - t = reach-slanted s no-rectangle t in
        let wide : h ≤ w = height-width s no-rectangle in
        let right : MARGIN + suc j + (w - t) ≡ MARGIN + 1 + j + w - t = omega arith in
        let left : MARGIN + j - (w - t) ≡ MARGIN + j + t - w = omega arith in
        near-next z j (reach s t) (P t) j< (beside t) (omega (arith, k)) (λ v. omega (arith, k, apart v))
        ∙ ap (λ (v : ℤ). reached z P s t j +ℤ v)
        (ap₂ ◌-ℤ◌
        (row-is t (MARGIN + suc j + reach s t) ∙ ap (λ (q : ℕ). Q (ABOVE + t) (MARGIN + suc j + q)) k ∙ ap (Q (ABOVE + t)) right)
        (row-is t (MARGIN + j - reach s t) ∙ ap (λ (q : ℕ). Q (ABOVE + t) (MARGIN + j - q)) k ∙ ap (Q (ABOVE + t)) left))

    rows_step : window_sum z s P 0 (suc j) ≡ window_sum z s P 0 j +ℤ sum_to (suc h) (λ t. enters t -ℤ leaves t)
    rows_step =
        let m = min (suc (0 + h)) z.rows in
        let from_0 : 0 + h ≡ h = omega arith in
        window-0 z P s (suc j)
        ∙ sum-cong m (λ t. reached z P s t (suc j)) (λ t. reached z P s t j +ℤ (enters t -ℤ leaves t)) (λ t t<. row_step t (omega arith))
        ∙ sum-add m (λ t. reached z P s t j) (λ t. enters t -ℤ leaves t)
        ∙ ap₂ ◌+ℤ◌ (sym (window-0 z P s j))
        (sum-upto (suc (0 + h)) z.rows (λ t. enters t -ℤ leaves t) (λ t l. ap₂ ◌-ℤ◌ (padded-past t (MARGIN + 1 + j + w - t) l) (padded-past t (MARGIN + j + t - w) l))
        ∙ ap (λ (n : ℕ). sum_to (suc n) (λ t. enters t -ℤ leaves t)) from_0)

    -- of row 0 the slopes have lower cells, and above them those of row 0 alone
    rising-is : 1 ≤ h → rising Q w h ABOVE (MARGIN + j) ≡ sum_to h (λ t. enters (suc t)) -ℤ leaves 0
    unfolding edge_slopes
    rising-is some =
        sum-sub h (λ t. Q (ABOVE + 1 + t) (MARGIN + j + w - t)) (λ t. Q (ABOVE - t) (MARGIN + j + t - w))
        ∙ ap₂ ◌-ℤ◌
        (sum-cong h (λ t. Q (ABOVE + 1 + t) (MARGIN + j + w - t)) (λ t. enters (suc t)) (λ t t<. ap₂ Q (omega arith) (omega arith)))
        (only-first h (λ t. Q (ABOVE - t) (MARGIN + j + t - w)) some (λ t l. padded-above z P (ABOVE - t) (MARGIN + j + t - w) (omega arith)) ∙ ap₂ Q (omega arith) (omega arith))

    falling-is : 1 ≤ h → falling Q w h ABOVE (MARGIN + 1 + j) ≡ sum_to h (λ t. leaves (suc t)) -ℤ enters 0
    unfolding edge_slopes
    falling-is some =
        sum-sub h (λ t. Q (ABOVE + 1 + t) (MARGIN + 1 + j + t - w)) (λ t. Q (ABOVE - t) (MARGIN + 1 + j + w - t))
        ∙ ap₂ ◌-ℤ◌
        (sum-cong h (λ t. Q (ABOVE + 1 + t) (MARGIN + 1 + j + t - w)) (λ t. leaves (suc t)) (λ t t<. ap₂ Q (omega arith) (omega arith)))
        (only-first h (λ t. Q (ABOVE - t) (MARGIN + 1 + j + w - t)) some (λ t l. padded-above z P (ABOVE - t) (MARGIN + 1 + j + w - t) (omega arith)) ∙ ap₂ Q (omega arith) (omega arith))

    regrouped : (c cs g gs : ℤ) → (c +ℤ cs) -ℤ (g +ℤ gs) ≡ (cs -ℤ g) -ℤ (gs -ℤ c)
    regrouped c cs g gs = ring (search (sums, any c, any cs, any g, any gs) depth 12) (omega arith)

    pub first_step : 1 ≤ h → window_sum z s P 0 (suc j) ≡ window_sum z s P 0 j +ℤ (rising Q w h ABOVE (MARGIN + j) -ℤ falling Q w h ABOVE (MARGIN + 1 + j))
    first_step some =
        rows_step
        ∙ ap (λ (v : ℤ). window_sum z s P 0 j +ℤ v)
        (sum-sub (suc h) enters leaves
        ∙ ap₂ ◌-ℤ◌ (sum_first h enters) (sum_first h leaves)
        ∙ regrouped (enters 0) (sum_to h (λ t. enters (suc t))) (leaves 0) (sum_to h (λ t. leaves (suc t)))
        ∙ sym (ap₂ ◌-ℤ◌ (rising-is some) (falling-is some)))
