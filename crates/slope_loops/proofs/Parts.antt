-- What a column adds from row to row, by the parts of the window's edges: the flat part, the slopes that rise and those that fall.
-- Assumes nothing.
use mathlib.Core.Path.{◌≡◌, sym, ◌∙◌, ap, ap₂}
use Prim.Native.Nat.{ℕ, suc, ◌+◌, ◌-◌, ◌≤◌, ◌<◌, min}
use native.Mathlib.Omega.{arith}
use native.Mathlib.Decide.{dec_lt}
use mathlib.Core.Bool.{false, true≢false}
use lib.Dec.{leb, leb→le, le→leb}
use lib.IntN.{ℤ, pos, ◌+ℤ◌, ◌-ℤ◌}
use Rattle.numbers.specs.Sum.{sum_to, pick}
use Rattle.numbers.proofs.Linear.{any, sums, ring}
use Rattle.numbers.proofs.Sums.{sum-cong, sum-add, pick_yes, pick_no}
use Rattle.spec_picture.specs.declared.Frame.{Frame}
use Rattle.spec_picture.specs.Frame.{column_gap, Apart}
use Rattle.spec_picture.specs.Window.{Shape, rectangle, slanted, is_rectangle, height, width, depth}
use Rattle.spec_picture.proofs.Windows.{height-width, depth-slanted}
use Rattle.spec_rows.specs.Rows.{cell_below, cell_above, enter_leave, work_change}
use Rattle.spec_rows.specs.Distances.{at_distance}
use Rattle.spec_rows.proofs.Cells.{cell_below_lem, cell-above, none_above}
use Rattle.spec_rows.proofs.Distances.{at-distance-some, near-0, near_last}
use Rattle.slope_loops.specs.declared.padding.TheConstants.{ABOVE, MARGIN}
use Rattle.slope_loops.specs.Slopes.{lowered, beside_row, padded, edge_slopes, rising, falling, edges_change}
use Rattle.slope_loops.proofs.BesideRow.{pick-zero, beside-cong, beside-sub, both-beside}
use Rattle.slope_loops.proofs.Moves.{padded-middle}

module _ (z : Frame) (P : ℕ → ℕ → ℤ) (past : (m n : ℕ) → z.rows ≤ m → P m n ≡ pos 0) (beside : (m n : ℕ) → z.columns ≤ n → P m n ≡ pos 0) where
  abbrev Q : ℕ → ℕ → ℤ
  Q = padded z P

  -- a cell that enters and one that leaves, in the lowered plane
  lowered-row : (m n : ℕ) → lowered P (ABOVE + m) n ≡ P m n
  lowered-row m n =
      let e : ABOVE + m - ABOVE ≡ m = omega arith in
      pick_yes (leb ABOVE (ABOVE + m)) (P (ABOVE + m - ABOVE) n) (le→leb ABOVE (ABOVE + m) (omega arith)) ∙ ap (λ (k : ℕ). P k n) e

  enter : (i d n : ℕ) → cell_below z P (suc i) d n ≡ lowered P (ABOVE + i + 1 + d) n
  enter i d n =
      let e : ABOVE + (suc i + d) ≡ ABOVE + i + 1 + d = omega arith in
      cell_below_lem z P past (suc i) d n ∙ sym (lowered-row (suc i + d) n) ∙ ap (λ (y : ℕ). lowered P y n) e

  leave : (i d n : ℕ) → Dec (i < d) → d ≤ ABOVE → cell_above z P i d n ≡ lowered P (ABOVE + i - d) n
  leave i d n (yes h) l = none_above z P i d n h ∙ sym (pick_no (leb ABOVE (ABOVE + i - d)) (P (ABOVE + i - d - ABOVE) n) (λ t. omega (arith, leb→le ABOVE (ABOVE + i - d) t)))
  leave i d n (no h) l =
      let e : ABOVE + (i - d) ≡ ABOVE + i - d = omega arith in
      cell-above z P past i d n (omega arith) ∙ sym (lowered-row (i - d) n) ∙ ap (λ (y : ℕ). lowered P y n) e

  -- both, at place x of a row
  abbrev change : (i d x : ℕ) → ℤ
  change i d x = Q (ABOVE + i + 1 + d) x -ℤ Q (ABOVE + i - d) x

  enters-leaves : (i d n : ℕ) → d ≤ ABOVE → enter_leave z P i d n ≡ lowered P (ABOVE + i + 1 + d) n -ℤ lowered P (ABOVE + i - d) n
  unfolding enter_leave
  enters-leaves i d n l = ap₂ ◌-ℤ◌ (enter i d n) (leave i d n (dec_lt i d) l)

  -- past the picture's columns nothing enters or leaves
  none-beside : (i d n : ℕ) → d ≤ ABOVE → z.columns ≤ n → enter_leave z P i d n ≡ pos 0
  none-beside i d n l h =
      let zero : (y : ℕ) → lowered P y n ≡ pos 0 = λ y. ap (pick (leb ABOVE y)) (beside (y - ABOVE) n h) ∙ pick-zero (leb ABOVE y) in
      enters-leaves i d n l ∙ ap₂ ◌-ℤ◌ (zero (ABOVE + i + 1 + d)) (zero (ABOVE + i - d))

  -- among zeros or wrapped cells
  change-is : (i d x : ℕ) → d ≤ ABOVE → beside_row z.columns_wrap z.columns (enter_leave z P i d) x ≡ change i d x
  unfolding padded
  change-is i d x l =
      beside-cong z.columns_wrap z.columns (enter_leave z P i d) (λ n. lowered P (ABOVE + i + 1 + d) n -ℤ lowered P (ABOVE + i - d) n) (λ n. enters-leaves i d n l) x
      ∙ beside-sub z.columns_wrap z.columns (lowered P (ABOVE + i + 1 + d)) (lowered P (ABOVE + i - d)) x

  -- the columns c columns on the left and on the right of column j
  both-changes : (i d c j : ℕ) → d ≤ ABOVE → j < z.columns → 1 ≤ c → c ≤ MARGIN → Apart z c →
      at_distance z (enter_leave z P i d) c j ≡ change i d (MARGIN + j - c) +ℤ change i d (MARGIN + j + c)
  both-changes i d c j l j< some few apart =
      at-distance-some z c j (enter_leave z P i d) some
      ∙ both-beside z.columns_wrap z.columns j c (enter_leave z P i d) j< (λ n h. none-beside i d n l h) few apart
      ∙ ap₂ ◌+ℤ◌ (change-is i d (MARGIN + j - c) l) (change-is i d (MARGIN + j + c) l)

  crossed : (a b c d : ℤ) → (a -ℤ b) +ℤ (c -ℤ d) ≡ (c -ℤ b) +ℤ (a -ℤ d)
  crossed a b c d = ring (search (sums, any a, any b, any c, any d) depth 12) (omega arith)

  module _ (s : Shape) (no-rectangle : is_rectangle s ≡ false) (low : height s ≤ 127) (narrow : width s ≤ 127) (apart : Apart z (width s)) (i j : ℕ) (j< : j < z.columns) where
    abbrev h : ℕ
    h = height s

    abbrev w : ℕ
    w = width s

    wide : h ≤ w
    wide = height-width s no-rectangle

    abbrev F : ℕ → ℕ → ℤ
    F d n = enter_leave z P i (depth s d) n

    -- the columns at distance w - t go t rows up and down
    slope-depth : (t : ℕ) → t < h → depth s (w - t) ≡ t
    slope-depth t t< = depth-slanted s no-rectangle (w - t) ∙ omega (arith, wide)

    slopes-at : (t : ℕ) → t < h → at_distance z (F (w - t)) (w - t) j ≡
        (Q (ABOVE + i + 1 + t) (MARGIN + j + w - t) -ℤ Q (ABOVE + i - t) (MARGIN + j + t - w)) +ℤ (Q (ABOVE + i + 1 + t) (MARGIN + j + t - w) -ℤ Q (ABOVE + i - t) (MARGIN + j + w - t))
    slopes-at t t< =
        let left : MARGIN + j - (w - t) ≡ MARGIN + j + t - w = omega (arith, wide) in
        let right : MARGIN + j + (w - t) ≡ MARGIN + j + w - t = omega (arith, wide) in
        ap (λ (d : ℕ). at_distance z (enter_leave z P i d) (w - t) j) (slope-depth t t<)
        ∙ both-changes i t (w - t) j (omega arith) j< (omega (arith, wide)) (omega arith) (λ v. omega (arith, apart v))
        ∙ ap₂ ◌+ℤ◌ (ap (change i t) left) (ap (change i t) right)
        ∙ crossed (Q (ABOVE + i + 1 + t) (MARGIN + j + t - w)) (Q (ABOVE + i - t) (MARGIN + j + t - w)) (Q (ABOVE + i + 1 + t) (MARGIN + j + w - t)) (Q (ABOVE + i - t) (MARGIN + j + w - t))

    slopes : sum_to h (λ t. at_distance z (F (w - t)) (w - t) j) ≡ rising Q w h (ABOVE + i) (MARGIN + j) +ℤ falling Q w h (ABOVE + i) (MARGIN + j)
    unfolding edge_slopes
    slopes = sum-cong h _ _ slopes-at ∙ sum-add h _ _

    -- the columns up to distance w - h are as high as the middle one
    middle : (c : ℕ) → c ≤ w - h → min h (w - c) ≡ h
    middle c m = omega (arith, wide)

    flat-at : (n : ℕ) → Dec (w - h < column_gap z j n) → pick (leb (column_gap z j n) (w - h)) (F (column_gap z j n) n) ≡ pick (leb (column_gap z j n) (w - h)) (enter_leave z P i h n)
    flat-at n = go (column_gap z j n)
      where
        go : (c : ℕ) → Dec (w - h < c) → pick (leb c (w - h)) (F c n) ≡ pick (leb c (w - h)) (enter_leave z P i h n)
        go c (yes f) = pick_no (leb c (w - h)) (F c n) (λ t. omega (arith, leb→le c (w - h) t)) ∙ sym (pick_no (leb c (w - h)) (enter_leave z P i h n) (λ t. omega (arith, leb→le c (w - h) t)))
        go c (no f) = ap (λ (d : ℕ). pick (leb c (w - h)) (enter_leave z P i d n)) (depth-slanted s no-rectangle c ∙ middle c (omega arith))

    parts : sum_to z.columns (λ n. pick (leb (column_gap z j n) w) (F (column_gap z j n) n)) ≡
        sum_to z.columns (λ n. pick (leb (column_gap z j n) (w - h)) (enter_leave z P i h n)) +ℤ (rising Q w h (ABOVE + i) (MARGIN + j) +ℤ falling Q w h (ABOVE + i) (MARGIN + j))
    parts =
        near_last z j F j< w h wide apart
        ∙ ap₂ ◌+ℤ◌ (sum-cong z.columns _ _ (λ n n<. flat-at n (dec_lt (w - h) (column_gap z j n)))) slopes

  -- what a column adds is what the flat part and the slopes add
  pub change-parts : (s : Shape) → is_rectangle s ≡ false → height s ≤ 127 → width s ≤ 127 → Apart z (width s) → (i j : ℕ) → j < z.columns → work_change z P s i j ≡ edges_change z P (height s) (width s) i j
  unfolding work_change edges_change
  change-parts (rectangle a b) e low narrow apart i j j< = absurd (true≢false e)
  change-parts (slanted o) e low narrow apart i j j< = parts (slanted o) e low narrow apart i j j<

  -- a flat part of one column is a tip: the cell that enters less the one that leaves
  pub tips : (h i j : ℕ) → h ≤ ABOVE → j < z.columns → sum_to z.columns (λ n. pick (leb (column_gap z j n) 0) (enter_leave z P i h n)) ≡ Q (ABOVE + i + 1 + h) (MARGIN + j) -ℤ Q (ABOVE + i - h) (MARGIN + j)
  tips h i j l j< = near-0 z j (λ d n. enter_leave z P i h n) j< ∙ enters-leaves i h j l ∙ sym (ap₂ ◌-ℤ◌ (padded-middle z P (ABOVE + i + 1 + h) j j<) (padded-middle z P (ABOVE + i - h) j j<))
