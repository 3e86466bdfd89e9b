-- The slopes that the code keeps: none at first, a cell more of each, and those of the next row. What they add to the work area.
-- Assumes nothing.
use mathlib.Core.Path.{◌≡◌, sym, ◌∙◌, ap, ap₂}
use Prim.Native.Nat.{ℕ, ◌+◌, ◌-◌, ◌*◌, ◌≤◌, ◌<◌}
use native.Mathlib.Omega.{arith}
use native.Mathlib.Decide.{dec_lt}
use mathlib.Core.List.{List}
use lib.Dec.{leb}
use lib.ListN.{replicate, length-replicate, get_or-replicate}
use lib.IntN.{ℤ, pos, negsuc, nat_abs, ◌+ℤ◌, ◌-ℤ◌, +ℤ_assoc}
use lib.Signed.{mag}
use Rattle.numbers.specs.Sum.{sum_to, pick}
use Rattle.numbers.specs.Grid.{tabulate}
use Rattle.numbers.specs.Wrap.{wrap}
use Rattle.numbers.proofs.Grids.{tabulate-cong, get_d_tabulate}
use Rattle.numbers.proofs.Wraps.{wrap-add}
use Rattle.numbers.proofs.Writes.{at}
use Rattle.spec_picture.specs.declared.Frame.{Frame}
use Rattle.spec_picture.specs.Frame.{column_gap}
use Rattle.spec_rows.specs.Rows.{enter_leave}
use Rattle.slope_loops.specs.declared.loops.GatherPlaces.{GatherPlaces}
use Rattle.slope_loops.specs.declared.loops.SlidePlaces.{SlidePlaces}
use Rattle.slope_loops.specs.Slopes.{padded, edge_slopes, on_right, on_left, rising, falling, edges_change}
use Rattle.slope_loops.proofs.LoopLaws.{replaced-all}
use Rattle.slope_loops.proofs.Moves.{slope_none, slope-more, slope_bound, rising_step, falling-step}
use Rattle.slope_loops.proofs.Parts.{tips}
use Rattle.slope_loops.specs.Loops.{Blank, Holds, AtMost, Replaced, gathered, slid, slopes_added, tips_added}
use Rattle.slope_rows.specs.Edges.{Slopes}
use Rattle.slope_rows.specs.Places.{RisingCells, FallingCells, RisingPlaces, FallingPlaces}
use Rattle.std.proofs.lemmas.List.{get_or_past}
use Rattle.slope_loops.specs.declared.padding.TheConstants.{ABOVE, MARGIN, ROW_LENGTH}
use Rattle.slope_rows.specs.declared.places.TheConstants.{FALLING_START, RISING_START, SLOPE_SHIFT}

-- ---- rows of zeros
zero-at : (n x : ℕ) → Dec (x < n) → at (replicate n (pos 0)) x ≡ pos 0
zero-at n x (yes l) = get_or-replicate n x (pos 0) (pos 0) l
zero-at n x (no l) = get_or_past (replicate n (pos 0)) x (pos 0) (omega (arith, length-replicate n (pos 0)))

pub zeros-blank : (n : ℕ) (z : Frame) → n ≡ ROW_LENGTH → Blank z (replicate n (pos 0))
zeros-blank n z e = record { size = length-replicate n (pos 0) ∙ e; low = λ c x l. zero-at n x (dec_lt x n); high = λ c x l. zero-at n x (dec_lt x n) }

pub zeros-slopes : (Q : ℕ → ℕ → ℤ) (columns more w y n : ℕ) → n ≡ ROW_LENGTH → Slopes Q columns more w 0 y 0 (replicate n (pos 0)) (replicate n (pos 0))
zeros-slopes Q columns more w y n e = record {
  length_rises = length-replicate n (pos 0) ∙ e;
  length_falls = length-replicate n (pos 0) ∙ e;
  rising_at = λ s l k. zero-at n s (dec_lt s n) ∙ sym (slope_none Q (on_right w (s + SLOPE_SHIFT - 0)) (on_left w (s + SLOPE_SHIFT - 0)) y);
  falling_at = λ s l k. zero-at n s (dec_lt s n) ∙ sym (slope_none Q (on_left w (s + 0 - SLOPE_SHIFT)) (on_right w (s + 0 - SLOPE_SHIFT)) y);
}

-- ---- how large they are
mag-size : (x : ℤ) → mag x ≤ nat_abs x
mag-size (pos n) = omega arith
mag-size (negsuc n) = omega arith

module _ (Q : ℕ → ℕ → ℤ) (B : ℕ) (small : (y x : ℕ) → nat_abs (Q y x) ≤ B) where
  pub within-row : (z : Frame) (reach : ℕ) (a : List ℤ) (y M p n : ℕ) → B ≤ M → Holds z reach (Q y) a → MARGIN ≤ p + reach → p + n ≤ MARGIN + z.columns + reach → AtMost M a p n
  within-row z reach a y M p n l u from to = record { each = λ x x<. rw (u.each (x + p) (omega arith) (omega arith)) (omega (arith, mag-size (Q y (x + p)), small y (x + p))) }

  module _ (columns more w n y m : ℕ) (rises falls : List ℤ) (l : Slopes Q columns more w n y m rises falls) (M p count : ℕ) (large : n * (2 * B) ≤ M) where
    within_slope : (lower upper : ℕ → ℕ) (v : ℤ) → v ≡ edge_slopes Q lower upper n y → mag v ≤ M
    within_slope lower upper v e = rw e (omega (arith, mag-size (edge_slopes Q lower upper n y), slope_bound Q lower upper B small n y))

    pub within-rises : RISING_START + m ≤ p → p + count ≤ RISING_START + m + columns + more → AtMost M rises p count
    within-rises h k = record { each = λ x x<. within_slope _ _ _ (l.rising_at (x + p) (omega arith) (omega arith)) }

    pub within-falls : FALLING_START ≤ p + m + more → p + count + m ≤ FALLING_START + columns → AtMost M falls p count
    within-falls h k = record { each = λ x x<. within_slope _ _ _ (l.falling_at (x + p) (omega arith) (omega arith)) }

-- ---- what the loops make of the slopes of a column, whichever way they go
module _ (z : Frame) (reach : ℕ) (Q : ℕ → ℕ → ℤ) where
  -- a place of a row that the loops reach
  abbrev Near : ℕ → Type 0
  Near k = (MARGIN ≤ k + reach) × (k < MARGIN + z.columns + reach)

  held : {a : List ℤ} {y : ℕ} (k : ℕ) {c : ℕ} → Holds z reach (Q y) a → Near k → k ≡ c → at a k ≡ Q y c
  held {y = y} k u n e = u.each k n.0 n.1 ∙ ap (Q y) e

  -- a cell more of each edge
  gathered-more : (lower upper : ℕ → ℕ) (n y x : ℕ) {a b : List ℤ} (sums : List ℤ) (places : GatherPlaces) → Holds z reach (Q (y + 1 + n)) a → Holds z reach (Q (y - n)) b → at sums (x + places.sums) ≡ edge_slopes Q lower upper n y →
      Near (x + places.enters) → Near (x + places.leaves) →
      x + places.enters ≡ lower n → x + places.leaves ≡ upper n → gathered a b places sums x ≡ edge_slopes Q lower upper (n + 1) y
  gathered-more lower upper n y x sums places enters leaves e i j p q =
      ap₂ ◌+ℤ◌ e (ap₂ ◌-ℤ◌ (held (x + places.enters) enters i p) (held (x + places.leaves) leaves j q)) ∙ sym (slope-more Q lower upper n y)

  -- a new cell of each edge, and one that is gone
  slid-is : (n y x : ℕ) {a b c : List ℤ} (sums : List ℤ) {old : ℤ} {lower_new lower_gone upper_new upper_gone : ℕ} (places : SlidePlaces) →
      Holds z reach (Q (y + 1 + n)) a → Holds z reach (Q (y + 1)) b → Holds z reach (Q (y + 1 - n)) c → at sums (x + places.sums) ≡ old →
      Near (x + places.lower_new) × Near (x + places.lower_gone) × Near (x + places.upper_new) × Near (x + places.upper_gone) →
      x + places.lower_new ≡ lower_new → x + places.lower_gone ≡ lower_gone → x + places.upper_new ≡ upper_new → x + places.upper_gone ≡ upper_gone →
      slid a b c places sums x ≡ old +ℤ (Q (y + 1 + n) lower_new -ℤ Q (y + 1) lower_gone) -ℤ (Q (y + 1) upper_new -ℤ Q (y + 1 - n) upper_gone)
  slid-is n y x sums places lower middle upper e i p q r s =
      ap₂ ◌-ℤ◌ (ap₂ ◌+ℤ◌ e (ap₂ ◌-ℤ◌ (held (x + places.lower_new) lower i.0 p) (held (x + places.lower_gone) middle i.1 q))) (ap₂ ◌-ℤ◌ (held (x + places.upper_new) middle i.2 r) (held (x + places.upper_gone) upper i.3 s))

-- ---- where slopes are kept of so many columns beside the picture's
module _ (z : Frame) (Q : ℕ → ℕ → ℤ) (w beside : ℕ) (narrow : w ≤ 127) (kept : beside ≤ w) where
  abbrev reach : ℕ
  reach = w + beside + 1

  -- one cell more of each slope
  module _ (i t : ℕ) {a b rises falls rises_next falls_next : List ℤ} (up down : GatherPlaces) (few : t < w)
      (ru : RisingCells MARGIN (w - t) up) (rd : FallingCells (MARGIN - beside) (w - t) down)
      (lower : Holds z reach (Q (ABOVE + i + 1 + t)) a) (upper : Holds z reach (Q (ABOVE + i - t)) b) (l : Slopes Q z.columns beside w t (ABOVE + i) 0 rises falls)
      (u : Replaced (gathered a b up rises) rises rises_next up.sums (z.columns + beside))
      (v : Replaced (gathered a b down falls) falls falls_next down.sums (z.columns + beside)) where
    pub slopes-cell : Slopes Q z.columns beside w (t + 1) (ABOVE + i) 0 rises_next falls_next
    slopes-cell = record {
      length_rises = u.size;
      length_falls = v.size;
      rising_at = λ s h k. replaced-all u (λ p. rising Q w (t + 1) (ABOVE + i) (p + SLOPE_SHIFT - 0))
          (λ x x<. gathered-more z reach Q (on_right w (x + up.sums + SLOPE_SHIFT - 0)) (on_left w (x + up.sums + SLOPE_SHIFT - 0)) t (ABOVE + i) x rises up lower upper (l.rising_at (x + up.sums) (omega (arith, ru.sums)) (omega (arith, ru.sums)))
          (omega (arith, ru.enters), omega (arith, ru.enters)) (omega (arith, ru.leaves), omega (arith, ru.leaves)) (omega (arith, ru.sums, ru.enters)) (omega (arith, ru.sums, ru.leaves)))
          s (λ before. absurd (omega (arith, ru.sums))) (λ after. absurd (omega (arith, ru.sums)));
      falling_at = λ s h k. replaced-all v (λ p. falling Q w (t + 1) (ABOVE + i) (p + 0 - SLOPE_SHIFT))
          (λ x x<. gathered-more z reach Q (on_left w (x + down.sums + 0 - SLOPE_SHIFT)) (on_right w (x + down.sums + 0 - SLOPE_SHIFT)) t (ABOVE + i) x falls down lower upper (l.falling_at (x + down.sums) (omega (arith, rd.sums)) (omega (arith, rd.sums)))
          (omega (arith, rd.enters), omega (arith, rd.enters)) (omega (arith, rd.leaves), omega (arith, rd.leaves)) (omega (arith, rd.sums, rd.enters)) (omega (arith, rd.sums, rd.leaves)))
          s (λ before. absurd (omega (arith, rd.sums))) (λ after. absurd (omega (arith, rd.sums)));
    }

  -- the slopes of the next row, where one more of each has come in
  module _ (h i m : ℕ) {a b c rises falls rises_next falls_next : List ℤ} (up down : SlidePlaces) (low : h ≤ w) (turn : m ≤ 254)
      (ru : RisingPlaces MARGIN (m + 1) w (w - h) up) (rd : FallingPlaces (MARGIN - beside) (m + 1) w (w - h) down)
      (lower : Holds z reach (Q (ABOVE + i + 1 + h)) a) (middle : Holds z reach (Q (ABOVE + i + 1)) b) (upper : Holds z reach (Q (ABOVE + i + 1 - h)) c) (l : Slopes Q z.columns (beside + 1) w h (ABOVE + i) m rises falls)
      (u : Replaced (slid a b c up rises) rises rises_next up.sums (z.columns + beside))
      (v : Replaced (slid a b c down falls) falls falls_next down.sums (z.columns + beside)) where
    rises_next-is : (x : ℕ) → x < z.columns + beside → slid a b c up rises x ≡ rising Q w h (ABOVE + i + 1) (x + up.sums + SLOPE_SHIFT - (m + 1))
    rises_next-is x x< =
        let e : x + up.sums + SLOPE_SHIFT - m ≡ x + up.sums + SLOPE_SHIFT - (m + 1) + 1 = omega (arith, ru.sums) in
        slid-is z reach Q h (ABOVE + i) x rises up lower middle upper (l.rising_at (x + up.sums) (omega (arith, ru.sums)) (omega (arith, ru.sums)) ∙ ap (rising Q w h (ABOVE + i)) e)
        ((omega (arith, ru.lower_new), omega (arith, ru.lower_new)), (omega (arith, ru.lower_gone), omega (arith, ru.lower_gone)), (omega (arith, ru.upper_new), omega (arith, ru.upper_new)), (omega (arith, ru.upper_gone), omega (arith, ru.upper_gone)))
        (omega (arith, ru.sums, ru.lower_new)) (omega (arith, ru.sums, ru.lower_gone)) (omega (arith, ru.sums, ru.upper_new)) (omega (arith, ru.sums, ru.upper_gone))
        ∙ sym (rising_step Q w h low (ABOVE + i) (x + up.sums + SLOPE_SHIFT - (m + 1)) (omega (arith, ru.sums)) (omega arith))

    falls_next-is : (x : ℕ) → x < z.columns + beside → slid a b c down falls x ≡ falling Q w h (ABOVE + i + 1) (x + down.sums + (m + 1) - SLOPE_SHIFT)
    falls_next-is x x< =
        let e : x + down.sums + (m + 1) - SLOPE_SHIFT ≡ x + down.sums + m - SLOPE_SHIFT + 1 = omega (arith, rd.sums) in
        slid-is z reach Q h (ABOVE + i) x falls down lower middle upper (l.falling_at (x + down.sums) (omega (arith, rd.sums)) (omega (arith, rd.sums)))
        ((omega (arith, rd.lower_new), omega (arith, rd.lower_new)), (omega (arith, rd.lower_gone), omega (arith, rd.lower_gone)), (omega (arith, rd.upper_new), omega (arith, rd.upper_new)), (omega (arith, rd.upper_gone), omega (arith, rd.upper_gone)))
        (omega (arith, rd.sums, rd.lower_new)) (omega (arith, rd.sums, rd.lower_gone)) (omega (arith, rd.sums, rd.upper_new)) (omega (arith, rd.sums, rd.upper_gone))
        ∙ sym (falling-step Q w h low (ABOVE + i) (x + down.sums + m - SLOPE_SHIFT) (omega (arith, rd.sums)) (omega arith))
        ∙ ap (falling Q w h (ABOVE + i + 1)) (sym e)

    pub slopes-next : Slopes Q z.columns beside w h (ABOVE + i + 1) (m + 1) rises_next falls_next
    slopes-next = record {
      length_rises = u.size;
      length_falls = v.size;
      rising_at = λ s p q. replaced-all u (λ k. rising Q w h (ABOVE + i + 1) (k + SLOPE_SHIFT - (m + 1))) rises_next-is s (λ before. absurd (omega (arith, ru.sums))) (λ after. absurd (omega (arith, ru.sums)));
      falling_at = λ s p q. replaced-all v (λ k. falling Q w h (ABOVE + i + 1) (k + (m + 1) - SLOPE_SHIFT)) falls_next-is s (λ before. absurd (omega (arith, rd.sums))) (λ after. absurd (omega (arith, rd.sums)));
    }

-- ---- what a row of a call adds to the work area
module _ (z : Frame) (P : ℕ → ℕ → ℤ) (more w h i m : ℕ) {rises falls : List ℤ} (turn : m ≤ 254) (l : Slopes (padded z P) z.columns more w h (ABOVE + i) m rises falls) where
  abbrev flat : ℕ → ℤ
  flat j = sum_to z.columns (λ k. pick (leb (column_gap z j k) (w - h)) (enter_leave z P i h k))

  abbrev slanted : ℕ → ℤ
  slanted j = rising (padded z P) w h (ABOVE + i) (MARGIN + j) +ℤ falling (padded z P) w h (ABOVE + i) (MARGIN + j)

  slanted-at : (j : ℕ) → j < z.columns → at rises (j + (RISING_START + m)) +ℤ at falls (j + (FALLING_START - m)) ≡ slanted j
  slanted-at j j< =
      let rises-there : j + (RISING_START + m) + SLOPE_SHIFT - m ≡ MARGIN + j = omega arith in
      let falls-there : j + (FALLING_START - m) + m - SLOPE_SHIFT ≡ MARGIN + j = omega arith in
      ap₂ ◌+ℤ◌
      (l.rising_at (j + (RISING_START + m)) (omega arith) (omega arith) ∙ ap (rising (padded z P) w h (ABOVE + i)) rises-there)
      (l.falling_at (j + (FALLING_START - m)) (omega arith) (omega arith) ∙ ap (falling (padded z P) w h (ABOVE + i)) falls-there)

  -- when the flat parts and then the slopes are added
  pub work-edged : (n : ℕ) (work with-flat out : List ℤ) → n ≡ z.columns → with-flat ≡ tabulate z.columns (λ j. wrap (at work j +ℤ flat j)) →
      out ≡ tabulate n (slopes_added rises falls (RISING_START + m) (FALLING_START - m) with-flat) → out ≡ tabulate z.columns (λ j. wrap (at work j +ℤ edges_change z P h w i j))
  unfolding edges_change
  work-edged n work with-flat out en ef eo =
      eo ∙ ap (λ (k : ℕ). tabulate k (slopes_added rises falls (RISING_START + m) (FALLING_START - m) with-flat)) en
      ∙ tabulate-cong z.columns (slopes_added rises falls (RISING_START + m) (FALLING_START - m) with-flat) (λ j. wrap (at work j +ℤ (flat j +ℤ slanted j)))
      (λ j j<. ap₂ (λ (x y : ℤ). wrap (x +ℤ y)) (ap (λ (q : List ℤ). at q j) ef ∙ get_d_tabulate z.columns j (λ j. wrap (at work j +ℤ flat j)) (pos 0) j<) (slanted-at j j<)
      ∙ wrap-add (at work j +ℤ flat j) (slanted j)
      ∙ ap wrap (+ℤ_assoc (at work j) (flat j) (slanted j)))

  -- when the tips and the slopes are added together
  pub work-tipped : (past : (m n : ℕ) → z.rows ≤ m → P m n ≡ pos 0) (beside : (m n : ℕ) → z.columns ≤ n → P m n ≡ pos 0) (reach n : ℕ) (a c work out : List ℤ) → h ≤ 127 → w - h ≡ 0 →
      Holds z reach (padded z P (ABOVE + i + 1 + h)) a → Holds z reach (padded z P (ABOVE + i - h)) c → n ≡ z.columns →
      out ≡ tabulate n (tips_added a c rises falls (RISING_START + m) (FALLING_START - m) work) → out ≡ tabulate z.columns (λ j. wrap (at work j +ℤ edges_change z P h w i j))
  unfolding edges_change
  work-tipped past beside reach n a c work out low tip ha hc en eo =
      eo ∙ ap (λ (k : ℕ). tabulate k (tips_added a c rises falls (RISING_START + m) (FALLING_START - m) work)) en
      ∙ tabulate-cong z.columns (tips_added a c rises falls (RISING_START + m) (FALLING_START - m) work) (λ j. wrap (at work j +ℤ (flat j +ℤ slanted j)))
      (λ j j<.
      let place : j + MARGIN ≡ MARGIN + j = omega arith in
      let ends : flat j ≡ padded z P (ABOVE + i + 1 + h) (MARGIN + j) -ℤ padded z P (ABOVE + i - h) (MARGIN + j) =
      ap (λ (k : ℕ). sum_to z.columns (λ q. pick (leb (column_gap z j q) k) (enter_leave z P i h q))) tip ∙ tips z P past beside h i j (omega arith) j< in
      ap₂ (λ (x y : ℤ). wrap (at work j +ℤ (x +ℤ y)))
      (ap₂ ◌-ℤ◌ (ha.each (j + MARGIN) (omega arith) (omega arith) ∙ ap (padded z P (ABOVE + i + 1 + h)) place) (hc.each (j + MARGIN) (omega arith) (omega arith) ∙ ap (padded z P (ABOVE + i - h)) place) ∙ sym ends) (slanted-at j j<))

-- ---- where a loop over rows begins
pub slopes-begin : (Q : ℕ → ℕ → ℤ) (columns more w h i : ℕ) (rises falls : List ℤ) → Slopes Q columns more w h (ABOVE + i) 0 rises falls → Slopes Q columns more w h (ABOVE + (i + 0)) 0 rises falls
slopes-begin Q columns more w h i rises falls s =
    let first : i ≡ i + 0 = omega arith in
    rw (← first) s

pub holds-begin : (z : Frame) (reach : ℕ) (Q : ℕ → ℕ → ℤ) (h i : ℕ) (c : List ℤ) → Holds z reach (Q (ABOVE + i - h)) c → Holds z reach (Q (ABOVE + (i + 0) - h)) c
holds-begin z reach Q h i c s =
    let first : i ≡ i + 0 = omega arith in
    rw (← first) s
