-- The slopes of a row and of the next: they move by a column. Their cells one by one, where they are 0, and how large they are.
-- Assumes nothing.
use mathlib.Core.Path.{◌≡◌, refl, sym, ◌∙◌, ap, ap₂}
use Prim.Native.Nat.{ℕ, zero, suc, ◌+◌, ◌-◌, ◌*◌, ◌≤◌, ◌<◌}
use native.Mathlib.Omega.{arith}
use native.Mathlib.Numerals.{add-one}
use mathlib.Core.Bool.{not}
use lib.Dec.{T, leb, leb→le}
use lib.IntN.{ℤ, pos, nat_abs, ◌+ℤ◌, ◌-ℤ◌}
use Rattle.numbers.specs.Sum.{sum_to, pick}
use Rattle.numbers.proofs.Linear.{any, sums, ring}
use Rattle.numbers.proofs.Magnitudes.{size-sub}
use Rattle.numbers.proofs.Sums.{sum-suc, sum-cong, sum-none, sum-sub, sum_bound, pick_no, pick-bound}
use Rattle.spec_picture.specs.declared.Frame.{Frame}
use Rattle.slope_loops.specs.declared.padding.TheConstants.{ABOVE, MARGIN}
use Rattle.slope_loops.proofs.BesideRow.{pick-zero, beside-bound, beside-inside, beside-zero, clipped-left, clipped-right, round-once}
use Rattle.slope_loops.specs.Slopes.{lowered, padded, edge_slopes, on_right, on_left, rising, falling}

-- ---- a sum whose terms move on by one
sum-on : (n : ℕ) (f : ℕ → ℤ) → sum_to n (λ t. f (suc t)) ≡ sum_to n f +ℤ (f n -ℤ f 0)
unfolding sum_to
sum-on zero f = ring (search (sums, any (f 0))) (omega arith)
sum-on (suc n) f = ap (λ (s : ℤ). s +ℤ f (suc n)) (sum-on n f) ∙ last (sum_to n f) (f n) (f 0) (f (suc n))
  where
    last : (s a b c : ℤ) → (s +ℤ (a -ℤ b)) +ℤ c ≡ (s +ℤ a) +ℤ (c -ℤ b)
    last s a b c = ring (search (sums, any s, any a, any b, any c) depth 12) (omega arith)

-- of two sums one moves on and one moves back
both-move : (n : ℕ) (f g : ℕ → ℤ) →
    sum_to n (λ t. f (suc t)) -ℤ sum_to n g ≡ (sum_to n f -ℤ sum_to n (λ t. g (suc t))) +ℤ (f n -ℤ f 0) -ℤ (g 0 -ℤ g n)
both-move n f g = rw (sum-on n f, sum-on n g) (move (sum_to n f) (sum_to n g) (f n) (f 0) (g 0) (g n))
  where
    move : (s r a b c d : ℤ) → (s +ℤ (a -ℤ b)) -ℤ r ≡ (s -ℤ (r +ℤ (d -ℤ c))) +ℤ (a -ℤ b) -ℤ (c -ℤ d)
    move s r a b c d = ring (search (sums, any s, any r, any a, any b, any c, any d) depth 16) (omega arith)

-- ---- a slope of each edge
module _ (Q : ℕ → ℕ → ℤ) where
  cell : {y z x k : ℕ} → y ≡ z → x ≡ k → Q y x ≡ Q z k
  cell p q = ap₂ Q p q

  module _ (lower upper : ℕ → ℕ) where
    pub slope_none : (y : ℕ) → edge_slopes Q lower upper 0 y ≡ pos 0
    unfolding edge_slopes sum_to
    slope_none y = refl

    -- a cell more of each edge
    pub slope-more : (n y : ℕ) → edge_slopes Q lower upper (n + 1) y ≡ edge_slopes Q lower upper n y +ℤ (Q (y + 1 + n) (lower n) -ℤ Q (y - n) (upper n))
    unfolding edge_slopes
    slope-more n y = ap (λ (m : ℕ). sum_to m (λ t. Q (y + 1 + t) (lower t) -ℤ Q (y - t) (upper t))) (add-one n) ∙ sum-suc n _

    -- n cells enter and n leave
    pub slope_bound : (M : ℕ) → ((y x : ℕ) → nat_abs (Q y x) ≤ M) → (n y : ℕ) → nat_abs (edge_slopes Q lower upper n y) ≤ n * (2 * M)
    unfolding edge_slopes
    slope_bound M small n y = sum_bound n (2 * M) _ (λ t t<. omega (arith, size-sub (Q (y + 1 + t) (lower t)) (Q (y - t) (upper t)), small (y + 1 + t) (lower t), small (y - t) (upper t)))

    -- all of them are 0
    pub slope-zero : (n y : ℕ) → ((m t : ℕ) → t < n → Q m (lower t) ≡ pos 0) → ((m t : ℕ) → t < n → Q m (upper t) ≡ pos 0) → edge_slopes Q lower upper n y ≡ pos 0
    unfolding edge_slopes
    slope-zero n y f g = sum-none n _ (λ t t<. ap₂ ◌-ℤ◌ (f (y + 1 + t) t t<) (g (y - t) t t<))

    -- the same cells at other places
    pub slope-same : (lower_too upper_too : ℕ → ℕ) (n y : ℕ) → ((m t : ℕ) → t < n → Q m (lower t) ≡ Q m (lower_too t)) → ((m t : ℕ) → t < n → Q m (upper t) ≡ Q m (upper_too t)) →
        edge_slopes Q lower upper n y ≡ edge_slopes Q lower_too upper_too n y
    unfolding edge_slopes
    slope-same lower_too upper_too n y f g = sum-cong n _ _ (λ t t<. ap₂ ◌-ℤ◌ (f (y + 1 + t) t t<) (g (y - t) t t<))

    -- From row y to the next: where the lower edge's cells are those a row further on, and the upper edge's those a row further back, each has a new cell and one is gone.
    pub slope-step : (lower_next upper_next : ℕ → ℕ) (n y : ℕ) → n ≤ y + 1 → ((t : ℕ) → t < n → lower_next t ≡ lower (suc t)) → ((t : ℕ) → t < n → upper t ≡ upper_next (suc t)) →
        edge_slopes Q lower_next upper_next n (y + 1) ≡ edge_slopes Q lower upper n y +ℤ (Q (y + 1 + n) (lower n) -ℤ Q (y + 1) (lower 0)) -ℤ (Q (y + 1) (upper_next 0) -ℤ Q (y + 1 - n) (upper_next n))
    unfolding edge_slopes
    slope-step lower_next upper_next n y deep on back =
        let f : ℕ → ℤ = λ t. Q (y + 1 + t) (lower t) in
        let g : ℕ → ℤ = λ t. Q (y + 1 - t) (upper_next t) in
        sum-cong n (λ t. Q (y + 1 + 1 + t) (lower_next t) -ℤ Q (y + 1 - t) (upper_next t)) (λ t. f (suc t) -ℤ g t) (λ t t<. ap (λ (v : ℤ). v -ℤ g t) (cell (omega arith) (on t t<)))
        ∙ sum-sub n (λ t. f (suc t)) g
        ∙ both-move n f g
        ∙ ap₂ (λ (u v : ℤ). u +ℤ (f n -ℤ v) -ℤ (g 0 -ℤ g n))
        (sym (sum-cong n (λ t. Q (y + 1 + t) (lower t) -ℤ Q (y - t) (upper t)) (λ t. f t -ℤ g (suc t)) (λ t t<. ap (λ (v : ℤ). f t -ℤ v) (cell (omega arith) (back t t<)))
        ∙ sum-sub n f (λ t. g (suc t))))
        (cell (omega arith) refl)
        ∙ ap (λ (v : ℤ). sum_to n (λ t. Q (y + 1 + t) (lower t) -ℤ Q (y - t) (upper t)) +ℤ (f n -ℤ Q (y + 1) (lower 0)) -ℤ (v -ℤ g n)) (cell (omega arith) refl)

  module _ (w h : ℕ) (low : h ≤ w) where
    -- the rising slopes of row y + 1 are those of row y one column further right
    pub rising_step : (y x : ℕ) → w ≤ x → h ≤ y + 1 →
        rising Q w h (y + 1) x ≡ rising Q w h y (x + 1) +ℤ (Q (y + 1 + h) (on_right w (x + 1) h) -ℤ Q (y + 1) (on_right w (x + 1) 0)) -ℤ (Q (y + 1) (on_left w x 0) -ℤ Q (y + 1 - h) (on_left w x h))
    rising_step y x wide deep = slope-step (on_right w (x + 1)) (on_left w (x + 1)) (on_right w x) (on_left w x) h y deep (λ t t<. omega arith) (λ t t<. omega arith)

    -- the falling slopes of row y + 1 are those of row y one column further left
    pub falling-step : (y x : ℕ) → w ≤ x → h ≤ y + 1 →
        falling Q w h (y + 1) (x + 1) ≡ falling Q w h y x +ℤ (Q (y + 1 + h) (on_left w x h) -ℤ Q (y + 1) (on_left w x 0)) -ℤ (Q (y + 1) (on_right w (x + 1) 0) -ℤ Q (y + 1 - h) (on_right w (x + 1) h))
    falling-step y x wide deep = slope-step (on_left w x) (on_right w x) (on_left w (x + 1)) (on_right w (x + 1)) h y deep (λ t t<. omega arith) (λ t t<. omega arith)

-- ---- the padded plane
module _ (z : Frame) (P : ℕ → ℕ → ℤ) where
  pub padded-bound : (M : ℕ) → ((m n : ℕ) → nat_abs (P m n) ≤ M) → (y x : ℕ) → nat_abs (padded z P y x) ≤ M
  unfolding padded
  padded-bound M small y x = beside-bound z.columns_wrap z.columns (lowered P y) M (λ n. omega (arith, pick-bound (leb ABOVE y) (P (y - ABOVE) n), small (y - ABOVE) n)) x

  pub padded-middle : (y n : ℕ) → n < z.columns → padded z P y (MARGIN + n) ≡ lowered P y n
  unfolding padded
  padded-middle y n h = beside-inside z.columns_wrap z.columns (lowered P y) n h

  pub padded-above : (y x : ℕ) → y < ABOVE → padded z P y x ≡ pos 0
  unfolding padded
  padded-above y x h = beside-zero z.columns_wrap z.columns (lowered P y) (λ n. pick_no (leb ABOVE y) (P (y - ABOVE) n) (λ t. omega (arith, leb→le ABOVE y t))) x

  -- where columns clip, it is a row among zeros
  pub padded-left : T (not z.columns_wrap) → (y x : ℕ) → x < MARGIN → padded z P y x ≡ pos 0
  unfolding padded
  padded-left clips y x h = clipped-left z.columns_wrap clips z.columns (lowered P y) x h

  pub padded-right : T (not z.columns_wrap) → ((m n : ℕ) → z.columns ≤ n → P m n ≡ pos 0) → (y x : ℕ) → MARGIN + z.columns ≤ x → padded z P y x ≡ pos 0
  unfolding padded
  padded-right clips beside y x h = clipped-right z.columns_wrap clips z.columns (lowered P y) (λ n l. ap (pick (leb ABOVE y)) (beside (y - ABOVE) n l) ∙ pick-zero (leb ABOVE y)) x h

  -- where they wrap, a row of the plane once more
  pub padded-round : T z.columns_wrap → (y x : ℕ) → MARGIN ≤ x + z.columns → x < MARGIN + z.columns → padded z P y (x + z.columns) ≡ padded z P y x
  unfolding padded
  padded-round wraps y x h l = round-once z.columns_wrap wraps z.columns (lowered P y) x h l

  module _ (w n y x : ℕ) (few : n ≤ w) where
    -- where columns clip, the slopes that rise reach nothing far on the right, and those that fall nothing far on the left
    pub falling-left : T (not z.columns_wrap) → x + w < MARGIN → falling (padded z P) w n y x ≡ pos 0
    falling-left clips far =
        slope-zero (padded z P) (on_left w x) (on_right w x) n y (λ m t t<. padded-left clips m (on_left w x t) (omega arith)) (λ m t t<. padded-left clips m (on_right w x t) (omega arith))

    pub rising-right : T (not z.columns_wrap) → ((m k : ℕ) → z.columns ≤ k → P m k ≡ pos 0) → MARGIN + z.columns + w ≤ x → rising (padded z P) w n y x ≡ pos 0
    rising-right clips beside far =
        slope-zero (padded z P) (on_right w x) (on_left w x) n y (λ m t t<. padded-right clips beside m (on_right w x t) (omega arith)) (λ m t t<. padded-right clips beside m (on_left w x t) (omega arith))

    -- where they wrap, the slopes of a column are those of the column a row nearer
    module _ (wraps : T z.columns_wrap) (left : MARGIN + w ≤ x + z.columns) (right : x + w < MARGIN + z.columns) (wide : w ≤ x) where
      further-right : (m t : ℕ) → t < n → padded z P m (on_right w (x + z.columns) t) ≡ padded z P m (on_right w x t)
      further-right m t t< =
          let e : x + z.columns + w - t ≡ x + w - t + z.columns = omega arith in
          ap (padded z P m) e ∙ padded-round wraps m (x + w - t) (omega arith) (omega arith)

      further-left : (m t : ℕ) → t < n → padded z P m (on_left w (x + z.columns) t) ≡ padded z P m (on_left w x t)
      further-left m t t< =
          let e : x + z.columns + t - w ≡ x + t - w + z.columns = omega arith in
          ap (padded z P m) e ∙ padded-round wraps m (x + t - w) (omega arith) (omega arith)

      pub rising-round : rising (padded z P) w n y (x + z.columns) ≡ rising (padded z P) w n y x
      rising-round = slope-same (padded z P) (on_right w (x + z.columns)) (on_left w (x + z.columns)) (on_right w x) (on_left w x) n y further-right further-left

      pub falling-round : falling (padded z P) w n y (x + z.columns) ≡ falling (padded z P) w n y x
      falling-round = slope-same (padded z P) (on_left w (x + z.columns)) (on_right w (x + z.columns)) (on_left w x) (on_right w x) n y further-left further-right
