-- Sums over the columns near a column, where columns clip and where they wrap.
-- Assumes nothing.
use mathlib.Core.Path.{◌≡◌, refl, sym, ◌∙◌, ap, ap₂}
use Prim.Native.Nat.{ℕ, zero, suc, ◌+◌, ◌-◌, ◌*◌, ◌≤◌, ◌<◌, min}
use native.Mathlib.Omega.{arith}
use native.Mathlib.Nat.{mul-le-mul_right}
use native.Mathlib.Decide.{dec_lt}
use mathlib.Core.Bool.{Bool, true, false}
use mathlib.Core.Logic.{◌⊎◌, inl, inr}
use lib.Dec.{T, ltb, leb, lt→ltb, le→leb, leb→le, ltb→lt}
use lib.IntN.{ℤ, pos, nat_abs, ◌+ℤ◌, ◌-ℤ◌}
use Rattle.numbers.specs.Sum.{sum_to, pick, dist}
use Rattle.numbers.proofs.Linear.{any, sums, ring}
use Rattle.numbers.proofs.Magnitudes.{size-add}
use Rattle.numbers.proofs.Sums.{sum-cong, sum-suc, sum-add, sum-sub, sum-prefix, sum-range, sum_bound, sum_near, sum_more, sum_less, pick_yes, pick_no, pick-in, pick_out, near-bound}
use Rattle.spec_picture.specs.declared.Frame.{Frame}
use Rattle.spec_picture.specs.Frame.{gap_of, column_gap, Apart}
use Rattle.spec_picture.specs.Sides.{at_both, round_end}

-- ---- the distance d at most r, along the row or round the circle of n columns; and neither
near-line : (d n r : ℕ) → d ≤ r → min d (n - d) ≤ r
near-line d n r h = omega arith

near-round : (d n r : ℕ) → n ≤ r + d → min d (n - d) ≤ r
near-round d n r h = omega arith

far-both : (d n r : ℕ) → r < d → r + d < n → r < min d (n - d)
far-both d n r h k = omega arith

dist-up : (j k : ℕ) → j ≤ k → dist j k ≡ k - j
dist-up j k h = omega arith

dist-down : (j k : ℕ) → k ≤ j → dist j k ≡ j - k
dist-down j k h = omega arith

past-left : (n j r k : ℕ) → 2 * r + 1 ≤ n → k < n → n - (r - j) ≤ k → (j ≤ k) × (n + j ≤ r + k)
past-left n j r k hr hk h = (omega arith, omega arith)

not-left : (n j r k : ℕ) → k < n - (r - j) → (r + k < n + j) ⊎ (r ≤ j)
not-left n j r k h = go (dec_lt j r)
  where
    go : Dec (j < r) → (r + k < n + j) ⊎ (r ≤ j)
    go (yes l) = inl (omega arith)
    go (no l) = inr (omega arith)

lo-is : (n j r : ℕ) → j < n → min (j - r) n ≡ j - r
lo-is n j r h = omega arith

lo-below : (n j r : ℕ) → j < n → j - r ≤ min (suc (j + r)) n
lo-below n j r h = omega arith

hi-is : (n m : ℕ) → min m n + (m - n) ≡ m
hi-is n m = omega arith

left-is : (n d : ℕ) → d ≤ n → n - (n - d) ≡ d
left-is n d h = omega arith

balance : (j r : ℕ) → j + (r - j) ≡ r + (j - r)
balance j r = omega arith

-- the lengths of the three parts
lengths : (n j r : ℕ) → j < n → 2 * r + 1 ≤ n → (min (suc (j + r)) n - min (j - r) n) + ((suc (j + r) - n) + (n - (n - (r - j)))) ≤ 2 * r + 1
lengths n j r hj hr =
    rw (lo-is n j r hj, left-is n (r - j) (omega arith))
    (add (min (suc (j + r)) n) (suc (j + r) - n) (j - r) (r - j) (hi-is n (suc (j + r))) (lo-below n j r hj) (balance j r))
  where
    add : (hi u lo w : ℕ) → hi + u ≡ suc (j + r) → lo ≤ hi → j + w ≡ r + lo → (hi - lo) + (u + w) ≤ 2 * r + 1
    add hi u lo w a d e = omega arith

near-right-at : (n j r k : ℕ) → j < n → k < suc (j + r) - n → 2 * r + 1 ≤ n → gap_of true n j k ≤ r
near-right-at n j r k hj h hr =
    let a : k ≤ j = omega arith in
    rw (dist-down j k a) (near-round (j - k) n r (omega arith))

near-left-at : (n j r k : ℕ) → 2 * r + 1 ≤ n → k < n → n - (r - j) ≤ k → gap_of true n j k ≤ r
near-left-at n j r k hr hk h =
    let a = past-left n j r k hr hk h in
    rw (dist-up j k a.0) (near-round (k - j) n r (omega (arith, a.0, a.1)))

far-below-at : (n j r k : ℕ) → j < n → k < j - r → suc (j + r) - n ≤ k → r < gap_of true n j k
far-below-at n j r k hj h l =
    let a : k ≤ j = omega arith in
    rw (dist-down j k a) (far-both (j - k) n r (omega arith) (omega arith))

near-main-at : (n j r k : ℕ) → j - r ≤ k → k < suc (j + r) → gap_of true n j k ≤ r
near-main-at n j r k h l = near-line (dist j k) n r (omega arith)

far-above-at : (n j r k : ℕ) → k < n → k < n - (r - j) → suc (j + r) ≤ k → r < gap_of true n j k
far-above-at n j r k hk h l = rw (dist-up j k (omega arith)) (far-both (k - j) n r (omega arith) (below (not-left n j r k h)))
  where
    below : (r + k < n + j) ⊎ (r ≤ j) → r + (k - j) < n
    below (inl u) = omega arith
    below (inr u) = omega arith

module _ (n j r : ℕ) (hj : j < n) (hr : 2 * r + 1 ≤ n) where
  abbrev A : ℕ → Bool
  A k = leb (gap_of true n j k) r

  place : (k : ℕ) (x : ℤ) → k < n → pick (A k) x ≡
      (pick (ltb k (suc (j + r))) x -ℤ pick (ltb k (j - r)) x) +ℤ (pick (ltb k (suc (j + r) - n)) x +ℤ (x -ℤ pick (ltb k (n - (r - j))) x))
  place k x hk = go (dec_lt k (suc (j + r) - n)) (dec_lt k (n - (r - j))) (dec_lt k (j - r)) (dec_lt k (suc (j + r)))
    where
      near : gap_of true n j k ≤ r → pick (A k) x ≡ x
      near h = pick_yes (A k) x (le→leb (gap_of true n j k) r h)

      far : r < gap_of true n j k → pick (A k) x ≡ pos 0
      far h = pick_no (A k) x (λ t. omega (arith, leb→le (gap_of true n j k) r t))

      go : Dec (k < suc (j + r) - n) → Dec (k < n - (r - j)) → Dec (k < j - r) → Dec (k < suc (j + r)) → pick (A k) x ≡
          (pick (ltb k (suc (j + r))) x -ℤ pick (ltb k (j - r)) x) +ℤ (pick (ltb k (suc (j + r) - n)) x +ℤ (x -ℤ pick (ltb k (n - (r - j))) x))
      go (yes d) e c b = rw (near (near-right-at n j r k hj d hr), pick-in k (suc (j + r)) x (omega arith), pick-in k (j - r) x (omega arith), pick-in k (suc (j + r) - n) x d, pick-in k (n - (r - j)) x (omega arith)) (ring (search (sums, any x)) (omega arith))
      go (no d) (no e) c b = rw (near (near-left-at n j r k hr hk (omega arith)), pick_out k (suc (j + r)) x (omega arith), pick_out k (j - r) x (omega arith), pick_out k (suc (j + r) - n) x (omega arith), pick_out k (n - (r - j)) x (omega arith)) (ring (search (sums, any x)) (omega arith))
      go (no d) (yes e) (yes c) b = rw (far (far-below-at n j r k hj c (omega arith)), pick-in k (suc (j + r)) x (omega arith), pick-in k (j - r) x c, pick_out k (suc (j + r) - n) x (omega arith), pick-in k (n - (r - j)) x e) (ring (search (sums, any x)) (omega arith))
      go (no d) (yes e) (no c) (yes b) = rw (near (near-main-at n j r k (omega arith) b), pick-in k (suc (j + r)) x b, pick_out k (j - r) x (omega arith), pick_out k (suc (j + r) - n) x (omega arith), pick-in k (n - (r - j)) x e) (ring (search (sums, any x)) (omega arith))
      go (no d) (yes e) (no c) (no b) = rw (far (far-above-at n j r k hk e (omega arith)), pick_out k (suc (j + r)) x (omega arith), pick_out k (j - r) x (omega arith), pick_out k (suc (j + r) - n) x (omega arith), pick-in k (n - (r - j)) x e) (ring (search (sums, any x)) (omega arith))

  -- the columns at most r from column j round the circle: those along the row, and those past either end of it
  pub sum-round : (f : ℕ → ℤ) → sum_to n (λ k. pick (leb (gap_of true n j k) r) (f k)) ≡
      (sum_to (min (suc (j + r)) n) f -ℤ sum_to (min (j - r) n) f) +ℤ round_end true n j r f
  sum-round f =
      let e : min (suc (j + r) - n) n ≡ suc (j + r) - n = omega arith in
      let e' : min (n - (r - j)) n ≡ n - (r - j) = omega arith in
      let along : ℕ → ℤ = λ k. pick (ltb k (suc (j + r))) (f k) -ℤ pick (ltb k (j - r)) (f k) in
      let rest : ℕ → ℤ = λ k. f k -ℤ pick (ltb k (n - (r - j))) (f k) in
      sum-cong n (λ k. pick (A k) (f k)) (λ k. along k +ℤ (pick (ltb k (suc (j + r) - n)) (f k) +ℤ rest k)) (λ k l. place k (f k) l)
      ∙ sum-add n along (λ k. pick (ltb k (suc (j + r) - n)) (f k) +ℤ rest k)
      ∙ ap₂ ◌+ℤ◌
      (sum-sub n (λ k. pick (ltb k (suc (j + r))) (f k)) (λ k. pick (ltb k (j - r)) (f k)) ∙ ap₂ ◌-ℤ◌ (sum-prefix n (suc (j + r)) f) (sum-prefix n (j - r) f))
      (sum-add n (λ k. pick (ltb k (suc (j + r) - n)) (f k)) rest
      ∙ ap₂ ◌+ℤ◌ (sum-prefix n (suc (j + r) - n) f ∙ ap (λ (m : ℕ). sum_to m f) e)
      (sum-sub n f (λ k. pick (ltb k (n - (r - j))) (f k)) ∙ ap (λ (v : ℤ). sum_to n f -ℤ v) (sum-prefix n (n - (r - j)) f ∙ ap (λ (m : ℕ). sum_to m f) e')))

  round-bound : (M : ℕ) (f : ℕ → ℤ) → ((k : ℕ) → nat_abs (f k) ≤ M) → nat_abs (sum_to n (λ k. pick (leb (gap_of true n j k) r) (f k))) ≤ (2 * r + 1) * M
  round-bound M f h =
      let lo = min (j - r) n in
      let hi = min (suc (j + r)) n in
      let u = suc (j + r) - n in
      let v = n - (r - j) in
      let a = sum_to (hi - lo) (λ k. f (lo + k)) in
      let b = sum_to u f in
      let c = sum_to (n - v) (λ k. f (v + k)) in
      rw (sum-round f, sum-range lo hi f (omega arith), sum-range v n f (omega arith))
      (omega (arith, size-add a (b +ℤ c), size-add b c, sum_bound (hi - lo) M (λ k. f (lo + k)) (λ k l. h (lo + k)), sum_bound u M f (λ k l. h k), sum_bound (n - v) M (λ k. f (v + k)) (λ k l. h (v + k)), mul-le-mul_right M (lengths n j r hj hr)))

-- at distance 0 is column j itself
pub near_none : (w : Bool) (n j : ℕ) → j < n → (f : ℕ → ℤ) → sum_to n (λ k. pick (leb (gap_of w n j k) 0) (f k)) ≡ f j
near_none w n j h f = go w
  where
    e : suc (j + 0) ≡ suc j
    e = omega arith

    along : sum_to (min (suc (j + 0)) n) f -ℤ sum_to (min (j - 0) n) f ≡ f j
    along =
        let e' : min (suc j) n ≡ suc j = omega arith in
        let e'' : min (j - 0) n ≡ j = omega arith in
        ap₂ (λ (a b : ℕ). sum_to a f -ℤ sum_to b f) (ap (λ (m : ℕ). min m n) e ∙ e') e''
        ∙ ap (λ (x : ℤ). x -ℤ sum_to j f) (sum-suc j f)
        ∙ ring (search (sums, any (sum_to j f), any (f j))) (omega arith)

    go : (w : Bool) → sum_to n (λ k. pick (leb (gap_of w n j k) 0) (f k)) ≡ f j
    go false = sum_near n j 0 f ∙ along
    go true =
        let none : suc (j + 0) - n ≡ 0 = omega arith in
        let all : n - (0 - j) ≡ n = omega arith in
        sum-round n j 0 h (omega arith) f
        ∙ ap₂ ◌+ℤ◌ along (ap₂ (λ (a b : ℕ). sum_to a f +ℤ (sum_to n f -ℤ sum_to b f)) none all)
        ∙ unfold sum_to in ring (search (sums, any (sum_to n f), any (f j))) (omega arith)

-- ---- one distance more, round the circle: a column on either side, along the row or past its end
pub end-more : (n p : ℕ) (f : ℕ → ℤ) → sum_to (suc p - n) f ≡ sum_to (p - n) f +ℤ pick (leb n p) (f (p - n))
end-more n p f = go (dec_lt p n)
  where
    go : Dec (p < n) → sum_to (suc p - n) f ≡ sum_to (p - n) f +ℤ pick (leb n p) (f (p - n))
    go (yes h) =
        let e : suc p - n ≡ 0 = omega arith in
        let e' : p - n ≡ 0 = omega arith in
        rw (e, e', pick_no (leb n p) (f 0) (λ t. omega (arith, leb→le n p t))) (ring (search (sums, any (sum_to 0 f))) (omega arith))
    go (no h) =
        let e : suc p - n ≡ suc (p - n) = omega arith in
        rw (e, pick_yes (leb n p) (f (p - n)) (le→leb n p (omega arith))) (sum-suc (p - n) f)

pub begin-more : (n j r : ℕ) (f : ℕ → ℤ) → suc r ≤ n → sum_to (n - (r - j)) f ≡ sum_to (n - (suc r - j)) f +ℤ pick (ltb j (suc r)) (f (n - (suc r - j)))
begin-more n j r f l = go (dec_lt j (suc r))
  where
    go : Dec (j < suc r) → sum_to (n - (r - j)) f ≡ sum_to (n - (suc r - j)) f +ℤ pick (ltb j (suc r)) (f (n - (suc r - j)))
    go (yes h) =
        let e : n - (r - j) ≡ suc (n - (suc r - j)) = omega arith in
        rw (e, pick_yes (ltb j (suc r)) (f (n - (suc r - j))) (lt→ltb j (suc r) h)) (sum-suc (n - (suc r - j)) f)
    go (no h) =
        let e : n - (r - j) ≡ n = omega arith in
        let e' : n - (suc r - j) ≡ n = omega arith in
        rw (e, e', pick_no (ltb j (suc r)) (f n) (λ t. omega (arith, ltb→lt j (suc r) t))) (ring (search (sums, any (sum_to n f))) (omega arith))

inner : (n j r : ℕ) (f : ℕ → ℤ) → j < n → pick (leb r j) (pick (ltb (j - r) n) (f (j - r))) ≡ pick (leb r j) (f (j - r))
inner n j r f h = ap (pick (leb r j)) (pick_yes (ltb (j - r) n) (f (j - r)) (lt→ltb (j - r) n (omega arith)))

line-step : (a b x y : ℤ) → (a +ℤ x) -ℤ b ≡ (a -ℤ (b +ℤ y)) +ℤ (y +ℤ x)
line-step a b x y = ring (search (sums, any a, any b, any x, any y) depth 12) (omega arith)

round-step : (a b x y c s d u v : ℤ) → ((a +ℤ x) -ℤ b) +ℤ ((c +ℤ u) +ℤ (s -ℤ d)) ≡ ((a -ℤ (b +ℤ y)) +ℤ (c +ℤ (s -ℤ (d +ℤ v)))) +ℤ ((y +ℤ x) +ℤ (v +ℤ u))
round-step a b x y c s d u v = ring (search (sums, any a, any b, any x, any y, any c, any s, any d, any u, any v) depth 24) (omega arith)

module _ (n j : ℕ) (hj : j < n) (f : ℕ → ℤ) where
  near-along : (r : ℕ) → sum_to (min (suc (j + suc r)) n) f -ℤ sum_to (min (j - suc r) n) f ≡
      (sum_to (min (suc (j + r)) n) f +ℤ pick (ltb (j + suc r) n) (f (j + suc r))) -ℤ sum_to (min (j - suc r) n) f
  near-along r =
      let e : suc (j + suc r) ≡ suc (suc (j + r)) = omega arith in
      let e' : suc (j + r) ≡ j + suc r = omega arith in
      ap (λ (v : ℤ). v -ℤ sum_to (min (j - suc r) n) f)
      (ap (λ (k : ℕ). sum_to (min k n) f) e ∙ sum_more n (suc (j + r)) f ∙ ap (λ (k : ℕ). sum_to (min (suc (j + r)) n) f +ℤ pick (ltb k n) (f k)) e')

  less : (r : ℕ) → sum_to (min (j - r) n) f ≡ sum_to (min (j - suc r) n) f +ℤ pick (leb (suc r) j) (f (j - suc r))
  less r =
      let l : suc j - suc r ≡ j - r = omega arith in
      ap (λ (k : ℕ). sum_to (min k n) f) (sym l) ∙ sum_less n j (suc r) f ∙ ap (λ (v : ℤ). sum_to (min (j - suc r) n) f +ℤ v) (inner n j (suc r) f hj)

  -- the columns at most r + 1 from column j are those at most r from it, and those at distance r + 1
  pub near_farther : (w : Bool) (r : ℕ) → (T w → 2 * suc r + 1 ≤ n) →
      sum_to n (λ k. pick (leb (gap_of w n j k) (suc r)) (f k)) ≡ sum_to n (λ k. pick (leb (gap_of w n j k) r) (f k)) +ℤ at_both w n (suc r) j f
  near_farther false r apart =
      let a = sum_to (min (suc (j + r)) n) f in
      let b = sum_to (min (j - suc r) n) f in
      sum_near n j (suc r) f ∙ near-along r
      ∙ line-step a b (pick (ltb (j + suc r) n) (f (j + suc r))) (pick (leb (suc r) j) (f (j - suc r)))
      ∙ ap (λ (v : ℤ). v +ℤ at_both false n (suc r) j f) (ap (λ (v : ℤ). a -ℤ v) (sym (less r)) ∙ sym (sum_near n j r f))
  near_farther true r apart =
      let l = apart tt in
      let a = sum_to (min (suc (j + r)) n) f in
      let b = sum_to (min (j - suc r) n) f in
      let x = pick (ltb (j + suc r) n) (f (j + suc r)) in
      let y = pick (leb (suc r) j) (f (j - suc r)) in
      let c = sum_to (suc (j + r) - n) f in
      let d = sum_to (n - (suc r - j)) f in
      let u = pick (leb n (j + suc r)) (f (j + suc r - n)) in
      let v = pick (ltb j (suc r)) (f (n - (suc r - j))) in
      let e : suc (j + r) ≡ j + suc r = omega arith in
      let more : sum_to (suc (j + suc r) - n) f ≡ c +ℤ u = end-more n (j + suc r) f ∙ ap (λ (k : ℕ). sum_to (k - n) f +ℤ u) (sym e) in
      sum-round n j (suc r) hj l f
      ∙ ap₂ ◌+ℤ◌ (near-along r) (ap (λ (q : ℤ). q +ℤ (sum_to n f -ℤ d)) more)
      ∙ round-step a b x y c (sum_to n f) d u v
      ∙ ap (λ (q : ℤ). q +ℤ at_both true n (suc r) j f)
      (ap₂ ◌+ℤ◌ (ap (λ (q : ℤ). a -ℤ q) (sym (less r))) (ap (λ (q : ℤ). c +ℤ (sum_to n f -ℤ q)) (sym (begin-more n j r f (omega arith))))
      ∙ sym (sum-round n j r hj (omega arith) f))

-- ---- of a frame
-- a column is where it is
pub gap-self : (z : Frame) (j : ℕ) → column_gap z j j ≡ 0
gap-self z j = go z.columns_wrap
  where
    go : (w : Bool) → gap_of w z.columns j j ≡ 0
    go false = omega arith
    go true = omega arith

module _ (z : Frame) (j r : ℕ) (hj : j < z.columns) (apart : Apart z r) where
  -- the columns at most r from column j, by sums of first columns
  pub near-columns : (f : ℕ → ℤ) → sum_to z.columns (λ n. pick (leb (column_gap z j n) r) (f n)) ≡
      (sum_to (min (suc (j + r)) z.columns) f -ℤ sum_to (min (j - r) z.columns) f) +ℤ round_end z.columns_wrap z.columns j r f
  near-columns f = go z.columns_wrap apart
    where
      go : (w : Bool) → (T w → 2 * r + 1 ≤ z.columns) → sum_to z.columns (λ n. pick (leb (gap_of w z.columns j n) r) (f n)) ≡
          (sum_to (min (suc (j + r)) z.columns) f -ℤ sum_to (min (j - r) z.columns) f) +ℤ round_end w z.columns j r f
      go false a = sum_near z.columns j r f ∙ ring (search (sums, any (sum_to (min (suc (j + r)) z.columns) f), any (sum_to (min (j - r) z.columns) f))) (omega arith)
      go true a = sum-round z.columns j r hj (a tt) f

  -- they are 2 r + 1 at most
  pub columns-bound : (M : ℕ) (f : ℕ → ℤ) → ((k : ℕ) → nat_abs (f k) ≤ M) → nat_abs (sum_to z.columns (λ n. pick (leb (column_gap z j n) r) (f n))) ≤ (2 * r + 1) * M
  columns-bound M f h = go z.columns_wrap apart
    where
      go : (w : Bool) → (T w → 2 * r + 1 ≤ z.columns) → nat_abs (sum_to z.columns (λ n. pick (leb (gap_of w z.columns j n) r) (f n))) ≤ (2 * r + 1) * M
      go false a = near-bound z.columns j r M f h
      go true a = round-bound z.columns j r hj (a tt) M f h
