-- A sum over the columns near a column, by their distance.
-- Assumes nothing.
use mathlib.Core.Path.{◌≡◌, refl, sym, ◌∙◌, ap, ap₂}
use Prim.Native.Nat.{ℕ, zero, suc, ◌+◌, ◌-◌, ◌≤◌, ◌<◌, min}
use native.Mathlib.Omega.{arith}
use native.Mathlib.Decide.{dec_lt}
use mathlib.Core.Bool.{Bool, true, false}
use lib.Dec.{leb, ltb, leb→le, ltb→lt, le→leb, lt→ltb}
use lib.IntN.{ℤ, pos, ◌+ℤ◌, ◌-ℤ◌, +ℤ_idl, +ℤ_idr}
use Rattle.numbers.specs.Sum.{sum_to, pick}
use Rattle.numbers.proofs.Linear.{any, sums, ring}
use Rattle.numbers.proofs.Sums.{sum-cong, sum-add, sum-sub, sum-prefix, pick_yes, pick_no}
use Rattle.spec_picture.specs.declared.Frame.{Frame}
use Rattle.spec_picture.specs.Frame.{column_gap, Apart}
use Rattle.spec_picture.specs.Sides.{at_both}
use Rattle.spec_picture.proofs.Gaps.{near_none, near_farther}
use Rattle.spec_rows.specs.Distances.{at_distance}

pub at-distance-some : (z : Frame) (c j : ℕ) (F : ℕ → ℤ) → 1 ≤ c → at_distance z F c j ≡ at_both z.columns_wrap z.columns c j F
unfolding at_distance
at-distance-some z zero j F h = absurd (omega arith)
at-distance-some z (suc c) j F h = refl

swap-last : (a b c : ℤ) → (a +ℤ b) +ℤ c ≡ a +ℤ (c +ℤ b)
swap-last a b c = ring (search (sums, any a, any b, any c)) (omega arith)

added : (a b : ℤ) → (a +ℤ b) -ℤ a ≡ b
added a b = ring (search (sums, any a, any b)) (omega arith)

-- ---- all distances: "once for each q from -(k+h) to k+h"
-- the values at distance c, one distance more
module _ (z : Frame) (j : ℕ) (F : ℕ → ℕ → ℤ) (inside : j < z.columns) where
  abbrev n : ℕ
  n = z.columns

  abbrev gap : ℕ → ℕ
  gap k = column_gap z j k

  abbrev near : (w : ℕ) → ℤ
  near w = sum_to n (λ k. pick (leb (gap k) w) (F (gap k) k))

  -- distance 0 is column j itself
  pub near-0 : near 0 ≡ F 0 j
  near-0 =
      sum-cong n (λ k. pick (leb (gap k) 0) (F (gap k) k)) (λ k. pick (leb (gap k) 0) (F 0 k)) (λ k k<. only k (dec_lt 0 (gap k)))
      ∙ near_none z.columns_wrap n j inside (F 0)
    where
      only : (k : ℕ) → Dec (0 < gap k) → pick (leb (gap k) 0) (F (gap k) k) ≡ pick (leb (gap k) 0) (F 0 k)
      only k (yes h) = pick_no (leb (gap k) 0) (F (gap k) k) (λ t. omega (arith, leb→le (gap k) 0 t)) ∙ sym (pick_no (leb (gap k) 0) (F 0 k) (λ t. omega (arith, leb→le (gap k) 0 t)))
      only k (no h) =
          let e : gap k ≡ 0 = omega arith in
          ap (λ (d : ℕ). pick (leb (gap k) 0) (F d k)) e

  -- a value at distance w + 1 or less is at distance w or less, or at distance w + 1
  split : (w k : ℕ) → pick (leb (gap k) (suc w)) (F (gap k) k) ≡ pick (leb (gap k) w) (F (gap k) k) +ℤ (pick (leb (gap k) (suc w)) (F (suc w) k) -ℤ pick (leb (gap k) w) (F (suc w) k))
  split w k = go (dec_lt w (gap k)) (dec_lt (suc w) (gap k))
    where
      go : Dec (w < gap k) → Dec (suc w < gap k) → pick (leb (gap k) (suc w)) (F (gap k) k) ≡ pick (leb (gap k) w) (F (gap k) k) +ℤ (pick (leb (gap k) (suc w)) (F (suc w) k) -ℤ pick (leb (gap k) w) (F (suc w) k))
      go (yes a) (yes b) =
          rw (pick_no (leb (gap k) (suc w)) (F (gap k) k) (λ t. omega (arith, leb→le (gap k) (suc w) t)), pick_no (leb (gap k) w) (F (gap k) k) (λ t. omega (arith, leb→le (gap k) w t)), pick_no (leb (gap k) (suc w)) (F (suc w) k) (λ t. omega (arith, leb→le (gap k) (suc w) t)), pick_no (leb (gap k) w) (F (suc w) k) (λ t. omega (arith, leb→le (gap k) w t)))
      go (yes a) (no b) =
          let e : gap k ≡ suc w = omega arith in
          let f : F (gap k) k ≡ F (suc w) k = ap (λ (m : ℕ). F m k) e in
          pick_yes (leb (gap k) (suc w)) (F (gap k) k) (le→leb (gap k) (suc w) (omega arith)) ∙ f
          ∙ sym (ap₂ (λ (x y : ℤ). x +ℤ y) (pick_no (leb (gap k) w) (F (gap k) k) (λ t. omega (arith, leb→le (gap k) w t)))
          (ap₂ (λ (x y : ℤ). x -ℤ y) (pick_yes (leb (gap k) (suc w)) (F (suc w) k) (le→leb (gap k) (suc w) (omega arith))) (pick_no (leb (gap k) w) (F (suc w) k) (λ t. omega (arith, leb→le (gap k) w t))))
          ∙ ring (search (sums, any (F (suc w) k))) (omega arith))
      go (no a) b =
          pick_yes (leb (gap k) (suc w)) (F (gap k) k) (le→leb (gap k) (suc w) (omega arith))
          ∙ sym (ap₂ (λ (x y : ℤ). x +ℤ y) (pick_yes (leb (gap k) w) (F (gap k) k) (le→leb (gap k) w (omega arith)))
          (ap₂ (λ (x y : ℤ). x -ℤ y) (pick_yes (leb (gap k) (suc w)) (F (suc w) k) (le→leb (gap k) (suc w) (omega arith))) (pick_yes (leb (gap k) w) (F (suc w) k) (le→leb (gap k) w (omega arith))))
          ∙ ring (search (sums, any (F (gap k) k), any (F (suc w) k))) (omega arith))

  -- the columns at distance w + 1
  ring-more : (w : ℕ) → Apart z (suc w) → sum_to n (λ k. pick (leb (gap k) (suc w)) (F (suc w) k)) -ℤ sum_to n (λ k. pick (leb (gap k) w) (F (suc w) k)) ≡ at_distance z (F (suc w)) (suc w) j
  unfolding at_distance
  ring-more w apart =
      ap (λ (v : ℤ). v -ℤ sum_to n (λ k. pick (leb (gap k) w) (F (suc w) k))) (near_farther n j inside (F (suc w)) z.columns_wrap w apart)
      ∙ added (sum_to n (λ k. pick (leb (gap k) w) (F (suc w) k))) (at_both z.columns_wrap n (suc w) j (F (suc w)))

  -- one distance more
  pub near-more : (w : ℕ) → Apart z (suc w) → near (suc w) ≡ near w +ℤ at_distance z (F (suc w)) (suc w) j
  near-more w apart =
      sum-cong n (λ k. pick (leb (gap k) (suc w)) (F (gap k) k)) (λ k. pick (leb (gap k) w) (F (gap k) k) +ℤ (pick (leb (gap k) (suc w)) (F (suc w) k) -ℤ pick (leb (gap k) w) (F (suc w) k))) (λ k k<. split w k)
      ∙ sum-add n (λ k. pick (leb (gap k) w) (F (gap k) k)) (λ k. pick (leb (gap k) (suc w)) (F (suc w) k) -ℤ pick (leb (gap k) w) (F (suc w) k))
      ∙ ap (λ (x : ℤ). near w +ℤ x) (sum-sub n (λ k. pick (leb (gap k) (suc w)) (F (suc w) k)) (λ k. pick (leb (gap k) w) (F (suc w) k)) ∙ ring-more w apart)

  by-distance : (w : ℕ) → Apart z w → near w ≡ sum_to (suc w) (λ c. at_distance z (F c) c j)
  unfolding at_distance sum_to
  by-distance zero apart = near-0 ∙ sym (+ℤ_idl (F 0 j))
  by-distance (suc w) apart = near-more w apart ∙ ap (λ (x : ℤ). x +ℤ at_distance z (F (suc w)) (suc w) j) (by-distance w (λ t. omega (arith, apart t)))

  -- the last m distances by themselves, the farthest first
  pub near_last : (w m : ℕ) → m ≤ w → Apart z w → near w ≡ near (w - m) +ℤ sum_to m (λ t. at_distance z (F (w - t)) (w - t) j)
  unfolding sum_to
  near_last w zero h apart =
      let e : w ≡ w - 0 = omega arith in
      ap near e ∙ sym (+ℤ_idr (near (w - 0)))
  near_last w (suc m) h apart =
      let e : w - m ≡ suc (w - suc m) = omega arith in
      let last : near (w - m) ≡ near (w - suc m) +ℤ at_distance z (F (w - m)) (w - m) j = ap near e ∙ near-more (w - suc m) (λ t. omega (arith, apart t)) ∙ ap (λ (c : ℕ). near (w - suc m) +ℤ at_distance z (F c) c j) (sym e) in
      near_last w m (omega arith) apart
      ∙ ap (λ (x : ℤ). x +ℤ sum_to m (λ t. at_distance z (F (w - t)) (w - t) j)) last
      ∙ swap-last (near (w - suc m)) (at_distance z (F (w - m)) (w - m) j) (sum_to m (λ t. at_distance z (F (w - t)) (w - t) j))

  -- past the picture's width there is no column, where columns clip
  none-far : (c : ℕ) → n ≤ c → z.columns_wrap ≡ false → at_distance z (F c) c j ≡ pos 0
  none-far c h clips =
      at-distance-some z c j (F c) (omega arith)
      ∙ ap (λ (b : Bool). at_both b n c j (F c)) clips
      ∙ ap₂ (λ (x y : ℤ). x +ℤ y) (pick_no (leb c j) (F c (j - c)) (λ t. omega (arith, leb→le c j t))) (pick_no (ltb (j + c) n) (F c (j + c)) (λ t. omega (arith, ltb→lt (j + c) n t)))

  -- distances up to the picture's width: where columns wrap, no window goes so far
  pub near-distances : (w : ℕ) → Apart z w → near w ≡ sum_to (min (suc w) n) (λ c. at_distance z (F c) c j)
  near-distances w apart = by-distance w apart ∙ short z.columns_wrap refl
    where
      short : (b : Bool) → z.columns_wrap ≡ b → sum_to (suc w) (λ c. at_distance z (F c) c j) ≡ sum_to (min (suc w) n) (λ c. at_distance z (F c) c j)
      short true wraps =
          let l = apart (rw wraps tt) in
          let e : suc w ≡ min (suc w) n = omega (arith, l) in
          ap (λ (m : ℕ). sum_to m (λ c. at_distance z (F c) c j)) e
      short false clips =
          let flip : min n (suc w) ≡ min (suc w) n = omega arith in
          sum-cong (suc w) (λ c. at_distance z (F c) c j) (λ c. pick (ltb c n) (at_distance z (F c) c j)) (λ c c<. counted c (dec_lt c n))
          ∙ sum-prefix (suc w) n (λ c. at_distance z (F c) c j) ∙ ap (λ (m : ℕ). sum_to m (λ c. at_distance z (F c) c j)) flip
        where
          counted : (c : ℕ) → Dec (c < n) → at_distance z (F c) c j ≡ pick (ltb c n) (at_distance z (F c) c j)
          counted c (yes h) = sym (pick_yes (ltb c n) (at_distance z (F c) c j) (lt→ltb c n h))
          counted c (no h) = none-far c (omega arith) clips ∙ sym (pick_no (ltb c n) (at_distance z (F c) c j) (λ t. omega (arith, ltb→lt c n t)))
