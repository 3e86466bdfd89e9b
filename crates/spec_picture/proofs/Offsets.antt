-- The direct sum is the sum over the window's offsets.
-- Assumes nothing.
use mathlib.Core.Path.{◌≡◌, refl, sym, ◌∙◌, ap, ap₂}
use Prim.Native.Nat.{ℕ, zero, suc, ◌+◌, ◌-◌, ◌*◌, ◌%◌, ◌≤◌, ◌<◌, min}
use native.Mathlib.Omega.{arith}
use mathlib.Core.Bool.{Bool, true, false, cond}
use lib.Dec.{T, leb, ltb, ltb→lt, lt→ltb, nltb→le, le→leb, leb→le}
use lib.IntN.{ℤ, pos, negsuc, nat_abs, sub_ℕ, ◌+ℤ◌, ◌-ℤ◌, +ℤ_idl, +ℤ_idr}
use Rattle.numbers.specs.Sum.{sum_to, pick, dist}
use Rattle.numbers.proofs.Integers.{up, dn, sub-law}
use Rattle.numbers.proofs.Linear.{any, sums, ring}
use Rattle.numbers.proofs.Wraps.{sub_low, sub-high}
use Rattle.std.proofs.lemmas.Nat.{mod-mul-add}
use native.Mathlib.Decide.{dec_lt}
use Rattle.numbers.proofs.Sums.{sum_near, sum_more, sum_less, pick_yes, pick_no}
use Rattle.spec_picture.specs.declared.Frame.{Frame}
use Rattle.spec_picture.specs.Frame.{row_gap, gap_of, column_gap, Apart, remainder}
use Rattle.spec_picture.specs.Window.{Shape, height, reach, width, shape_of}
use Rattle.spec_picture.specs.Conditions.{accepted}
use Rattle.spec_picture.specs.Picture.{Inputs, plane_at}
use Rattle.spec_picture.specs.Direct.{window_sum, direct_sum}
use Rattle.spec_picture.specs.Sides.{at_both}
use Rattle.spec_picture.specs.Offsets.{sum_span, clipped, beyond, extended, offset_sum}
use Rattle.spec_picture.proofs.Gaps.{near_none, near_farther}
use Rattle.spec_picture.proofs.Refusals.{accepted-has}
use Rattle.spec_picture.proofs.Windows.{by_rows, reach_width, apart-of}

span-cong : (r : ℕ) (f g : ℤ → ℤ) → ((q : ℤ) → nat_abs q ≤ r → f q ≡ g q) → sum_span r f ≡ sum_span r g
unfolding sum_span
span-cong zero f g h = h (pos 0) (omega arith)
span-cong (suc r) f g h = ap₂ ◌+ℤ◌ (span-cong r f g (λ q l. h q (omega arith))) (ap₂ ◌+ℤ◌ (h (pos (suc r)) (omega arith)) (h (negsuc r) (omega arith)))

-- the place d before j
back : (n j d : ℕ) (f : ℕ → ℤ) → clipped n f (pos j +ℤ negsuc d) ≡ pick (leb (suc d) j) (pick (ltb (j - suc d) n) (f (j - suc d)))
unfolding clipped
back n j d f = go (ltb j (suc d)) refl
  where
    go : (b : Bool) → ltb j (suc d) ≡ b → clipped n f (cond b (negsuc (suc d - suc j)) (pos (j - suc d))) ≡ pick (leb (suc d) j) (pick (ltb (j - suc d) n) (f (j - suc d)))
    go true e = sym (pick_no (leb (suc d) j) (pick (ltb (j - suc d) n) (f (j - suc d))) (λ t. omega (arith, leb→le (suc d) j t, ltb→lt j (suc d) (rw e tt))))
    go false e = sym (pick_yes (leb (suc d) j) (pick (ltb (j - suc d) n) (f (j - suc d))) (le→leb (suc d) j (nltb→le j (suc d) (rw e tt))))

step : (a b c d : ℤ) → (a +ℤ c) -ℤ b ≡ (a -ℤ (b +ℤ d)) +ℤ (c +ℤ d)
step a b c d = ring (search (sums, any a, any b, any c, any d)) (omega arith)

-- the values at most r from j, once by places and once by offsets
pub by-offsets : (n j r : ℕ) (f : ℕ → ℤ) → sum_to n (λ k. pick (leb (dist j k) r) (f k)) ≡ sum_span r (λ q. clipped n f (pos j +ℤ q))
unfolding sum_span clipped
by-offsets n j zero f =
    let e : suc (j + 0) ≡ suc j = omega arith in
    let e' : j - 0 ≡ j = omega arith in
    let e'' : j + 0 ≡ j = omega arith in
    rw (sum_near n j 0 f, e, e', e'', sum_more n j f) (ring (search (sums, any (sum_to (min j n) f), any (pick (ltb j n) (f j)))) (omega arith))
by-offsets n j (suc r) f =
    let e : suc (j + suc r) ≡ suc (suc (j + r)) = omega arith in
    let e' : suc (j + r) ≡ j + suc r = omega arith in
    let l : suc j - suc r ≡ j - r = omega arith in
    let a = sum_to (min (suc (j + r)) n) f in
    let b = sum_to (min (j - suc r) n) f in
    let c = pick (ltb (suc (j + r)) n) (f (suc (j + r))) in
    let d = pick (leb (suc r) j) (pick (ltb (j - suc r) n) (f (j - suc r))) in
    let less : sum_to (min (j - r) n) f ≡ b +ℤ d = ap (λ (k : ℕ). sum_to (min k n) f) (sym l) ∙ sum_less n j (suc r) f in
    sum_near n j (suc r) f
    ∙ ap (λ (v : ℤ). v -ℤ b) (ap (λ (k : ℕ). sum_to (min k n) f) e ∙ sum_more n (suc (j + r)) f)
    ∙ step a b c d
    ∙ ap₂ ◌+ℤ◌ (ap (λ (v : ℤ). a -ℤ v) (sym less) ∙ sym (sum_near n j r f) ∙ by-offsets n j r f)
    (ap₂ ◌+ℤ◌ (ap (λ (k : ℕ). pick (ltb k n) (f k)) e') (sym (back n j r f)))

-- ---- the columns near a column by offsets, along the row or round it
-- the remainder of a place that is at most once past either end
pub rest-within : (n k : ℕ) → k < n → k % n ≡ k
rest-within n k h =
    let e : k ≡ 0 * n + k = omega arith in
    ap (λ (m : ℕ). m % n) e ∙ mod-mul-add 0 n k h

pub rest-past : (n k : ℕ) → n ≤ k → k - n < n → k % n ≡ k - n
rest-past n k l h =
    let e : k ≡ 1 * n + (k - n) = omega arith in
    ap (λ (m : ℕ). m % n) e ∙ mod-mul-add 1 n (k - n) h

ahead : (n j d : ℕ) (f : ℕ → ℤ) → j < n → d < n → f (remainder n (pos (j + d))) ≡ pick (ltb (j + d) n) (f (j + d)) +ℤ pick (leb n (j + d)) (f (j + d - n))
unfolding remainder
ahead n j d f hj hd = go (dec_lt (j + d) n)
  where
    go : Dec (j + d < n) → f (remainder n (pos (j + d))) ≡ pick (ltb (j + d) n) (f (j + d)) +ℤ pick (leb n (j + d)) (f (j + d - n))
    go (yes h) =
        ap f (rest-within n (j + d) h) ∙ sym (+ℤ_idr (f (j + d)))
        ∙ sym (ap₂ ◌+ℤ◌ (pick_yes (ltb (j + d) n) (f (j + d)) (lt→ltb (j + d) n h)) (pick_no (leb n (j + d)) (f (j + d - n)) (λ t. omega (arith, leb→le n (j + d) t))))
    go (no h) =
        ap f (rest-past n (j + d) (omega arith) (omega arith)) ∙ sym (+ℤ_idl (f (j + d - n)))
        ∙ sym (ap₂ ◌+ℤ◌ (pick_no (ltb (j + d) n) (f (j + d)) (λ t. omega (arith, ltb→lt (j + d) n t))) (pick_yes (leb n (j + d)) (f (j + d - n)) (le→leb n (j + d) (omega arith))))

behind : (n j d : ℕ) (f : ℕ → ℤ) → j < n → suc d < n → f (remainder n (pos j +ℤ negsuc d)) ≡ pick (leb (suc d) j) (f (j - suc d)) +ℤ pick (ltb j (suc d)) (f (n - (suc d - j)))
unfolding remainder
behind n j d f hj hd = go (dec_lt j (suc d))
  where
    go : Dec (j < suc d) → f (remainder n (sub_ℕ j (suc d))) ≡ pick (leb (suc d) j) (f (j - suc d)) +ℤ pick (ltb j (suc d)) (f (n - (suc d - j)))
    go (yes h) =
        let k : n - suc (suc d - suc j) ≡ n - (suc d - j) = omega arith in
        ap (λ (c : ℤ). f (remainder n c)) (sub_low j (suc d) h) ∙ ap (λ (m : ℕ). f (n - suc m)) (rest-within n (suc d - suc j) (omega arith)) ∙ ap f k ∙ sym (+ℤ_idl (f (n - (suc d - j))))
        ∙ sym (ap₂ ◌+ℤ◌ (pick_no (leb (suc d) j) (f (j - suc d)) (λ t. omega (arith, leb→le (suc d) j t))) (pick_yes (ltb j (suc d)) (f (n - (suc d - j))) (lt→ltb j (suc d) h)))
    go (no h) =
        ap (λ (c : ℤ). f (remainder n c)) (sub-high j (suc d) (omega arith)) ∙ ap f (rest-within n (j - suc d) (omega arith)) ∙ sym (+ℤ_idr (f (j - suc d)))
        ∙ sym (ap₂ ◌+ℤ◌ (pick_yes (leb (suc d) j) (f (j - suc d)) (le→leb (suc d) j (omega arith))) (pick_no (ltb j (suc d)) (f (n - (suc d - j))) (λ t. omega (arith, ltb→lt j (suc d) t))))

four : (a b c d : ℤ) → (a +ℤ b) +ℤ (c +ℤ d) ≡ (b +ℤ d) +ℤ (a +ℤ c)
four a b c d = ring (search (sums, any a, any b, any c, any d) depth 12) (omega arith)

swap-ends : (a b : ℤ) → a +ℤ b ≡ b +ℤ a
swap-ends a b = ring (search (sums, any a, any b)) (omega arith)

-- column j itself, and the columns on both sides of it, at an offset
pub offset-0 : (w : Bool) (n j : ℕ) (f : ℕ → ℤ) → j < n → beyond w n f (pos (j + 0)) ≡ f j
unfolding remainder clipped
offset-0 false n j f h =
    let e : j + 0 ≡ j = omega arith in
    ap (λ (k : ℕ). pick (ltb k n) (f k)) e ∙ pick_yes (ltb j n) (f j) (lt→ltb j n h)
offset-0 true n j f h =
    let e : j + 0 ≡ j = omega arith in
    ap (λ (k : ℕ). f (k % n)) e ∙ ap f (rest-within n j h)

pub both-offsets : (w : Bool) (n j r : ℕ) (f : ℕ → ℤ) → j < n → (T w → 2 * suc r + 1 ≤ n) → at_both w n (suc r) j f ≡ beyond w n f (pos j +ℤ pos (suc r)) +ℤ beyond w n f (pos j +ℤ negsuc r)
unfolding clipped
both-offsets false n j r f hj apart =
    swap-ends (pick (leb (suc r) j) (f (j - suc r))) (pick (ltb (j + suc r) n) (f (j + suc r)))
    ∙ ap (λ (v : ℤ). pick (ltb (j + suc r) n) (f (j + suc r)) +ℤ v)
    (ap (pick (leb (suc r) j)) (sym (pick_yes (ltb (j - suc r) n) (f (j - suc r)) (lt→ltb (j - suc r) n (omega arith)))) ∙ sym (back n j r f))
both-offsets true n j r f hj apart =
    let l = apart tt in
    four (pick (leb (suc r) j) (f (j - suc r))) (pick (ltb (j + suc r) n) (f (j + suc r))) (pick (ltb j (suc r)) (f (n - (suc r - j)))) (pick (leb n (j + suc r)) (f (j + suc r - n)))
    ∙ ap₂ ◌+ℤ◌ (sym (ahead n j (suc r) f hj (omega (arith, l)))) (sym (behind n j r f hj (omega (arith, l))))

-- once for each offset q from -r to r
pub round-offsets : (w : Bool) (n j r : ℕ) (f : ℕ → ℤ) → j < n → (T w → 2 * r + 1 ≤ n) → sum_to n (λ k. pick (leb (gap_of w n j k) r) (f k)) ≡ sum_span r (λ q. beyond w n f (pos j +ℤ q))
unfolding sum_span
round-offsets w n j zero f hj apart = near_none w n j hj f ∙ sym (offset-0 w n j f hj)
round-offsets w n j (suc r) f hj apart =
    near_farther n j hj f w r apart
    ∙ ap₂ ◌+ℤ◌ (round-offsets w n j r f hj (λ t. omega (arith, apart t))) (both-offsets w n j r f hj apart)

span-zeros : (r : ℕ) → sum_span r (λ q. pos 0) ≡ pos 0
unfolding sum_span
span-zeros zero = refl
span-zeros (suc r) = ap (λ (v : ℤ). v +ℤ pos 0) (span-zeros r)

span-pick : (r : ℕ) (b : Bool) (f : ℤ → ℤ) → sum_span r (λ q. pick b (f q)) ≡ pick b (sum_span r f)
unfolding pick
span-pick r true f = refl
span-pick r false f = span-zeros r

-- how far row i + p is from row i
gap : (i : ℕ) (p : ℤ) (m : ℕ) → pos i +ℤ p ≡ pos m → dist i m ≡ nat_abs p
gap i (pos d) m e =
    let k : i + d ≡ m = ap up e in
    omega arith
gap i (negsuc d) m e =
    let k : up (sub_ℕ i (suc d)) ≡ m = ap up e in
    let l : dn (sub_ℕ i (suc d)) ≡ 0 = ap dn e in
    omega (arith, sub-law i (suc d))

module _ (z : Frame) (s : Shape) (P : ℕ → ℕ → ℤ) (i j : ℕ) (j< : j < z.columns) (apart : Apart z (width s)) where
  -- the part of row m that lies in the window
  abbrev part : ℕ → ℤ
  part m = sum_to z.columns (λ n. pick (leb (column_gap z j n) (reach s (row_gap z i m))) (P m n))

  row : (p c : ℤ) → pos i +ℤ p ≡ c → clipped z.rows part c ≡ sum_span (reach s (nat_abs p)) (λ q. extended z P c (pos j +ℤ q))
  unfolding clipped extended
  row p (pos m) e =
      ap (pick (ltb m z.rows))
      (round-offsets z.columns_wrap z.columns j (reach s (dist i m)) (P m) j< (λ t. omega (arith, apart t, reach_width s (dist i m)))
      ∙ ap (λ (k : ℕ). sum_span (reach s k) (λ q. beyond z.columns_wrap z.columns (P m) (pos j +ℤ q))) (gap i p m e))
      ∙ sym (span-pick (reach s (nat_abs p)) (ltb m z.rows) (λ q. beyond z.columns_wrap z.columns (P m) (pos j +ℤ q)))
  row p (negsuc m) e = sym (span-zeros (reach s (nat_abs p)))

  -- the sum over the picture's cells that the window holds is the sum over the window's offsets
  pub window-offsets : window_sum z s P i j ≡ offset_sum z s P (pos i) (pos j)
  unfolding offset_sum
  window-offsets =
      by_rows z s P i j ∙ by-offsets z.rows i (height s) part
      ∙ span-cong (height s) (λ p. clipped z.rows part (pos i +ℤ p)) (λ p. sum_span (reach s (nat_abs p)) (λ q. extended z P (pos i +ℤ p) (pos j +ℤ q))) (λ p l. row p (pos i +ℤ p) refl)

-- the direct sum is the sum over the offsets, where columns clip and where they wrap
pub direct-offsets : (x : Inputs) (i j : ℕ) → accepted x → j < x.source.frame.columns → direct_sum x i j ≡ offset_sum x.source.frame (shape_of x.window) (plane_at x.source) (pos i) (pos j)
unfolding direct_sum
direct-offsets x i j ok h = window-offsets x.source.frame (shape_of x.window) (plane_at x.source) i j h (apart-of x.source.frame x.window (accepted-has x ok).fitting)
