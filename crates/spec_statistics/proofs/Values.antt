-- The statistics in the paper's own words: the inequalities that each meets, over the integers, that no other number meets them, the range of
-- each, and that levels and spreads are exact floats.
-- Assumes nothing.
use mathlib.Core.Path.{◌≡◌, refl, sym, ◌∙◌, ap, subst}
use Prim.Native.Nat.{ℕ, zero, suc, ◌+◌, ◌*◌, ◌^◌, ◌≤◌, ◌<◌}
use native.Mathlib.Omega.{arith}
use native.Mathlib.Decide.{dec_lt}
use native.Mathlib.Nat.{mul-le-mul, mul-le-mul_right, mul-le-mul_left, mul-pos, mul_assoc, lt_of_le_of_lt, eq_of_mul-eq-mul_right}
use mathlib.Core.Bool.{Bool, true, false, ◌||◌, true≢false, false≢true}
use mathlib.Core.List.{[], ◌∷◌}
use lib.Dec.{T, eqb, lit<}
use lib.IntN.{ℤ, pos, negsuc, nat_abs, ◌+ℤ◌, ◌-ℤ◌, ◌*ℤ◌}
use lib.Signed.{◌≤ℤ◌, ◌<ℤ◌}
use lib.Ieee.{Float, nan, inf, fin, binary32, down, fits, round}
use lib.Ieee.Exact.{HasValue, round_exact}
use lib.Ieee.Fits.{down_pos, round-fits}
use Rattle.numbers.specs.Round.{nearest, root_over}
use Rattle.numbers.proofs.Integers.{up, dn, add-law, sub-lawℤ, leℤ, of_le, ltℤ, of_lt, of_eq}
use Rattle.numbers.proofs.Laws.{≤ℤ-antisym, pos-cancel-lt}
use Rattle.numbers.proofs.Ring.{X, K, ◌⊕◌, ◌⊖◌, ◌⊗◌, ring}
use Rattle.numbers.proofs.Magnitudes.{size, size-neg, size-mul}
use Rattle.numbers.proofs.Rounds.{IsNearest, nearest-law, nearest-near, nearest-bound, IsRootOver, root-over-law, root-over-bound, root-over-unique}
use Rattle.spec_picture.specs.Refusal.{Outcome, answered, refusal, outcome, ◌when◌}
use Rattle.spec_statistics.specs.declared.Sums.{Sums}
use Rattle.spec_statistics.specs.SixSums.{Vf, Vg, covariance, impossible, count, no_cell, is_zero}
use Rattle.spec_statistics.specs.Moments.{mean, variance, deviation}
use Rattle.spec_statistics.specs.Voice.{negative, over32768}
use Rattle.spec_statistics.specs.Coefficient.{signed, magnitude, Coefficient, empty, flat, value, coefficient, coefficient_call}
use Rattle.spec_statistics.proofs.Bounds.{Possible, possible-has, schwarz-has}
use Rattle.spec_statistics.proofs.Floats.{value-unique}

-- ---- a number above 0, as a natural
some : (x : ℤ) → pos 0 <ℤ x → 0 < nat_abs x
some (pos x) h = omega (arith, of_lt h)
some (negsuc x) h = absurd h.lt

-- ---- the nearest whole number
-- "|2S - 2N·m| ≤ N, and on equality m is the larger": of the whole numbers that are so near to x / d, m is the largest
pub record NearestWhole (x d m : ℤ) : Type 0 where
  pub close : pos (nat_abs (pos 2 *ℤ x -ℤ pos 2 *ℤ d *ℤ m)) ≤ℤ d
  pub larger : (k : ℤ) → pos (nat_abs (pos 2 *ℤ x -ℤ pos 2 *ℤ d *ℤ k)) ≤ℤ d → k ≤ℤ m

pub nearest-whole-unique : (x d m k : ℤ) → NearestWhole x d m → NearestWhole x d k → m ≡ k
nearest-whole-unique x d m k h j = ≤ℤ-antisym (j.larger m h.close) (h.larger k j.close)

nearest-whole : (x d : ℤ) → pos 0 <ℤ d → NearestWhole x d (nearest x (nat_abs d))
nearest-whole x (negsuc d) h = absurd h.lt
nearest-whole x (pos d) h =
    let m = nearest x d in
    let near = nearest-law x d (some (pos d) h) in
    record {
      close = leℤ (pos (nat_abs (pos 2 *ℤ x -ℤ pos (2 * d) *ℤ m))) (pos d) (omega (arith, (nearest-near x d m near).close));
      larger = λ k c. not-above k m (of_le c) near;
    }
  where
    -- 2 d k - d ≤ 2 x < 2 d m + d, so 2 d (m + 1 - k) > 0, so k < m + 1
    not-above : (k m : ℤ) → nat_abs (pos 2 *ℤ x -ℤ pos (2 * d) *ℤ k) + 0 ≤ d + 0 → IsNearest x d m → k ≤ℤ m
    not-above k m c near =
        let w = pos (2 * d) in
        let t = pos 2 *ℤ x in
        let e : w *ℤ (m +ℤ pos 1 -ℤ k) ≡ w *ℤ m +ℤ w -ℤ w *ℤ k = ring (X 0 ⊗ (X 2 ⊕ K (pos 1) ⊖ X 1)) (X 0 ⊗ X 2 ⊕ X 0 ⊖ X 0 ⊗ X 1) (w ∷ k ∷ m ∷ []) tt in
        let l : pos 0 <ℤ (w *ℤ (m +ℤ pos 1 -ℤ k)) = ltℤ (pos 0) (w *ℤ (m +ℤ pos 1 -ℤ k)) (omega (arith, of_eq e, sub-lawℤ (w *ℤ m +ℤ w) (w *ℤ k), add-law (w *ℤ m) w, add-law (w *ℤ m) (pos d), size (t -ℤ w *ℤ k), sub-lawℤ t (w *ℤ k), of_lt near.above)) in
        let r : pos 0 <ℤ (m +ℤ pos 1 -ℤ k) = pos-cancel-lt w (m +ℤ pos 1 -ℤ k) (ltℤ (pos 0) w (omega (arith, some (pos d) h))) l in
        leℤ k m (omega (arith, of_lt r, sub-lawℤ (m +ℤ pos 1) k, add-law m (pos 1)))

-- "Mean of f: the whole number nearest S/N, a half going up"
pub mean-is-nearest : (z : Sums) → pos 0 <ℤ z.n → NearestWhole z.s z.n (mean z)
unfolding mean
mean-is-nearest z h = nearest-whole z.s z.n h

-- "Variance of f: the whole number nearest Vf/N², a half going up."
pub variance-is-nearest : (z : Sums) → pos 0 <ℤ z.n → NearestWhole (Vf z) (z.n *ℤ z.n) (variance z)
unfolding variance
variance-is-nearest z h = subst (λ (k : ℕ). NearestWhole (Vf z) (z.n *ℤ z.n) (nearest (Vf z) k)) (size-mul z.n z.n) (nearest-whole (Vf z) (z.n *ℤ z.n) (square_above z.n h))
  where
    square_above : (n : ℤ) → pos 0 <ℤ n → pos 0 <ℤ (n *ℤ n)
    square_above (pos n) h = let k : 0 < n = some (pos n) h in ltℤ (pos 0) (pos (n * n)) (omega (arith, mul-pos k k))
    square_above (negsuc n) h = absurd h.lt

-- ---- the deviation
-- "the whole d with d²·N² ≤ Vf < (d+1)²·N²", where v is Vf and q is N²
pub record WholeRoot (v q d : ℤ) : Type 0 where
  pub whole : pos 0 ≤ℤ d
  pub reached : (d *ℤ d *ℤ q) ≤ℤ v
  pub passed : v <ℤ ((d +ℤ pos 1) *ℤ (d +ℤ pos 1) *ℤ q)

pub whole-root-unique : (v q d e : ℤ) → pos 0 <ℤ q → WholeRoot v q d → WholeRoot v q e → d ≡ e
whole-root-unique v (negsuc q) d e h k l = absurd h.lt
whole-root-unique v (pos q) (negsuc d) e h k l = absurd k.whole.le
whole-root-unique v (pos q) (pos d) (negsuc e) h k l = absurd l.whole.le
whole-root-unique (negsuc v) (pos q) (pos d) (pos e) h k l = absurd k.reached.le
whole-root-unique (pos v) (pos q) (pos d) (pos e) h k l = ap pos (root-over-unique v q d e (plain d k) (plain e l))
  where
    plain : (d : ℕ) → WholeRoot (pos v) (pos q) (pos d) → IsRootOver v q d
    plain d k = record { reached = omega (arith, of_le k.reached); largest = omega (arith, of_lt k.passed) }

-- "Deviation of f: the whole d with d²·N² ≤ Vf < (d+1)²·N², taken of the unrounded variance."
pub deviation-is-root : (z : Sums) → Possible z → pos 0 <ℤ z.n → WholeRoot (Vf z) (z.n *ℤ z.n) (pos (deviation z))
unfolding deviation
deviation-is-root z p h = go (Vf z) z.n p.spread_f h
  where
    go : (v n : ℤ) → pos 0 ≤ℤ v → pos 0 <ℤ n → WholeRoot v (n *ℤ n) (pos (root_over (nat_abs v) (nat_abs n * nat_abs n)))
    go (negsuc v) n k h = absurd k.le
    go (pos v) (negsuc n) k h = absurd h.lt
    go (pos v) (pos n) k h =
        let d = root_over v (n * n) in
        let l : 0 < n = some (pos n) h in
        let r = root-over-law v (n * n) (mul-pos l l) in
        record {
          whole = leℤ (pos 0) (pos d) (omega arith);
          reached = leℤ (pos (d * d * (n * n))) (pos v) (omega (arith, r.reached));
          passed = ltℤ (pos v) (pos ((d + 1) * (d + 1) * (n * n))) (omega (arith, r.largest));
        }

-- ---- the coefficient
-- "the largest whole c, of any size, with c²·Vf·Vg ≤ 1,000,000·C²", where q is Vf-as-Vg and v is 1,000,000·C²
pub record LargestWhole (v q c : ℤ) : Type 0 where
  pub reached : (c *ℤ c *ℤ q) ≤ℤ v
  pub largest : (k : ℤ) → (k *ℤ k *ℤ q) ≤ℤ v → k ≤ℤ c

pub largest-whole-unique : (v q c d : ℤ) → LargestWhole v q c → LargestWhole v q d → c ≡ d
largest-whole-unique v q c d h k = ≤ℤ-antisym (k.largest c h.reached) (h.largest d k.reached)

pub magnitude-is-largest : (z : Sums) → pos 0 <ℤ (Vf z) → pos 0 <ℤ (Vg z) → LargestWhole (pos 1000000 *ℤ (covariance z *ℤ covariance z)) (Vf z *ℤ Vg z) (pos (magnitude z))
unfolding magnitude
magnitude-is-largest z h k = go (covariance z) (Vf z) (Vg z) h k
  where
    root : (v q : ℕ) → 0 < q → LargestWhole (pos v) (pos q) (pos (root_over v q))
    root v q h =
        let c = root_over v q in
        let r = root-over-law v q h in
        record { reached = leℤ (pos (c * c * q)) (pos v) (omega (arith, r.reached)); largest = λ k l. below c r k l }
      where
        below : (c : ℕ) → IsRootOver v q c → (k : ℤ) → (k *ℤ k *ℤ pos q) ≤ℤ pos v → k ≤ℤ pos c
        below c r (negsuc k) l = leℤ (negsuc k) (pos c) (omega arith)
        below c r (pos k) l = at (dec_lt c k)
          where
            at : Dec (c < k) → pos k ≤ℤ pos c
            at (no m) = leℤ (pos k) (pos c) (omega arith)
            at (yes m) = absurd (omega (arith, of_le l, r.largest, mul-le-mul_right q (mul-le-mul m m)))

    go : (c f g : ℤ) → pos 0 <ℤ f → pos 0 <ℤ g → LargestWhole (pos 1000000 *ℤ (c *ℤ c)) (f *ℤ g) (pos (root_over (1000000 * (nat_abs c * nat_abs c)) (nat_abs f * nat_abs g)))
    go (pos c) (pos f) (pos g) h k = root (1000000 * (c * c)) (f * g) (mul-pos (some (pos f) h) (some (pos g) k))
    go (negsuc c) (pos f) (pos g) h k = root (1000000 * (suc c * suc c)) (f * g) (mul-pos (some (pos f) h) (some (pos g) k))
    go c (negsuc f) g h k = absurd h.lt
    go c (pos f) (negsuc g) h k = absurd k.lt

-- ---- ranges
pub mean-bound : (z : Sums) → Possible z → 0 < count z → nat_abs (mean z) ≤ 32768
unfolding mean
mean-bound z p h = nearest-bound z.s (count z) 32768 h p.bounded.first

-- N-as-A - S² ≤ N-as-A ≤ 2^30·N²
pub spread-bound : (z : Sums) → Possible z → nat_abs (Vf z) ≤ 32768 * 32768 * (count z * count z)
spread-bound z p = go z.n z.s z.a p.bounded.whole p.bounded.square_f_whole p.bounded.square_f p.spread_f
  where
    whole : (y : ℤ) → pos 0 ≤ℤ y → (nat_abs y ≡ up y) × (dn y ≡ 0)
    whole (pos y) v = (refl, refl)
    whole (negsuc y) v = absurd v.le

    square : (s : ℤ) → dn (s *ℤ s) ≡ 0
    square (pos s) = refl
    square (negsuc s) = refl

    go : (n s a : ℤ) → pos 0 ≤ℤ n → pos 0 ≤ℤ a → nat_abs a ≤ 2 ^ 30 * nat_abs n → pos 0 ≤ℤ (n *ℤ a -ℤ s *ℤ s) → nat_abs (n *ℤ a -ℤ s *ℤ s) ≤ 32768 * 32768 * (nat_abs n * nat_abs n)
    go (negsuc n) s a h k l v = absurd h.le
    go (pos n) s (negsuc a) h k l v = absurd k.le
    go (pos n) s (pos a) h k l v =
        omega (arith, whole (pos n *ℤ pos a -ℤ s *ℤ s) v, sub-lawℤ (pos n *ℤ pos a) (s *ℤ s), square s, mul-le-mul_left n l)

pub deviation-bound : (z : Sums) → Possible z → 0 < count z → deviation z ≤ 32768
unfolding deviation
deviation-bound z p h = root-over-bound (nat_abs (Vf z)) (count z * count z) 32768 (mul-pos h h) (spread-bound z p)

pub magnitude-bound : (z : Sums) → Possible z → 0 < nat_abs (Vf z) * nat_abs (Vg z) → magnitude z ≤ 1000
unfolding magnitude
magnitude-bound z p h =
    root-over-bound (1000000 * (nat_abs (covariance z) * nat_abs (covariance z))) (nat_abs (Vf z) * nat_abs (Vg z)) 1000 h
    (omega (arith, mul-le-mul_left 1000000 (schwarz-has z p)))

pub size-signed : (c : ℤ) (n : ℕ) → nat_abs (signed c n) ≡ n
unfolding signed
size-signed (pos c) n = refl
size-signed (negsuc c) n = size-neg (pos n)

not-zero : (n : ℕ) → eqb n 0 ≡ false → 0 < n
not-zero zero e = absurd (true≢false e)
not-zero (suc n) e = omega arith

-- "there is a coefficient when its answer is neither Empty nor Flat": it lies from -1000 to 1000
pub coefficient_range : (z : Sums) (c : ℤ) → coefficient_call z ≡ answered (value c) → nat_abs c ≤ 1000
unfolding coefficient_call coefficient outcome refusal
coefficient_range z c e = go (impossible z) refl (no_cell z) (is_zero (Vf z)) refl (is_zero (Vg z)) refl e
  where
    chosen : (m a b : Bool) → Coefficient
    chosen m a b = elim m [ true ↦ empty | false ↦ elim (a || b) [ true ↦ flat | false ↦ value (signed (covariance z) (magnitude z)) ] ]

    refused-or : {A : Type 0} → Bool → A → Outcome A
    refused-or t r = outcome (refusal ((9 when t) ∷ [])) r

    go : (t : Bool) → impossible z ≡ t → (m : Bool) → (a : Bool) → is_zero (Vf z) ≡ a → (b : Bool) → is_zero (Vg z) ≡ b → refused-or t (chosen m a b) ≡ answered (value c) → nat_abs c ≤ 1000
    go true et m a ea b eb e = let y : ◌≡◌ {A = ℕ} 0 1 = cc in absurd (omega arith)
    go false et true a ea b eb e = let y : ◌≡◌ {A = ℕ} 0 1 = cc in absurd (omega arith)
    go false et false true ea b eb e = let y : ◌≡◌ {A = ℕ} 0 1 = cc in absurd (omega arith)
    go false et false false ea true eb e = let y : ◌≡◌ {A = ℕ} 0 1 = cc in absurd (omega arith)
    go false et false false ea false eb e =
        let y : signed (covariance z) (magnitude z) ≡ c = cc in
        let p = possible-has z et in
        let l = magnitude-bound z p (mul-pos (not-zero (nat_abs (Vf z)) ea) (not-zero (nat_abs (Vg z)) eb)) in
        rw (← y, size-signed (covariance z) (magnitude z)) l

-- ---- levels and spreads
-- "Both are exact.": the float is finite, has the sign of m, and is |m| / 32768 in size
pub exact : (m : ℤ) → nat_abs m ≤ 32768 → HasValue (over32768 m) (negative m) (nat_abs m) 32768
unfolding over32768
exact m h = round_exact binary32 (negative m) (nat_abs m) 32768 (nat_abs m) 134 (lit< tt) (lt_of_le_of_lt h (lit< tt))
    (lt_of_le_of_lt (mul-le-mul_right (2 ^ 134) h) (lit< tt))
    (sym (mul_assoc (nat_abs m) (2 ^ 134) 32768))

pub level-exact : (z : Sums) → Possible z → 0 < count z → HasValue (over32768 (mean z)) (negative (mean z)) (nat_abs (mean z)) 32768
level-exact z p h = exact (mean z) (mean-bound z p h)

pub spread-exact : (z : Sums) → Possible z → 0 < count z → HasValue (over32768 (pos (deviation z))) false (deviation z) 32768
spread-exact z p h = exact (pos (deviation z)) (deviation-bound z p h)

-- "Zero is positive zero."
pub zero-is-positive : over32768 (pos 0) ≡ fin false 0 (pos 0)
unfolding over32768 round
zero-is-positive = refl

-- there is one such float
pub one_float : (m : ℤ) (x : Float) → nat_abs m ≤ 32768 → T (fits binary32 x) → HasValue x (negative m) (nat_abs m) 32768 → x ≡ over32768 m
unfolding over32768
one_float m x h f v =
    value-unique binary32 x (round binary32 (negative m) (nat_abs m) 32768) (negative m) (nat_abs m) 32768 (lit< tt) f (round-fits binary32 (negative m) (nat_abs m) 32768) v (unfold over32768 in exact m h)

-- no two numbers share a float
pub over-injective : (m n : ℤ) → nat_abs m ≤ 32768 → nat_abs n ≤ 32768 → over32768 m ≡ over32768 n → m ≡ n
over-injective m n h k e =
    let r = values (over32768 n) (negative m) (negative n) (nat_abs m) (nat_abs n) (subst (λ (x : Float). HasValue x (negative m) (nat_abs m) 32768) e (exact m h)) (exact n k) in
    same m n r.0 r.1
  where
    values : (x : Float) (s t : Bool) (a b : ℕ) → HasValue x s a 32768 → HasValue x t b 32768 → (s ≡ t) × (a ≡ b)
    values nan s t a b v w = absurd v
    values (inf u) s t a b v w = absurd v
    values (fin u m e) s t a b v w = (sym v.0 ∙ w.0, eq_of_mul-eq-mul_right (down e) (down_pos e) a b (sym v.1 ∙ w.1))

    same : (m n : ℤ) → negative m ≡ negative n → nat_abs m ≡ nat_abs n → m ≡ n
    same (pos a) (pos b) s e = ap pos e
    same (pos a) (negsuc b) s e = absurd (false≢true s)
    same (negsuc a) (pos b) s e = absurd (true≢false s)
    same (negsuc a) (negsuc b) s e = ap negsuc (omega arith)

pub level-gives-mean : (y z : Sums) → Possible y → 0 < count y → Possible z → 0 < count z → over32768 (mean y) ≡ over32768 (mean z) → mean y ≡ mean z
level-gives-mean y z p h q k e = over-injective (mean y) (mean z) (mean-bound y p h) (mean-bound z q k) e
