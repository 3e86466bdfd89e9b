-- The laws of rounding and of the whole root.
-- Assumes nothing.
use mathlib.Core.Path.{◌≡◌, refl}
use mathlib.Core.Bool.{Bool, true, false}
use mathlib.Core.List.{[], ◌∷◌}
use Prim.Native.Nat.{ℕ, zero, suc, ◌+◌, ◌*◌, ◌%◌, ◌/◌, ◌≤◌, ◌<◌}
use native.Mathlib.Omega.{arith}
use native.Mathlib.Nat.{div-add-mod', mod-lt, mul-le-mul, mul-le-mul_left, mul-le-mul_right}
use lib.Dec.{leb, leb→le, nleb→lt}
use lib.IntN.{ℤ, pos, negsuc, nat_abs, ◌+ℤ◌, ◌-ℤ◌, ◌*ℤ◌}
use lib.Signed.{◌≤ℤ◌, ◌<ℤ◌}
use Rattle.numbers.specs.Round.{floor_div, nearest, root_step, root_in, root, root_over}
use Rattle.numbers.proofs.Integers.{up, dn, add-law, sub-lawℤ, mul-law, leℤ, of_le, ltℤ, of_lt, of_eq}
use Rattle.numbers.proofs.Laws.{≤ℤ-antisym, pos-cancel-lt, pos-cancel}
use Rattle.numbers.proofs.Ring.{X, K, ◌⊕◌, ◌⊖◌, ◌⊗◌, ring}
use Rattle.numbers.proofs.Magnitudes.{size}

-- r is the whole root of n
pub record IsRoot (n r : ℕ) : Type 0 where
  pub reached : r * r ≤ n
  pub largest : n < suc r * suc r

step-law : (n m r : ℕ) → m * 4 ≤ n → n < suc m * 4 → IsRoot m r → IsRoot n (root_step n (2 * r))
unfolding root_step
step-law n m r lo hi h = go (leb (suc (2 * r) * suc (2 * r)) n) refl
  where
    go : (b : Bool) → leb (suc (2 * r) * suc (2 * r)) n ≡ b → IsRoot n (elim b [ true ↦ suc (2 * r) | false ↦ 2 * r ])
    go true e =
        let l : suc (2 * r) * suc (2 * r) ≤ n = leb→le (suc (2 * r) * suc (2 * r)) n (rw e tt) in
        record { reached = l; largest = omega (arith, h.largest) }
    go false e =
        let l : n < suc (2 * r) * suc (2 * r) = nleb→lt (suc (2 * r) * suc (2 * r)) n (rw e tt) in
        record { reached = omega (arith, h.reached); largest = l }

root_in_lem : (k n : ℕ) → n ≤ k → IsRoot n (root_in k n)
unfolding root_in
root_in_lem zero zero h = record { reached = omega arith; largest = omega arith }
root_in_lem zero (suc n) h = absurd (omega arith)
root_in_lem (suc k) zero h = record { reached = omega arith; largest = omega arith }
root_in_lem (suc k) (suc n) h =
    let d = div-add-mod' (suc n) 4 in
    let m : suc n % 4 < 4 = mod-lt (suc n) (omega arith) in
    step-law (suc n) (suc n / 4) (root_in k (suc n / 4)) (omega arith) (omega arith) (root_in_lem k (suc n / 4) (omega arith))

pub root-law : (n : ℕ) → IsRoot n (root n)
unfolding root
root-law n = root_in_lem n n (omega arith)

-- c is the largest with c² d ≤ n
pub record IsRootOver (n d c : ℕ) : Type 0 where
  pub reached : c * c * d ≤ n
  pub largest : n < suc c * suc c * d

pub root-over-law : (n d : ℕ) → 0 < d → IsRootOver n d (root_over n d)
unfolding root_over
root-over-law n d h =
    let c = root (n / d) in
    let r = root-law (n / d) in
    let e = div-add-mod' n d in
    let m : n % d < d = mod-lt n h in
    let lo : c * c * d ≤ n / d * d = mul-le-mul_right d r.reached in
    let hi : suc (n / d) * d ≤ suc c * suc c * d = mul-le-mul_right d r.largest in
    record { reached = omega arith; largest = omega arith }

-- ---- division rounded down: d q ≤ x < d (q + 1)
pub record IsFloor (x : ℤ) (d : ℕ) (q : ℤ) : Type 0 where
  pub below : (pos d *ℤ q) ≤ℤ x
  pub above : x <ℤ (pos d *ℤ q +ℤ pos d)

pub floor-law : (x : ℤ) (d : ℕ) → 0 < d → IsFloor x d (floor_div x d)
unfolding floor_div
floor-law (pos n) d h =
    let e = div-add-mod' n d in
    let m : n % d < d = mod-lt n h in
    record {
      below = leℤ (pos (d * (n / d))) (pos n) (omega arith);
      above = ltℤ (pos n) (pos (d * (n / d)) +ℤ pos d) (omega arith);
    }
floor-law (negsuc n) d h =
    let e = div-add-mod' n d in
    let m : n % d < d = mod-lt n h in
    let q = negsuc (n / d) in
    record {
      below = leℤ (pos d *ℤ q) (negsuc n) (omega (arith, mul-law (pos d) q));
      above = ltℤ (negsuc n) (pos d *ℤ q +ℤ pos d) (omega (arith, mul-law (pos d) q, add-law (pos d *ℤ q) (pos d)));
    }

-- ---- nearest, a half going up: 2 d q - d ≤ 2 x < 2 d q + d
pub record IsNearest (x : ℤ) (d : ℕ) (q : ℤ) : Type 0 where
  pub below : (pos (2 * d) *ℤ q -ℤ pos d) ≤ℤ (pos 2 *ℤ x)
  pub above : (pos 2 *ℤ x) <ℤ (pos (2 * d) *ℤ q +ℤ pos d)

pub nearest-law : (x : ℤ) (d : ℕ) → 0 < d → IsNearest x d (nearest x d)
unfolding nearest
nearest-law x d h =
    let y = pos 2 *ℤ x +ℤ pos d in
    let q = floor_div y (2 * d) in
    let f = floor-law y (2 * d) (omega arith) in
    let w = pos (2 * d) *ℤ q in
    record {
      below = leℤ (w -ℤ pos d) (pos 2 *ℤ x) (omega (arith, of_le f.below, add-law (pos 2 *ℤ x) (pos d), sub-lawℤ w (pos d)));
      above = ltℤ (pos 2 *ℤ x) (w +ℤ pos d) (omega (arith, of_lt f.above, add-law (pos 2 *ℤ x) (pos d), add-law w (pos (2 * d)), add-law w (pos d)));
    }

-- there is one nearest number
pub nearest-unique : (x : ℤ) (d : ℕ) (q q' : ℤ) → 0 < d → IsNearest x d q → IsNearest x d q' → q ≡ q'
nearest-unique x d q q' p h h' = ≤ℤ-antisym (not-above q q' h h') (not-above q' q h' h)
  where
    -- 2 d q - d ≤ 2 x < 2 d q' + d, so 2 d (q' + 1 - q) > 0, so q < q' + 1
    not-above : (q q' : ℤ) → IsNearest x d q → IsNearest x d q' → q ≤ℤ q'
    not-above q q' h h' =
        let w = pos (2 * d) in
        let e : w *ℤ (q' +ℤ pos 1 -ℤ q) ≡ w *ℤ q' +ℤ w -ℤ w *ℤ q = ring (X 0 ⊗ (X 2 ⊕ K (pos 1) ⊖ X 1)) (X 0 ⊗ X 2 ⊕ X 0 ⊖ X 0 ⊗ X 1) (w ∷ q ∷ q' ∷ []) tt in
        let l : pos 0 <ℤ (w *ℤ (q' +ℤ pos 1 -ℤ q)) = ltℤ (pos 0) (w *ℤ (q' +ℤ pos 1 -ℤ q)) (omega (arith, of_eq e, sub-lawℤ (w *ℤ q' +ℤ w) (w *ℤ q), add-law (w *ℤ q') w, add-law (w *ℤ q') (pos d), sub-lawℤ (w *ℤ q) (pos d), of_le h.below, of_lt h'.above)) in
        let r : pos 0 <ℤ (q' +ℤ pos 1 -ℤ q) = pos-cancel-lt w (q' +ℤ pos 1 -ℤ q) (ltℤ (pos 0) w (omega arith)) l in
        leℤ q q' (omega (arith, of_lt r, sub-lawℤ (q' +ℤ pos 1) q, add-law q' (pos 1)))

-- the paper's words: |2 x - 2 d q| ≤ d, and on equality q is the larger of the two that are as near
pub record Near (x : ℤ) (d : ℕ) (q : ℤ) : Type 0 where
  pub close : nat_abs (pos 2 *ℤ x -ℤ pos (2 * d) *ℤ q) ≤ d
  pub larger : nat_abs (pos 2 *ℤ x -ℤ pos (2 * d) *ℤ q) ≡ d → (pos 2 *ℤ x) ≤ℤ (pos (2 * d) *ℤ q)

of-ends : (y : ℤ) (d : ℕ) → dn y ≤ up y + d → up y < dn y + d → nat_abs y ≤ d
of-ends (pos a) d h k = omega arith
of-ends (negsuc a) d h k = omega arith

pub nearest-near : (x : ℤ) (d : ℕ) (q : ℤ) → IsNearest x d q → Near x d q
nearest-near x d q h =
    let t = pos 2 *ℤ x in
    let w = pos (2 * d) *ℤ q in
    record {
      close = of-ends (t -ℤ w) d (omega (arith, of_le h.below, sub-lawℤ t w, sub-lawℤ w (pos d))) (omega (arith, of_lt h.above, sub-lawℤ t w, add-law w (pos d)));
      larger = λ e. leℤ t w (omega (arith, not-up (t -ℤ w) d e (omega (arith, of_lt h.above, sub-lawℤ t w, add-law w (pos d))), sub-lawℤ t w));
    }
  where
    not-up : (y : ℤ) (d : ℕ) → nat_abs y ≡ d → up y < dn y + d → up y ≤ dn y
    not-up (pos a) d e k = absurd (omega arith)
    not-up (negsuc a) d e k = omega arith

-- numbers from -M to M have their nearest mean there
pub nearest-bound : (x : ℤ) (d M : ℕ) → 0 < d → nat_abs x ≤ M * d → nat_abs (nearest x d) ≤ M
nearest-bound x d M p h = within (nearest x d) (nearest-law x d p)
  where
    within : (q : ℤ) → IsNearest x d q → nat_abs q ≤ M
    within (pos n) k = go (native.Mathlib.Decide.dec_lt M n)
      where
        go : Dec (M < n) → n ≤ M
        go (yes l) = absurd (omega (arith, mul-le-mul_left d l, of_le k.below, sub-lawℤ (pos (2 * d) *ℤ pos n) (pos d), mul-law (pos 2) x, size x))
        go (no l) = omega arith
    within (negsuc n) k = go (native.Mathlib.Decide.dec_lt M (suc n))
      where
        go : Dec (M < suc n) → suc n ≤ M
        go (yes l) = absurd (omega (arith, mul-le-mul_left d l, of_lt k.above, add-law (pos (2 * d) *ℤ negsuc n) (pos d), mul-law (pos (2 * d)) (negsuc n), mul-law (pos 2) x, size x))
        go (no l) = omega arith

-- c² d ≤ n ≤ M² d bounds c
pub root-over-bound : (n d M : ℕ) → 0 < d → n ≤ M * M * d → root_over n d ≤ M
root-over-bound n d M p h = go (native.Mathlib.Decide.dec_lt M (root_over n d))
  where
    go : Dec (M < root_over n d) → root_over n d ≤ M
    go (no l) = omega arith
    go (yes l) =
        let r = root-over-law n d p in
        let a : suc M * suc M * d ≤ root_over n d * root_over n d * d = mul-le-mul_right d (mul-le-mul l l) in
        absurd (omega (arith, r.reached))

-- a mean of numbers from lo to hi lies from lo to hi
pub nearest-within : (x : ℤ) (d : ℕ) (q lo hi : ℤ) → 0 < d → IsNearest x d q → (pos d *ℤ lo) ≤ℤ x → x ≤ℤ (pos d *ℤ hi) → (lo ≤ℤ q) × (q ≤ℤ hi)
nearest-within x d q lo hi p h l u = (low_end, high_end)
  where
    n : ℤ
    n = pos d

    dpos : pos 0 <ℤ n
    dpos = ltℤ (pos 0) (pos d) (omega arith)

    dbl : (y : ℤ) → pos (2 * d) *ℤ y ≡ pos 2 *ℤ (n *ℤ y)
    dbl y = ring (K (pos 2) ⊗ X 0 ⊗ X 1) (K (pos 2) ⊗ (X 0 ⊗ X 1)) (n ∷ y ∷ []) tt

    -- 2 d lo ≤ 2 x < 2 d q + d: d (2 (q - lo) + 1) > 0
    low_end : lo ≤ℤ q
    low_end =
        let z = pos 2 *ℤ (q -ℤ lo) +ℤ pos 1 in
        let e : n *ℤ z ≡ pos 2 *ℤ (n *ℤ q) +ℤ n -ℤ pos 2 *ℤ (n *ℤ lo) = ring (X 0 ⊗ (K (pos 2) ⊗ (X 1 ⊖ X 2) ⊕ K (pos 1))) (K (pos 2) ⊗ (X 0 ⊗ X 1) ⊕ X 0 ⊖ K (pos 2) ⊗ (X 0 ⊗ X 2)) (n ∷ q ∷ lo ∷ []) tt in
        let g : pos 0 <ℤ (n *ℤ z) = ltℤ (pos 0) (n *ℤ z) (omega (arith, of_eq e, of_eq (dbl q), sub-lawℤ (pos 2 *ℤ (n *ℤ q) +ℤ n) (pos 2 *ℤ (n *ℤ lo)), add-law (pos 2 *ℤ (n *ℤ q)) n, add-law (pos (2 * d) *ℤ q) (pos d), of_lt h.above, of_le l, mul-law (pos 2) x, mul-law (pos 2) (n *ℤ lo))) in
        leℤ lo q (omega (arith, of_lt (pos-cancel-lt n z dpos g), add-law (pos 2 *ℤ (q -ℤ lo)) (pos 1), mul-law (pos 2) (q -ℤ lo), sub-lawℤ q lo))

    -- 2 d q - d ≤ 2 x ≤ 2 d hi: d (2 (hi - q) + 1) ≥ 0
    high_end : q ≤ℤ hi
    high_end =
        let z = pos 2 *ℤ (hi -ℤ q) +ℤ pos 1 in
        let e : n *ℤ z ≡ pos 2 *ℤ (n *ℤ hi) -ℤ (pos 2 *ℤ (n *ℤ q) -ℤ n) = ring (X 0 ⊗ (K (pos 2) ⊗ (X 2 ⊖ X 1) ⊕ K (pos 1))) (K (pos 2) ⊗ (X 0 ⊗ X 2) ⊖ (K (pos 2) ⊗ (X 0 ⊗ X 1) ⊖ X 0)) (n ∷ q ∷ hi ∷ []) tt in
        let g : pos 0 ≤ℤ (n *ℤ z) = leℤ (pos 0) (n *ℤ z) (omega (arith, of_eq e, of_eq (dbl q), sub-lawℤ (pos 2 *ℤ (n *ℤ hi)) (pos 2 *ℤ (n *ℤ q) -ℤ n), sub-lawℤ (pos 2 *ℤ (n *ℤ q)) n, sub-lawℤ (pos (2 * d) *ℤ q) (pos d), of_le h.below, of_le u, mul-law (pos 2) x, mul-law (pos 2) (n *ℤ hi))) in
        leℤ q hi (omega (arith, of_le (pos-cancel n z dpos g), add-law (pos 2 *ℤ (hi -ℤ q)) (pos 1), mul-law (pos 2) (hi -ℤ q), sub-lawℤ hi q))

-- one whole root
pub root-over-unique : (n d c c' : ℕ) → IsRootOver n d c → IsRootOver n d c' → c ≡ c'
root-over-unique n d c c' h h' = go (native.Mathlib.Decide.dec_lt c c') (native.Mathlib.Decide.dec_lt c' c)
  where
    less : (a b : ℕ) → IsRootOver n d a → IsRootOver n d b → a < b → ⊥
    less a b h h' l =
        let k : suc a * suc a * d ≤ b * b * d = mul-le-mul_right d (mul-le-mul l l) in
        omega (arith, h.largest, h'.reached)

    go : Dec (c < c') → Dec (c' < c) → c ≡ c'
    go (yes l) m = absurd (less c c' h h' l)
    go (no l) (yes m) = absurd (less c' c h' h m)
    go (no l) (no m) = omega arith
