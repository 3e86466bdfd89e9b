-- The two borders. Where columns clip, the definitions are document 01's, in its own formulas. Where they wrap, a window that fits does not meet itself.
-- Assumes nothing.
use mathlib.Core.Path.{◌≡◌, refl, sym, ◌∙◌, ap, ap₂}
use Prim.Native.Nat.{ℕ, zero, suc, ◌+◌, ◌-◌, ◌*◌, ◌%◌, ◌≤◌, ◌<◌}
use native.Mathlib.Omega.{arith}
use native.Mathlib.Decide.{dec_lt}
use mathlib.Core.Bool.{Bool, true, false, not, ◌&&◌, ◌||◌}
use mathlib.Core.Logic.{◌⊎◌, inl, inr}
use mathlib.Core.List.{List, ◌∷◌}
use lib.Dec.{T, leb, ltb}
use lib.IntN.{ℤ, pos, negsuc, nat_abs, sub_ℕ, ◌+ℤ◌}
use Rattle.numbers.specs.Sum.{sum_to, pick, dist}
use Rattle.numbers.proofs.Integers.{up, dn, add-law, eqℤ}
use Rattle.numbers.proofs.Wraps.{sub_low, sub-high}
use Rattle.spec_picture.specs.declared.Frame.{Frame}
use Rattle.spec_picture.specs.Frame.{gap_of, column_gap, row_gap, Apart, in_range, inside, inside_g, remainder, column_of, column_at}
use Rattle.spec_picture.specs.declared.Window.{Window}
use Rattle.spec_picture.specs.Window.{Shape, shape_of, height, reach, width, holds, fits, widest_row}
use Rattle.spec_picture.specs.Picture.{Source, Inputs, counts, level_at, other_of, plane_at}
use Rattle.spec_picture.specs.Refusal.{Check, refusal}
use Rattle.spec_picture.specs.Conditions.{check11}
use Rattle.spec_picture.specs.Direct.{window_sum}
use Rattle.spec_picture.specs.Offsets.{sum_span, clipped, beyond, extended, offset_sum}
use Rattle.spec_picture.proofs.Offsets.{rest-within, rest-past}
use Rattle.spec_picture.proofs.Refusals.{pass}
use Rattle.spec_picture.proofs.Windows.{reach_width}

-- ---- columns that clip
module _ (z : Frame) (clips : z.columns_wrap ≡ false) where
  -- how far apart two columns are
  pub gap-clipped : (j n : ℕ) → column_gap z j n ≡ dist j n
  gap-clipped j n = ap (λ (w : Bool). gap_of w z.columns j n) clips

  -- "inside the picture" is within its rows and its columns, for a cell of g too
  pub inside-clipped : (r c : ℤ) → inside_g z r c ≡ (in_range z.rows r && in_range z.columns c)
  inside-clipped r c = ap (λ (w : Bool). in_range z.rows r && (w || in_range z.columns c)) clips

  -- the column at a place inside is the place
  pub column-clipped : (c : ℤ) → column_at z c ≡ nat_abs c
  column-clipped c = ap (λ (w : Bool). column_of w z.columns c) clips

  -- the cells of a window: "|p|" and "|q|" are distances along a column and along a row
  pub holds-clipped : (s : Shape) (i j m n : ℕ) → holds z s i j m n ≡ (leb (dist i m) (height s) && leb (dist j n) (reach s (dist i m)))
  holds-clipped s i j m n = ap (λ (q : ℕ). leb (dist i m) (height s) && leb q (reach s (dist i m))) (gap-clipped j n)

  -- the direct sum over such cells
  pub sum-clipped : (s : Shape) (P : ℕ → ℕ → ℤ) (i j : ℕ) → window_sum z s P i j ≡ sum_to z.rows (λ m. sum_to z.columns (λ n. pick (leb (dist i m) (height s) && leb (dist j n) (reach s (dist i m))) (P m n)))
  unfolding window_sum
  sum-clipped s P i j = simp (holds-clipped s i j)

  -- a plane past the border: "At every other cell it is 0"
  pub extended-clipped : (P : ℕ → ℕ → ℤ) (m : ℕ) (c : ℤ) → extended z P (pos m) c ≡ pick (ltb m z.rows) (clipped z.columns (P m) c)
  unfolding extended
  extended-clipped P m c = ap (λ (w : Bool). pick (ltb m z.rows) (beyond w z.columns (P m) c)) clips

  -- and 11 is never answered
  pub fits-clipped : (w : Window) (rest : List Check) → refusal (check11 z w ∷ rest) ≡ refusal rest
  fits-clipped w rest = pass 11 (not (fits z w)) rest (ap (λ (b : Bool). not (not (b && ltb z.columns (widest_row (shape_of w))))) clips)

-- "A cell (m, n) counts when it and (m+u, n+v) are both inside the picture", and its level of g is that at (m+u, n+v)
pub counts-clipped : (x : Source) → x.frame.columns_wrap ≡ false → (m n : ℕ) → counts x m n ≡ (inside x.frame (pos m) (pos n) && inside x.frame (pos m +ℤ x.shift.down) (pos n +ℤ x.shift.right))
unfolding counts
counts-clipped x clips m n = ap (λ (b : Bool). inside x.frame (pos m) (pos n) && b) (inside-clipped x.frame clips (pos m +ℤ x.shift.down) (pos n +ℤ x.shift.right))

pub other-clipped : (x : Source) → x.frame.columns_wrap ≡ false → (m n : ℕ) → other_of x m n ≡ level_at x.frame x.g (nat_abs (pos m +ℤ x.shift.down)) (nat_abs (pos n +ℤ x.shift.right))
other-clipped x clips m n = ap (level_at x.frame x.g (nat_abs (pos m +ℤ x.shift.down))) (column-clipped x.frame clips (pos n +ℤ x.shift.right))

-- ---- columns that wrap
-- the column of a place at most once past either end: the place, or one turn away from it
around : (n j : ℕ) (q : ℤ) → j < n → nat_abs q < n →
    (remainder n (pos j +ℤ q) + dn q ≡ j + up q) ⊎ ((remainder n (pos j +ℤ q) + dn q + n ≡ j + up q) ⊎ (remainder n (pos j +ℤ q) + dn q ≡ j + up q + n))
unfolding remainder
around n j (pos d) hj hd = go (dec_lt (j + d) n)
  where
    go : Dec (j + d < n) → ((j + d) % n + 0 ≡ j + d) ⊎ (((j + d) % n + 0 + n ≡ j + d) ⊎ ((j + d) % n + 0 ≡ j + d + n))
    go (yes h) = inl (omega (arith, rest-within n (j + d) h))
    go (no h) = inr (inl (omega (arith, rest-past n (j + d) (omega arith) (omega arith))))
around n j (negsuc d) hj hd = go (dec_lt j (suc d))
  where
    go : Dec (j < suc d) → (remainder n (sub_ℕ j (suc d)) + suc d ≡ j + 0) ⊎ ((remainder n (sub_ℕ j (suc d)) + suc d + n ≡ j + 0) ⊎ (remainder n (sub_ℕ j (suc d)) + suc d ≡ j + 0 + n))
    go (yes h) =
        let e : remainder n (sub_ℕ j (suc d)) ≡ n - suc (suc d - suc j) = ap (remainder n) (sub_low j (suc d) h) ∙ ap (λ (m : ℕ). n - suc m) (rest-within n (suc d - suc j) (omega arith)) in
        inr (inr (omega (arith, e)))
    go (no h) =
        let e : remainder n (sub_ℕ j (suc d)) ≡ j - suc d = ap (remainder n) (sub-high j (suc d) (omega arith)) ∙ rest-within n (j - suc d) (omega arith) in
        inl (omega (arith, e))

-- two places of a row that does not meet itself are two columns
one-column : (n j r : ℕ) (q t : ℤ) → j < n → 2 * r + 1 ≤ n → nat_abs q ≤ r → nat_abs t ≤ r → remainder n (pos j +ℤ q) ≡ remainder n (pos j +ℤ t) → q ≡ t
one-column n j r q t hj fit hq ht e = eqℤ q t (go (around n j q hj (omega arith)) (around n j t hj (omega arith)))
  where
    size : (x : ℤ) → nat_abs x ≡ up x + dn x
    size (pos k) = omega arith
    size (negsuc k) = omega arith

    go : (remainder n (pos j +ℤ q) + dn q ≡ j + up q) ⊎ ((remainder n (pos j +ℤ q) + dn q + n ≡ j + up q) ⊎ (remainder n (pos j +ℤ q) + dn q ≡ j + up q + n)) →
        (remainder n (pos j +ℤ t) + dn t ≡ j + up t) ⊎ ((remainder n (pos j +ℤ t) + dn t + n ≡ j + up t) ⊎ (remainder n (pos j +ℤ t) + dn t ≡ j + up t + n)) → up q + dn t ≡ up t + dn q
    go (inl a) (inl b) = omega (arith, e)
    go (inl a) (inr (inl b)) = omega (arith, e, size q, size t)
    go (inl a) (inr (inr b)) = omega (arith, e, size q, size t)
    go (inr (inl a)) (inl b) = omega (arith, e, size q, size t)
    go (inr (inl a)) (inr (inl b)) = omega (arith, e)
    go (inr (inl a)) (inr (inr b)) = omega (arith, e, size q, size t)
    go (inr (inr a)) (inl b) = omega (arith, e, size q, size t)
    go (inr (inr a)) (inr (inl b)) = omega (arith, e, size q, size t)
    go (inr (inr a)) (inr (inr b)) = omega (arith, e)

-- "The window may not meet itself": no cell of the picture is held twice. Two offsets of a window that fits, (p, q) and (s, t), are one where their cells (i+p, (j+q) mod columns) are
pub held-once : (z : Frame) (w : Window) → Apart z (width (shape_of w)) → T z.columns_wrap → (i j : ℕ) → j < z.columns → (p q s t : ℤ) →
    nat_abs q ≤ reach (shape_of w) (nat_abs p) → nat_abs t ≤ reach (shape_of w) (nat_abs s) →
    pos i +ℤ p ≡ pos i +ℤ s → column_at z (pos j +ℤ q) ≡ column_at z (pos j +ℤ t) → (p ≡ s) × (q ≡ t)
held-once z w apart wraps i j hj p q s t hq ht row column =
    let shape = shape_of w in
    (same-row, one-column z.columns j (width shape) q t hj (apart wraps) (omega (arith, hq, reach_width shape (nat_abs p))) (omega (arith, ht, reach_width shape (nat_abs s))) (go z.columns_wrap wraps column))
  where
    same-row : p ≡ s
    same-row = eqℤ p s (omega (arith, add-law (pos i) p, add-law (pos i) s, ap up row, ap dn row))

    go : (b : Bool) → T b → column_of b z.columns (pos j +ℤ q) ≡ column_of b z.columns (pos j +ℤ t) → remainder z.columns (pos j +ℤ q) ≡ remainder z.columns (pos j +ℤ t)
    go true u e = e
    go false u e = absurd u
