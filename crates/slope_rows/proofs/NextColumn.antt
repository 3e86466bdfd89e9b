-- The sum over the columns near a column, and near the next: a cell comes in on the right, and one is gone on the left.
-- Assumes nothing.
use mathlib.Core.Path.{◌≡◌, sym, ◌∙◌, ap, ap₂}
use Prim.Native.Nat.{ℕ, suc, ◌+◌, ◌-◌, ◌*◌, ◌≤◌, ◌<◌, min}
use native.Mathlib.Omega.{arith}
use native.Mathlib.Decide.{dec_lt}
use mathlib.Core.Bool.{Bool, true, false}
use lib.Dec.{T, leb, ltb, leb→le, le→leb}
use lib.IntN.{ℤ, pos, ◌+ℤ◌, ◌-ℤ◌}
use Rattle.numbers.specs.Sum.{sum_to, pick}
use Rattle.numbers.proofs.Linear.{any, sums, ring}
use Rattle.numbers.proofs.Sums.{sum-suc, sum_more, sum_less, pick_yes, pick_no, pick-in, pick_out}
use Rattle.spec_picture.specs.declared.Frame.{Frame}
use Rattle.spec_picture.specs.Frame.{column_gap, Apart}
use Rattle.spec_picture.specs.Sides.{round_end}
use Rattle.spec_picture.proofs.Gaps.{near-columns}
use Rattle.slope_loops.specs.declared.padding.TheConstants.{MARGIN}
use Rattle.slope_loops.specs.Slopes.{beside_row}
use Rattle.slope_loops.proofs.BesideRow.{left-clipped, right-clipped, left-wrapped, right-wrapped}

module _ (c j r : ℕ) (f : ℕ → ℤ) (j< : suc j < c) where
  -- the cells that come in and are gone along the row, and past its ends
  abbrev right : ℤ
  right = pick (ltb (suc j + r) c) (f (suc j + r))

  abbrev left : ℤ
  left = pick (leb r j) (f (j - r))

  abbrev right-round : ℤ
  right-round = pick (leb c (suc j + r)) (f (suc j + r - c))

  abbrev left-round : ℤ
  left-round = pick (ltb j r) (f (c - (r - j)))

  along : sum_to (min (suc (suc j + r)) c) f -ℤ sum_to (min (suc j - r) c) f ≡ (sum_to (min (suc (j + r)) c) f +ℤ right) -ℤ (sum_to (min (j - r) c) f +ℤ left)
  along =
      let e : suc j + r ≡ suc (j + r) = omega arith in
      ap₂ ◌-ℤ◌
      (sum_more c (suc j + r) f ∙ ap (λ (k : ℕ). sum_to (min k c) f +ℤ right) e)
      (sum_less c j r f ∙ ap (λ (v : ℤ). sum_to (min (j - r) c) f +ℤ pick (leb r j) v) (pick-in (j - r) c (f (j - r)) (omega arith)))

  after : sum_to (suc (suc j + r) - c) f ≡ sum_to (suc (j + r) - c) f +ℤ right-round
  after = go (dec_lt (suc j + r) c)
    where
      go : Dec (suc j + r < c) → sum_to (suc (suc j + r) - c) f ≡ sum_to (suc (j + r) - c) f +ℤ right-round
      go (yes h) =
          let e : suc (suc j + r) - c ≡ suc (j + r) - c = omega arith in
          ap (λ (k : ℕ). sum_to k f) e ∙ sym (ap (λ (v : ℤ). sum_to (suc (j + r) - c) f +ℤ v) (pick_no (leb c (suc j + r)) (f (suc j + r - c)) (λ t. omega (arith, leb→le c (suc j + r) t))) ∙ ring (search (sums, any (sum_to (suc (j + r) - c) f))) (omega arith))
      go (no h) =
          let e : suc (suc j + r) - c ≡ suc (suc j + r - c) = omega arith in
          let e' : suc j + r - c ≡ suc (j + r) - c = omega arith in
          ap (λ (k : ℕ). sum_to k f) e ∙ sum-suc (suc j + r - c) f ∙ ap₂ (λ (k : ℕ) (v : ℤ). sum_to k f +ℤ v) e' (sym (pick_yes (leb c (suc j + r)) (f (suc j + r - c)) (le→leb c (suc j + r) (omega arith))))

  before : r ≤ c → sum_to (c - (r - suc j)) f ≡ sum_to (c - (r - j)) f +ℤ left-round
  before once = go (dec_lt j r)
    where
      go : Dec (j < r) → sum_to (c - (r - suc j)) f ≡ sum_to (c - (r - j)) f +ℤ left-round
      go (yes h) =
          let e : c - (r - suc j) ≡ suc (c - (r - j)) = omega arith in
          ap (λ (k : ℕ). sum_to k f) e ∙ sum-suc (c - (r - j)) f ∙ ap (λ (v : ℤ). sum_to (c - (r - j)) f +ℤ v) (sym (pick-in j r (f (c - (r - j))) h))
      go (no h) =
          let e : c - (r - suc j) ≡ c - (r - j) = omega arith in
          ap (λ (k : ℕ). sum_to k f) e ∙ sym (ap (λ (v : ℤ). sum_to (c - (r - j)) f +ℤ v) (pick_out j r (f (c - (r - j))) (omega arith)) ∙ ring (search (sums, any (sum_to (c - (r - j)) f))) (omega arith))

moved-clipped : (a b x y : ℤ) → ((a +ℤ x) -ℤ (b +ℤ y)) +ℤ pos 0 ≡ ((a -ℤ b) +ℤ pos 0) +ℤ (x -ℤ y)
moved-clipped a b x y = ring (search (sums, any a, any b, any x, any y) depth 16) (omega arith)

moved-wrapped : (a b x y u s v p q : ℤ) → ((a +ℤ x) -ℤ (b +ℤ y)) +ℤ ((u +ℤ p) +ℤ (s -ℤ (v +ℤ q))) ≡ ((a -ℤ b) +ℤ (u +ℤ (s -ℤ v))) +ℤ ((x +ℤ p) -ℤ (y +ℤ q))
moved-wrapped a b x y u s v p q = ring (search (sums, any a, any b, any x, any y, any u, any s, any v, any p, any q) depth 24) (omega arith)

moved : (w : Bool) (c j r : ℕ) (f : ℕ → ℤ) → suc j < c → ((n : ℕ) → c ≤ n → f n ≡ pos 0) → r ≤ MARGIN → (T w → 2 * r + 1 ≤ c) →
    (sum_to (min (suc (suc j + r)) c) f -ℤ sum_to (min (suc j - r) c) f) +ℤ round_end w c (suc j) r f
    ≡ ((sum_to (min (suc (j + r)) c) f -ℤ sum_to (min (j - r) c) f) +ℤ round_end w c j r f) +ℤ (beside_row w c f (MARGIN + suc j + r) -ℤ beside_row w c f (MARGIN + j - r))
moved false c j r f j< beside few apart =
    let a = sum_to (min (suc (j + r)) c) f in
    let b = sum_to (min (j - r) c) f in
    ap (λ (v : ℤ). v +ℤ pos 0) (along c j r f j<)
    ∙ moved-clipped a b (right c j r f j<) (left c j r f j<)
    ∙ ap (λ (v : ℤ). ((a -ℤ b) +ℤ pos 0) +ℤ v) (sym (ap₂ ◌-ℤ◌ (right-clipped c (suc j) r f j< beside) (left-clipped c j r f (omega arith) few)))
moved true c j r f j< beside few apart =
    let a = sum_to (min (suc (j + r)) c) f in
    let b = sum_to (min (j - r) c) f in
    let u = sum_to (suc (j + r) - c) f in
    let s = sum_to c f in
    let v = sum_to (c - (r - j)) f in
    let once : r ≤ c = omega (arith, apart tt) in
    ap₂ ◌+ℤ◌ (along c j r f j<) (ap₂ (λ (x y : ℤ). x +ℤ (s -ℤ y)) (after c j r f j<) (before c j r f j< once))
    ∙ moved-wrapped a b (right c j r f j<) (left c j r f j<) u s v (right-round c j r f j<) (left-round c j r f j<)
    ∙ ap (λ (x : ℤ). ((a -ℤ b) +ℤ (u +ℤ (s -ℤ v))) +ℤ x) (sym (ap₂ ◌-ℤ◌ (right-wrapped c (suc j) r f j<) (left-wrapped c j r f (omega arith) few once)))

-- from column j to the next
pub near-next : (z : Frame) (j r : ℕ) (f : ℕ → ℤ) → suc j < z.columns → ((n : ℕ) → z.columns ≤ n → f n ≡ pos 0) → r ≤ MARGIN → Apart z r →
    sum_to z.columns (λ n. pick (leb (column_gap z (suc j) n) r) (f n))
    ≡ sum_to z.columns (λ n. pick (leb (column_gap z j n) r) (f n)) +ℤ (beside_row z.columns_wrap z.columns f (MARGIN + suc j + r) -ℤ beside_row z.columns_wrap z.columns f (MARGIN + j - r))
near-next z j r f j< beside few apart =
    near-columns z (suc j) r j< apart f
    ∙ moved z.columns_wrap z.columns j r f j< beside few apart
    ∙ ap (λ (v : ℤ). v +ℤ (beside_row z.columns_wrap z.columns f (MARGIN + suc j + r) -ℤ beside_row z.columns_wrap z.columns f (MARGIN + j - r))) (sym (near-columns z j r (omega arith) apart f))
