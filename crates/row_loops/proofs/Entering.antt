-- What a row of sums gains where one row of a plane enters and one leaves.
-- Assumes nothing.
use mathlib.Core.Path.{◌≡◌, refl, sym, ◌∙◌, ap, ap₂}
use mathlib.Core.Bool.{Bool, true, false}
use mathlib.Core.List.{List}
use Prim.Native.Nat.{ℕ, ◌+◌, ◌-◌, ◌≤◌, ◌<◌}
use native.Mathlib.Omega.{arith}
use native.Mathlib.Decide.{dec_lt}
use lib.IntN.{ℤ, pos, ◌+ℤ◌, ◌-ℤ◌, +ℤ_idr}
use lib.ListN.{length, take, drop}
use borrow.Rule.Slice.PartMut.{put_mid}
use mir.Syntax.{w64}
use mir.Val.{to_z, of_z, bool_byte as from_bool}
use Rattle.numbers.specs.Grid.{tabulate}
use Rattle.numbers.specs.Wrap.{wrap}
use Rattle.numbers.proofs.Grids.{length-tabulate, tabulate-cong}
use Rattle.numbers.proofs.Writes.{at, is-tabulate, tabulate-at, part-before, part-within, part-after, part_length, slice_at, slice-length}
use Rattle.row_loops.specs.Added.{Numbers}

-- ---- the columns that count: what enters less what leaves, in other words
module _ (sums out : List ℤ) (f g : ℕ → ℤ) (e : out ≡ tabulate (length sums) (λ k. wrap (at sums k +ℤ f k))) (same : (k : ℕ) → k < length sums → f k ≡ g k) where
  pub added-same : out ≡ tabulate (length sums) (λ k. wrap (at sums k +ℤ g k))
  added-same = e ∙ tabulate-cong (length sums) _ _ (λ k k<. ap (λ (z : ℤ). wrap (at sums k +ℤ z)) (same k k<))

-- rows of plane 0 in the code's numbers
pub by-64 : (a b : Bool) → to_z w64 (of_z w64 (to_z w64 (of_z w64 (pos (from_bool a))) -ℤ to_z w64 (of_z w64 (pos (from_bool b))))) ≡ pos (from_bool a) -ℤ pos (from_bool b)
by-64 true true = refl
by-64 true false = refl
by-64 false true = refl
by-64 false false = refl

-- ---- sums that are changed from column `first` up to column `end`, and kept elsewhere
pub record Changed (change : ℕ → ℤ) (sums now : List ℤ) (first end : ℕ) : Type 0 where
  pub size : length now ≡ length sums
  pub changed : (j : ℕ) → first ≤ j → j < end → at now j ≡ wrap (at sums j +ℤ change j)
  pub kept : (j : ℕ) → (first ≤ j → j < end → ⊥) → at now j ≡ at sums j

pub changed_none : (change : ℕ → ℤ) (sums : List ℤ) (first : ℕ) → Changed change sums sums first first
changed_none change sums first = record { size = refl; changed = λ j a b. absurd (omega arith); kept = λ j never. refl }

-- the columns from `seam` on up to `end` are changed too
module _ {change : ℕ → ℤ} {sums now : List ℤ} {first seam : ℕ} (u : Changed change sums now first seam) (end : ℕ) (f : first ≤ seam) (o : seam ≤ end) (h : end ≤ length sums) where
  module _ (part : List ℤ) (e : part ≡ tabulate (length (take (end - seam) (drop seam now))) (λ k. wrap (at (take (end - seam) (drop seam now)) k +ℤ change (seam + k)))) where
    inside : end ≤ length now
    inside = omega (arith, h, u.size)

    size : length part ≡ end - seam
    size = ap length e ∙ length-tabulate _ (λ k. wrap (at (take (end - seam) (drop seam now)) k +ℤ change (seam + k))) ∙ slice-length seam end now o inside

    before : (j : ℕ) → j < seam → at (put_mid seam (end - seam) now part) j ≡ at now j
    before j j< = part-before seam end now part o inside size j j<

    changed-at : (j : ℕ) → first ≤ j → j < end → Dec (j < seam) → at (put_mid seam (end - seam) now part) j ≡ wrap (at sums j +ℤ change j)
    changed-at j a b (yes l) = before j l ∙ u.changed j a l
    changed-at j a b (no l) =
        let here : seam + (j - seam) ≡ j = omega arith in
        part-within seam end now part o inside size j (omega arith) b
        ∙ tabulate-at part _ _ e (j - seam) (omega (arith, size))
        ∙ ap₂ (λ (y z : ℤ). wrap (y +ℤ z)) (slice_at seam end now o inside (j - seam) (omega arith) ∙ ap (at now) here ∙ u.kept j (λ x y. l y)) (ap change here)

    kept-at : (j : ℕ) → (first ≤ j → j < end → ⊥) → Dec (j < seam) → at (put_mid seam (end - seam) now part) j ≡ at sums j
    kept-at j never (yes l) = before j l ∙ u.kept j (λ x y. never x (omega arith))
    kept-at j never (no l) = part-after seam end now part o inside size j (out (dec_lt j end)) ∙ u.kept j (λ x y. l y)
      where
        out : Dec (j < end) → end ≤ j
        out (yes b) = absurd (never (omega arith) b)
        out (no b) = omega arith

    pub changed-more : Changed change sums (put_mid seam (end - seam) now part) first end
    changed-more = record {
      size = part_length seam end now part o inside size ∙ u.size;
      changed = λ j a b. changed-at j a b (dec_lt j seam);
      kept = λ j never. kept-at j never (dec_lt j seam);
    }

  -- there are none
  pub changed-same : end ≤ seam → Changed change sums now first end
  changed-same l = let s : seam ≡ end = omega arith in rw (← s) u

-- the change of the others is 0
pub sums-changed : {change : ℕ → ℤ} {sums now : List ℤ} {first end : ℕ} → Changed change sums now first end → (n : ℕ) → length sums ≡ n → Numbers sums → ((j : ℕ) → j < n → (first ≤ j → j < end → ⊥) → change j ≡ pos 0) →
    now ≡ tabulate n (λ j. wrap (at sums j +ℤ change j))
sums-changed {change} {sums} {now} {first} {end} u n room numbers none = is-tabulate now n _ (u.size ∙ room) (λ j j<. go j j< (dec_lt j first) (dec_lt j end))
  where
    same : (j : ℕ) → j < n → (first ≤ j → j < end → ⊥) → at now j ≡ wrap (at sums j +ℤ change j)
    same j j< never = u.kept j never ∙ sym (ap (λ (z : ℤ). wrap (at sums j +ℤ z)) (none j j< never) ∙ ap wrap (+ℤ_idr (at sums j)) ∙ numbers.whole j)

    go : (j : ℕ) → j < n → Dec (j < first) → Dec (j < end) → at now j ≡ wrap (at sums j +ℤ change j)
    go j j< (yes a) d = same j j< (λ x y. omega arith)
    go j j< (no a) (no b) = same j j< (λ x y. b y)
    go j j< (no a) (yes b) = u.changed j (omega arith) b
