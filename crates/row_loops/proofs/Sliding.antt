-- A sum that slides from place to place, over a row that is written part by part, and the neighbours of a row's columns as such a sum.
-- Assumes nothing.
use mathlib.Core.Path.{◌≡◌, sym, ap, ap₂, ◌∙◌}
use mathlib.Core.Bool.{Bool, true, false}
use mathlib.Core.List.{List}
use Prim.Native.Nat.{ℕ, suc, ◌+◌, ◌-◌, ◌*◌, ◌≤◌, ◌<◌, min}
use native.Mathlib.Numerals.{add-one}
use native.Mathlib.Omega.{arith}
use lib.Dec.{ltb, leb, le→leb, leb→le}
use lib.IntN.{ℤ, pos, ◌+ℤ◌, ◌-ℤ◌, +ℤ_assoc, +ℤ_idr}
use lib.ListN.{length, take, drop}
use lib.Seq.{get_or-take, get_or-drop}
use borrow.Rule.Slice.PartMut.{put_mid}
use mir.Facts.{to_z-of_z}
use mir.Syntax.{w64}
use mir.Val.{SFits, to_z, of_z}
use Rattle.numbers.specs.Grid.{tabulate}
use Rattle.numbers.specs.Sum.{sum_to, pick}
use Rattle.numbers.specs.Wrap.{wrap}
use Rattle.numbers.proofs.Lines.{tabulated-length}
use Rattle.numbers.proofs.Sums.{sum-suc, sum-split, sum-cong, sum-range, near-change, near-moved, pick_yes, pick_no, pick-in, pick_out}
use Rattle.numbers.proofs.Wraps.{wrap-add, wrap-add-right, wrap-fits, sfits-wrap}
use Rattle.numbers.proofs.Writes.{at, is-tabulate, tabulate-at, Upto, upto-none, upto-part, slice-length}
use Rattle.spec_picture.specs.Frame.{gap_of}
use Rattle.row_loops.specs.SlidingSums.{neighbour_sum, running_sum, entered_less_left, Slid}
use Rattle.row_loops.proofs.RoundChanges.{round-change, before-first, round-moved}

-- ---- a sum and its changes
module _ (sum : ℤ) (f : ℕ → ℤ) where
  -- no change yet
  pub running-none : SFits w64 sum → sum ≡ running_sum sum f 0
  unfolding running_sum sum_to
  running-none h = sym (ap wrap (+ℤ_idr sum) ∙ wrap-fits sum h)

  -- one change more
  pub running-next : (n : ℕ) (s x : ℤ) → s ≡ running_sum sum f n → x ≡ wrap (f n) → wrap (s +ℤ x) ≡ running_sum sum f (n + 1)
  unfolding running_sum
  running-next n s x e h =
      ap₂ (λ (a b : ℤ). wrap (a +ℤ b)) e h ∙ wrap-add-right (running_sum sum f n) (f n) ∙ wrap-add (sum +ℤ sum_to n f) (f n)
      ∙ ap wrap (+ℤ_assoc sum (sum_to n f) (f n) ∙ ap (λ (z : ℤ). sum +ℤ z) (sym (rw add-one (sum-suc n f))))

  -- from place lo on
  running-on : (g : ℕ → ℤ) (lo n : ℕ) → ((k : ℕ) → k < n → g k ≡ f (lo + k)) → running_sum (running_sum sum f lo) g n ≡ running_sum sum f (lo + n)
  unfolding running_sum
  running-on g lo n h =
      wrap-add (sum +ℤ sum_to lo f) (sum_to n g)
      ∙ ap wrap (+ℤ_assoc sum (sum_to lo f) (sum_to n g) ∙ ap (λ (z : ℤ). sum +ℤ z) (rw (sum-cong n g (λ k. f (lo + k)) h) (sym (sum-split lo n f))))

  running-fits : (n : ℕ) → SFits w64 (running_sum sum f n)
  unfolding running_sum
  running-fits n = sfits-wrap _

-- ---- a row whose columns below `end` are written, and the sum that is there then
pub record SlidUpto (start : ℤ) (f : ℕ → ℤ) (old now : List ℤ) (end : ℕ) (last : ℤ) : Type 0 where
  pub written : Upto (λ k. running_sum start f (k + 1)) old now end
  pub last_is : last ≡ running_sum start f end

-- a part more, from lo to hi
module _ {start s last : ℤ} {f : ℕ → ℤ} {old now enter leave part : List ℤ} {lo : ℕ} (u : SlidUpto start f old now lo s) (hi : ℕ) (o : lo ≤ hi) (h : hi ≤ length old)
    (v : Slid enter leave (to_z w64 (of_z w64 s)) (take (hi - lo) (drop lo now)) part last) (same : (k : ℕ) → k < hi - lo → entered_less_left enter leave k ≡ f (lo + k)) where
  sums_from : (n : ℕ) → n ≤ hi - lo → running_sum (to_z w64 (of_z w64 s)) (entered_less_left enter leave) n ≡ running_sum start f (lo + n)
  sums_from n l = rw (u.last_is, to_z-of_z (running-fits start f lo)) (running-on start f (entered_less_left enter leave) lo n (λ k m. same k (omega arith)))

  pub slid-on : SlidUpto start f old (put_mid lo (hi - lo) now part) hi last
  slid-on =
      let size : length (take (hi - lo) (drop lo now)) ≡ hi - lo = slice-length lo hi now o (omega (arith, u.written.size)) in
      let sums = rw size at v.sums in
      let long = tabulated-length part (hi - lo) _ sums in
      let end : lo + (hi - lo) ≡ hi = omega arith in
      record {
        written = upto-part u.written hi part o h long (λ k l.
            let next : lo + (k + 1) ≡ lo + k + 1 = omega arith in
            tabulate-at part (hi - lo) _ sums k (omega arith) ∙ sums_from (k + 1) (omega arith) ∙ ap (running_sum start f) next);
        last_is = rw size at v.ends ∙ sums_from (hi - lo) (omega arith) ∙ ap (running_sum start f) end;
      }

-- ---- what enters and what leaves at column i: a number of a part of the row, or none
part_at : (row : List ℤ) (from n k : ℕ) → k < n → at (take n (drop from row)) k ≡ at row (from + k)
part_at row from n k l = get_or-take n (drop from row) k (pos 0) l ∙ get_or-drop from row k (pos 0)

pub part-place : (row : List ℤ) (from n k place : ℕ) → k < n → from + k ≡ place → at (take n (drop from row)) k ≡ at row place
part-place row from n k place l e = part_at row from n k l ∙ ap (at row) e

module _ (row : List ℤ) (b i : ℕ) where
  pub enters-from : (from n k : ℕ) → k < n → from + k ≡ i + b → i + b < length row → at (take n (drop from row)) k ≡ pick (ltb (i + b) (length row)) (at row (i + b))
  enters-from from n k l e h = part-place row from n k (i + b) l e ∙ sym (pick-in (i + b) (length row) (at row (i + b)) h)

  pub enters_none : length row ≤ i + b → pos 0 ≡ pick (ltb (i + b) (length row)) (at row (i + b))
  enters_none h = sym (pick_out (i + b) (length row) (at row (i + b)) h)

  pub leaves-from : (from n k : ℕ) → k < n → from + k + suc b ≡ i → i < length row → at (take n (drop from row)) k ≡ pick (leb (suc b) i) (pick (ltb (i - suc b) (length row)) (at row (i - suc b)))
  leaves-from from n k l e h =
      let place : from + k ≡ i - suc b = omega arith in
      part-place row from n k (i - suc b) l place
      ∙ sym (pick_yes (leb (suc b) i) _ (le→leb (suc b) i (omega arith)) ∙ pick-in (i - suc b) (length row) (at row (i - suc b)) (omega arith))

  pub leaves_none : i ≤ b → pos 0 ≡ pick (leb (suc b) i) (pick (ltb (i - suc b) (length row)) (at row (i - suc b)))
  leaves_none h = sym (pick_no (leb (suc b) i) _ (λ t. omega (arith, leb→le (suc b) i t)))

-- ---- the neighbours of a row's columns, from the sum before the first column on
pub slid-none : (start base : ℤ) (f : ℕ → ℤ) (old : List ℤ) → start ≡ wrap base → SlidUpto start f old old 0 start
slid-none start base f old e = record { written = upto-none _ old; last_is = running-none start f (rw e (sfits-wrap base)) }

module _ (row : List ℤ) (wraps : Bool) (b : ℕ) (start base : ℤ) (change : ℕ → ℤ) (e : start ≡ wrap base)
    (moved : (j : ℕ) → j < length row → sum_to (length row) (λ k. pick (leb (gap_of wraps (length row) j k) b) (at row k)) ≡ base +ℤ sum_to (j + 1) change) where
  neighbours-moved : (j : ℕ) → j < length row → running_sum start change (j + 1) ≡ neighbour_sum wraps row b j
  unfolding running_sum
  neighbours-moved j j< = rw e (wrap-add base (sum_to (j + 1) change) ∙ ap wrap (sym (moved j j<)))

  pub slid_all : {old now : List ℤ} {last : ℤ} → length old ≡ length row → SlidUpto start change old now (length row) last → now ≡ tabulate (length row) (neighbour_sum wraps row b)
  slid_all {old} {now} h u = is-tabulate now (length row) (neighbour_sum wraps row b) (u.written.size ∙ h) (λ k l. u.written.done k l ∙ neighbours-moved k l)

-- where columns clip, it is that of the first b numbers
module _ (row : List ℤ) (b reach : ℕ) (start : ℤ) (m : reach ≡ min b (length row)) (e : start ≡ wrap (sum_to reach (at row))) where
  begun : start ≡ wrap (sum_to (min b (length row)) (at row))
  begun = e ∙ ap (λ (k : ℕ). wrap (sum_to k (at row))) m

  pub clipped-none : (old : List ℤ) → SlidUpto start (near-change (length row) b (at row)) old old 0 start
  clipped-none old = slid-none start (sum_to (min b (length row)) (at row)) (near-change (length row) b (at row)) old begun

  pub clipped-all : {old now : List ℤ} {last : ℤ} → length old ≡ length row → SlidUpto start (near-change (length row) b (at row)) old now (length row) last →
      now ≡ tabulate (length row) (neighbour_sum false row b)
  clipped-all h u = slid_all row false b start (sum_to (min b (length row)) (at row)) (near-change (length row) b (at row)) begun (λ j j<. near-moved (length row) j b (at row)) h u

-- where columns wrap, it is that of the first b numbers and the last b + 1
module _ (row : List ℤ) (b : ℕ) (start first last : ℤ) (fits : 2 * b + 1 ≤ length row) (e : start ≡ wrap (first +ℤ last))
    (e₁ : first ≡ wrap (sum_to b (at row))) (e₂ : last ≡ wrap (sum_to (b + 1) (at (take (length row - (length row - (b + 1))) (drop (length row - (b + 1)) row))))) where
  last-numbers : sum_to (b + 1) (at (take (length row - (length row - (b + 1))) (drop (length row - (b + 1)) row))) ≡ sum_to (length row) (at row) -ℤ sum_to (length row - suc b) (at row)
  last-numbers =
      let size : length row - (length row - suc b) ≡ b + 1 = omega arith in
      let from : length row - (b + 1) ≡ length row - suc b = omega arith in
      sum-cong (b + 1) (at (take (length row - (length row - (b + 1))) (drop (length row - (b + 1)) row))) (λ k. at row (length row - suc b + k))
      (λ k k<. part_at row (length row - (b + 1)) (length row - (length row - (b + 1))) k (omega arith) ∙ ap (λ (m : ℕ). at row (m + k)) from)
      ∙ ap (λ (m : ℕ). sum_to m (λ k. at row (length row - suc b + k))) (sym size)
      ∙ sym (sum-range (length row - suc b) (length row) (at row) (omega arith))

  round-begun : start ≡ wrap (before-first (length row) b (at row))
  round-begun =
      let all : b ≡ min b (length row) = omega arith in
      e ∙ ap₂ (λ (x y : ℤ). wrap (x +ℤ y)) (e₁ ∙ ap (λ (m : ℕ). wrap (sum_to m (at row))) all) (e₂ ∙ ap wrap last-numbers)
      ∙ wrap-add-right (wrap (sum_to (min b (length row)) (at row))) (sum_to (length row) (at row) -ℤ sum_to (length row - suc b) (at row))
      ∙ wrap-add (sum_to (min b (length row)) (at row)) (sum_to (length row) (at row) -ℤ sum_to (length row - suc b) (at row))

  pub round-none : (old : List ℤ) → SlidUpto start (round-change (length row) b (at row)) old old 0 start
  round-none old = slid-none start (before-first (length row) b (at row)) (round-change (length row) b (at row)) old round-begun

  pub round-all : {old now : List ℤ} {last : ℤ} → length old ≡ length row → SlidUpto start (round-change (length row) b (at row)) old now (length row) last →
      now ≡ tabulate (length row) (neighbour_sum true row b)
  round-all h u =
      slid_all row true b start (before-first (length row) b (at row)) (round-change (length row) b (at row)) round-begun (λ j j<. round-moved (length row) b (at row) j j< fits) h u
