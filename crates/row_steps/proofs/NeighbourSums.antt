-- A row that is summed across, each number with its neighbours, and added to a work area.
-- Assumes nothing.
use mathlib.Core.Path.{◌≡◌, refl, sym, ◌∙◌, ap}
use Prim.Native.Nat.{ℕ, ◌<◌}
use mathlib.Core.Bool.{Bool, true, false}
use mathlib.Core.List.{List, ◌++◌}
use lib.Dec.{leb}
use lib.ListN.{length, take}
use lib.Seq.{take-append_seam}
use lib.IntN.{ℤ, pos, ◌+ℤ◌}
use Rattle.numbers.specs.Sum.{sum_to, pick}
use Rattle.numbers.specs.Grid.{tabulate}
use Rattle.numbers.specs.Wrap.{wrap}
use Rattle.numbers.proofs.Grids.{tabulate-cong, get_d_tabulate}
use Rattle.numbers.proofs.Running.{running-same}
use Rattle.numbers.proofs.Wraps.{wrap-add-right}
use Rattle.numbers.proofs.Writes.{at}
use Rattle.spec_picture.specs.Frame.{gap_of}
use Rattle.row_loops.specs.SlidingSums.{neighbour_sum}

-- ---- the front part of an array, as it has come back
pub front : (n : ℕ) (part rest : List ℤ) → length part ≡ n → take n (part ++ rest) ≡ part
front n part rest e = ap (λ (m : ℕ). take m (part ++ rest)) (sym e) ∙ take-append_seam part rest

pub front_length : (n : ℕ) (part rest : List ℤ) → length part ≡ n → n ≡ length (take n (part ++ rest))
front_length n part rest e = sym (ap length (front n part rest e) ∙ e)

-- ---- n columns, which wrap where w is true, and a row that is F where it is wrapped
wrap-pick : (b : Bool) (x y : ℤ) → wrap x ≡ wrap y → wrap (pick b x) ≡ wrap (pick b y)
unfolding pick
wrap-pick true x y e = e
wrap-pick false x y e = refl

module _ (w : Bool) (n k : ℕ) (F : ℕ → ℤ) (work out : List ℤ) where
  abbrev near : ℕ → ℤ
  near j = sum_to n (λ m. pick (leb (gap_of w n j m) k) (F m))

  pub added-neighbours : (cells row : List ℤ) → length cells ≡ n → ((m : ℕ) → m < n → wrap (at cells m) ≡ wrap (F m)) → row ≡ tabulate (length cells) (neighbour_sum w cells k) → length work ≡ n →
      out ≡ tabulate (length work) (λ j. wrap (at work j +ℤ at row j)) → out ≡ tabulate n (λ j. wrap (at work j +ℤ near j))
  added-neighbours cells row size same r room o =
      o ∙ ap (λ (q : ℕ). tabulate q (λ j. wrap (at work j +ℤ at row j))) room
      ∙ tabulate-cong n (λ j. wrap (at work j +ℤ at row j)) (λ j. wrap (at work j +ℤ near j))
      (λ j j<. ap (λ (x : ℤ). wrap (at work j +ℤ x)) (at_row j j<) ∙ wrap-add-right (at work j) (near j))
    where
      at_row : (j : ℕ) → j < n → at row j ≡ wrap (near j)
      at_row j j< =
          ap (λ (l : List ℤ). at l j) (r ∙ ap (λ (q : ℕ). tabulate q (neighbour_sum w cells k)) size)
          ∙ get_d_tabulate n j (neighbour_sum w cells k) (pos 0) j<
          ∙ ap (λ (q : ℕ). wrap (sum_to q (λ m. pick (leb (gap_of w q j m) k) (at cells m)))) size
          ∙ running-same n (λ m. pick (leb (gap_of w n j m) k) (at cells m)) (λ m. pick (leb (gap_of w n j m) k) (F m)) (λ m m<. wrap-pick (leb (gap_of w n j m) k) (at cells m) (F m) (same m m<))
