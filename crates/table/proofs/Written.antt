-- A row of the table that a loop has written in part.
-- Assumes nothing.
use mathlib.Core.Path.{◌≡◌, sym, ◌∙◌, ap}
use mathlib.Core.List.{List, []}
use Prim.Native.Nat.{ℕ, suc, ◌+◌, ◌≤◌, ◌<◌}
use native.Mathlib.Numerals.{add-one}
use lib.IntN.{ℤ, pos, ◌+ℤ◌, +ℤ_idl}
use lib.ListN.{length, set}
use Rattle.numbers.specs.Grid.{tabulate}
use Rattle.numbers.specs.Sum.{sum_to}
use Rattle.numbers.specs.Wrap.{wrap}
use Rattle.numbers.proofs.Running.{running_none, running_more, wrap-wrap}
use Rattle.numbers.proofs.Wraps.{wrap-add-right}
use Rattle.numbers.proofs.Writes.{at, Upto, upto-none, upto-more, upto_all}
use Rattle.table.specs.RowSums.{row_number}

-- j numbers of the row are the table's, and the rest is as it was
pub record RowWritten (above : List ℤ) (row : ℕ → ℤ) (old now : List ℤ) (sum : ℤ) (j : ℕ) : Type 0 where
  pub summed : sum ≡ wrap (sum_to j row)
  pub numbers : Upto (row_number above row) old now j

pub written_none : (above : List ℤ) (row : ℕ → ℤ) (old : List ℤ) → RowWritten above row old old (pos 0) 0
written_none above row old = record { summed = running_none row; numbers = upto-none (row_number above row) old }

module _ {above : List ℤ} {row : ℕ → ℤ} {old now : List ℤ} {sum : ℤ} {j : ℕ} (w : RowWritten above row old now sum j) where
  -- one number more: the value x is added to the sum, and the sum to the number above
  pub written-more : (x next v : ℤ) → j < length old → x ≡ row j → next ≡ wrap (sum +ℤ x) → v ≡ wrap (at above j +ℤ next) → RowWritten above row old (set now j v) next (j + 1)
  written-more x next v room value is-next is-v =
      let e : next ≡ wrap (sum_to (suc j) row) = is-next ∙ running_more row j sum x w.summed (ap wrap value) in
      record {
        summed = e ∙ ap (λ (n : ℕ). wrap (sum_to n row)) (sym (add-one j));
        numbers = upto-more w.numbers v room (is-v ∙ ap (λ (y : ℤ). wrap (at above j +ℤ y)) e ∙ wrap-add-right (at above j) (sum_to (suc j) row));
      }

  pub written_all : length old ≤ j → now ≡ tabulate (length old) (row_number above row)
  written_all all = upto_all w.numbers all

-- the same where nothing is above
pub first_more : {row : ℕ → ℤ} {old now : List ℤ} {sum : ℤ} {j : ℕ} → RowWritten [] row old now sum j → (x next : ℤ) → j < length old → x ≡ row j → next ≡ wrap (sum +ℤ x) → RowWritten [] row old (set now j next) next (j + 1)
first_more {row} {old} {now} {sum} {j} w x next room value is-next =
    written-more w x next next room value is-next (is-next ∙ sym (wrap-wrap (sum +ℤ x)) ∙ sym (ap wrap (+ℤ_idl next ∙ is-next)))
