-- `slope_rows::flat_edge::add_flat_edge` meets its contract. Assumes nothing.
use mathlib.Core.Path.{◌≡◌, sym, ◌∙◌, ap}
use Prim.Native.Nat.{ℕ, ◌<◌}
use native.Mathlib.Omega.{arith}
use mathlib.Core.List.{List, ◌++◌}
use lib.IntN.{ℤ}
use lib.ListN.{length, take}
use Rattle.numbers.specs.Grid.{tabulate}
use Rattle.numbers.specs.Wrap.{wrap}
use Rattle.numbers.proofs.Grids.{length-tabulate}
use Rattle.spec_picture.specs.declared.checked.CheckedSource.{CheckedSource}
use Rattle.spec_picture.specs.Picture.{plane_at}
use Rattle.spec_picture.specs.Checked.{checked_source}
use Rattle.numbers.proofs.Running.{wrap-wrap}
use Rattle.numbers.proofs.Writes.{at, tabulate-at}
use Rattle.spec_rows.specs.Rows.{enter_leave}
use Rattle.row_steps.proofs.NeighbourSums.{front, front_length, added-neighbours}
use Rattle.slope_rows.proofs.flat_edge.add_flat_edge.Goals as goal

-- what enters and leaves
abbrev change : CheckedSource → (i h : ℕ) → ℕ → ℤ
change s i h = enter_leave s.frame (plane_at (checked_source s)) i h

-- as the row that is summed across, which is the front of the buffer
module _ (n : ℕ) (F : ℕ → ℤ) (part : List ℤ) (e : part ≡ tabulate n (λ m. wrap (F m))) where
  part_length : length part ≡ n
  part_length = ap length e ∙ length-tabulate n (λ m. wrap (F m))

  module _ (rest : List ℤ) where
    lent : n ≡ length (take n (part ++ rest))
    lent = front_length n part rest part_length

    changes : (m : ℕ) → m < n → wrap (at (take n (part ++ rest)) m) ≡ wrap (F m)
    changes m h = ap (λ (l : List ℤ). wrap (at l m)) (front n part rest part_length) ∙ ap wrap (tabulate-at part n _ e m (omega (arith, part_length))) ∙ wrap-wrap (F m)

pub returns : goal.returns
returns c =
    added-neighbours c.args.source.now.frame.columns_wrap c.args.source.now.frame.columns c.args.k (change c.args.source.now c.args.i c.args.h) c.args.work.now _ _ _
    (sym (lent _ _ _ c.step_difference.ensures _)) (changes _ _ _ c.step_difference.ensures _) c.neighbour_sums.ensures c.requires.row.room c.add.ensures
