-- A rectangle's column sums of row 0 and the others' window sums, as code makes them: row by row.
-- Assumes nothing.
use mathlib.Core.Path.{◌≡◌, sym, ◌∙◌, ap}
use Prim.Native.Nat.{ℕ, suc, ◌+◌, ◌-◌, ◌^◌, ◌≤◌, ◌<◌, min}
use native.Mathlib.Omega.{arith}
use native.Mathlib.Numerals.{add-one}
use mathlib.Core.List.{List}
use lib.Dec.{leb}
use lib.IntN.{ℤ, pos, nat_abs, ◌+ℤ◌, ◌-ℤ◌, +ℤ_idr}
use Rattle.numbers.specs.Sum.{sum_to, pick, dist}
use Rattle.numbers.specs.Grid.{tabulate}
use Rattle.numbers.specs.Wrap.{wrap}
use Rattle.numbers.proofs.Grids.{tabulate-cong, get_d_tabulate}
use Rattle.numbers.proofs.Sums.{sum-suc, sum-cong, sum_near}
use Rattle.numbers.proofs.Wraps.{wrap-add, wrap-small}
use Rattle.numbers.proofs.Writes.{at}
use Rattle.spec_picture.specs.declared.Frame.{Frame}
use Rattle.spec_picture.specs.Frame.{column_gap}
use Rattle.spec_picture.specs.Window.{Shape, height, reach}
use Rattle.spec_picture.specs.Direct.{window_sum}
use Rattle.spec_picture.proofs.Refusals.{InLimits}
use Rattle.spec_picture.proofs.Windows.{by_rows}
use Rattle.spec_rows.specs.Rows.{column_sum}
use Rattle.spec_rows.proofs.Steps.{column_fits, window-fits}

-- the wrapped sums of the columns over the first m rows
abbrev pub columns_to : (ℕ → ℕ → ℤ) → (columns m : ℕ) → List ℤ
columns_to P columns m = tabulate columns (λ j. wrap (sum_to m (λ k. P k j)))

module _ (P : ℕ → ℕ → ℤ) (columns : ℕ) where
  pub columns-none : (n : ℕ) (work : List ℤ) → n ≡ columns → work ≡ tabulate n (λ k. pos 0) → work ≡ columns_to P columns 0
  unfolding sum_to wrap
  columns-none n work e w = w ∙ ap (λ (m : ℕ). tabulate m (λ k. pos 0)) e

  pub columns-plus : (m : ℕ) (work next : List ℤ) → work ≡ columns_to P columns m → next ≡ tabulate columns (λ j. wrap (at work j +ℤ P m j)) → next ≡ columns_to P columns (m + 1)
  columns-plus m work next w o = o ∙ tabulate-cong columns (λ j. wrap (at work j +ℤ P m j)) (λ j. wrap (sum_to (m + 1) (λ k. P k j))) at-column
    where
      at-column : (j : ℕ) → j < columns → wrap (at work j +ℤ P m j) ≡ wrap (sum_to (m + 1) (λ k. P k j))
      at-column j j< =
          ap (λ (x : ℤ). wrap (x +ℤ P m j)) (ap (λ (l : List ℤ). at l j) w ∙ get_d_tabulate columns j (λ j. wrap (sum_to m (λ k. P k j))) (pos 0) j<)
          ∙ wrap-add (sum_to m (λ k. P k j)) (P m j)
          ∙ ap wrap (sym (sum-suc m (λ k. P k j)) ∙ ap (λ (q : ℕ). sum_to q (λ k. P k j)) (sym (add-one m)))

  -- and the cells of a row that are 0 are subtracted
  pub columns-more : (m none : ℕ) (work next : List ℤ) → ((j : ℕ) → P none j ≡ pos 0) → work ≡ columns_to P columns m → next ≡ tabulate columns (λ j. wrap (at work j +ℤ (P m j -ℤ P none j))) → next ≡ columns_to P columns (m + 1)
  columns-more m none work next no_cell w o =
      columns-plus m work next w
      (o ∙ tabulate-cong columns (λ j. wrap (at work j +ℤ (P m j -ℤ P none j))) (λ j. wrap (at work j +ℤ P m j)) (λ j j<. ap (λ (x : ℤ). wrap (at work j +ℤ x)) (ap (λ (z : ℤ). P m j -ℤ z) (no_cell j) ∙ +ℤ_idr (P m j))))

-- the rows at most r from row 0
from_0 : (n r : ℕ) (f : ℕ → ℤ) → sum_to n (λ k. pick (leb (dist 0 k) r) (f k)) ≡ sum_to (min (suc (0 + r)) n) f
unfolding sum_to
from_0 n r f =
    let none : min (0 - r) n ≡ 0 = omega arith in
    sum_near n 0 r f ∙ ap (λ (m : ℕ). sum_to (min (suc (0 + r)) n) f -ℤ sum_to m f) none ∙ +ℤ_idr (sum_to (min (suc (0 + r)) n) f)

-- after the last of them the sums are such as 64 bits hold
done : (Q : ℕ → ℕ → ℤ) (columns m : ℕ) (W : ℕ → ℤ) (work : List ℤ) → ((j : ℕ) → W j ≡ sum_to m (λ k. Q k j)) → ((j : ℕ) → nat_abs (W j) < 2 ^ 63) → work ≡ columns_to Q columns m → work ≡ tabulate columns W
done Q columns m W work e fits w = w ∙ tabulate-cong columns (λ j. wrap (sum_to m (λ k. Q k j))) W (λ j j<. ap wrap (sym (e j)) ∙ wrap-small (W j) (fits j))

-- row m of the plane, of which each cell is summed as far to both sides as the window on row 0 reaches there
abbrev pub reached : Frame → (ℕ → ℕ → ℤ) → Shape → (m j : ℕ) → ℤ
reached z P s m j = sum_to z.columns (λ n. pick (leb (column_gap z j n) (reach s m)) (P m n))

-- the window sum of row 0, row by row
pub window-0 : (z : Frame) (P : ℕ → ℕ → ℤ) (s : Shape) (j : ℕ) → window_sum z s P 0 j ≡ sum_to (min (suc (0 + height s)) z.rows) (λ m. reached z P s m j)
window-0 z P s j =
    by_rows z s P 0 j
    ∙ sum-cong z.rows (λ m. pick (leb (dist 0 m) (height s)) (sum_to z.columns (λ n. pick (leb (column_gap z j n) (reach s (dist 0 m))) (P m n)))) (λ m. pick (leb (dist 0 m) (height s)) (reached z P s m j))
    (λ m m<.
    let e : dist 0 m ≡ m = omega arith in
    ap (λ (p : ℕ). pick (leb (dist 0 m) (height s)) (sum_to z.columns (λ n. pick (leb (column_gap z j n) (reach s p)) (P m n)))) e)
    ∙ from_0 z.rows (height s) (λ m. reached z P s m j)

module _ (z : Frame) (P : ℕ → ℕ → ℤ) (lim : InLimits z) (small : (m n : ℕ) → nat_abs (P m n) ≤ 2 ^ 30) where
  pub columns-all : (a m : ℕ) (work : List ℤ) → m ≡ min (suc (0 + a)) z.rows → work ≡ columns_to P z.columns m → work ≡ tabulate z.columns (column_sum z P a 0)
  unfolding column_sum
  columns-all a m work e =
      done P z.columns m (column_sum z P a 0) work (λ j. from_0 z.rows a (λ k. P k j) ∙ ap (λ (n : ℕ). sum_to n (λ k. P k j)) (sym e)) (λ j. omega (arith, column_fits z P lim small a 0 j))

  pub windows-all : (s : Shape) (m : ℕ) (work : List ℤ) → m ≡ min (suc (0 + height s)) z.rows → work ≡ columns_to (reached z P s) z.columns m → work ≡ tabulate z.columns (window_sum z s P 0)
  windows-all s m work e =
      done (reached z P s) z.columns m (window_sum z s P 0) work (λ j. window-0 z P s j ∙ ap (λ (n : ℕ). sum_to n (λ k. reached z P s k j)) (sym e)) (λ j. omega (arith, window-fits z P lim small s 0 j))
