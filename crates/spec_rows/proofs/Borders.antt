-- A row's step and the output row by offsets, "once for each q from -(k+h) to k+h": at columns j + q of the picture, or at columns j + q mod columns where they wrap; and that where columns
-- clip they are document 01's.
-- Assumes nothing.
use mathlib.Core.Path.{◌≡◌, sym, ◌∙◌, ap₂}
use Prim.Native.Nat.{ℕ, zero, suc, ◌<◌}
use native.Mathlib.Omega.{arith}
use mathlib.Core.Bool.{false}
use mathlib.Core.List.{List}
use lib.Dec.{leb}
use lib.ListN.{get_or}
use lib.IntN.{ℤ, pos, nat_abs, ◌+ℤ◌}
use Rattle.numbers.specs.Sum.{sum_to, pick, dist}
use Rattle.numbers.specs.Grid.{tabulate}
use Rattle.numbers.specs.Wrap.{wrap}
use Rattle.spec_picture.specs.declared.Frame.{Frame}
use Rattle.spec_picture.specs.Frame.{column_gap, Apart}
use Rattle.spec_picture.specs.Window.{Slanted, rectangle, slanted, width, depth}
use Rattle.spec_picture.specs.Offsets.{sum_span, beyond}
use Rattle.spec_picture.proofs.Borders.{gap-clipped}
use Rattle.spec_picture.proofs.Offsets.{offset-0, both-offsets, round-offsets}
use Rattle.spec_rows.specs.Rows.{enter_leave, work_change, output_row}
use Rattle.spec_rows.proofs.Distances.{at-distance-some, near-0, near-more}

module _ (z : Frame) (j : ℕ) (j< : j < z.columns) where
  -- values that depend on how far their column is from column j
  by-offsets : (F : ℕ → ℕ → ℤ) (r : ℕ) → Apart z r → sum_to z.columns (λ n. pick (leb (column_gap z j n) r) (F (column_gap z j n) n)) ≡ sum_span r (λ q. beyond z.columns_wrap z.columns (F (nat_abs q)) (pos j +ℤ q))
  unfolding sum_span
  by-offsets F zero apart = near-0 z j F j< ∙ sym (offset-0 z.columns_wrap z.columns j (F 0) j<)
  by-offsets F (suc r) apart =
      near-more z j F j< r apart
      ∙ ap₂ ◌+ℤ◌ (by-offsets F r (λ t. omega (arith, apart t))) (at-distance-some z (suc r) j (F (suc r)) (omega arith) ∙ both-offsets z.columns_wrap z.columns j r (F (suc r)) j< apart)

  -- "the cell (i+1+d(q), j+q) enters and the cell (i-d(q), j+q) leaves", once for each q
  pub change-offsets : (P : ℕ → ℕ → ℤ) (o : Slanted) (i : ℕ) → Apart z (width (slanted o)) →
      work_change z P (slanted o) i j ≡ sum_span (width (slanted o)) (λ q. beyond z.columns_wrap z.columns (enter_leave z P i (depth (slanted o) (nat_abs q))) (pos j +ℤ q))
  unfolding work_change
  change-offsets P o i apart = by-offsets (λ d. enter_leave z P i (depth (slanted o) d)) (width (slanted o)) apart

  -- the sum "over columns j-b to j+b" of a rectangle's work area
  pub output-offsets : (work : List ℤ) (b : ℕ) → Apart z b →
      sum_to z.columns (λ n. pick (leb (column_gap z j n) b) (get_or work n (pos 0))) ≡ sum_span b (λ q. beyond z.columns_wrap z.columns (λ n. get_or work n (pos 0)) (pos j +ℤ q))
  output-offsets work b apart = round-offsets z.columns_wrap z.columns j b (λ n. get_or work n (pos 0)) j< apart

-- ---- where columns clip
module _ (z : Frame) (clips : z.columns_wrap ≡ false) where
  pub change-clipped : (P : ℕ → ℕ → ℤ) (o : Slanted) (i j : ℕ) →
      work_change z P (slanted o) i j ≡ sum_to z.columns (λ n. pick (leb (dist j n) (width (slanted o))) (enter_leave z P i (depth (slanted o) (dist j n)) n))
  unfolding work_change
  change-clipped P o i j = simp (gap-clipped z clips j)

  pub output-clipped : (a b : ℕ) (work : List ℤ) → output_row z (rectangle a b) work ≡ tabulate z.columns (λ j. wrap (sum_to z.columns (λ n. pick (leb (dist j n) b) (get_or work n (pos 0)))))
  unfolding output_row
  output-clipped a b work = simp (gap-clipped z clips)
