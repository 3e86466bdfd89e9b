-- The work area of the row at a position, and its output row, shape by shape.
-- Assumes nothing.
use mathlib.Core.Path.{◌≡◌, refl, sym, ◌∙◌, ap}
use Prim.Native.Nat.{ℕ, suc, ◌-◌, ◌≤◌, min}
use native.Mathlib.Omega.{arith}
use mathlib.Core.Bool.{true, false, true≢false}
use mathlib.Core.List.{List}
use lib.Dec.{leb}
use lib.ListN.{length}
use Rattle.std.specs.Prelude.{Option, None, Some, SomeIff}
use lib.IntN.{ℤ, ◌+ℤ◌}
use Rattle.numbers.specs.Grid.{tabulate}
use Rattle.numbers.specs.Sum.{sum_to, pick}
use Rattle.numbers.specs.Wrap.{wrap}
use Rattle.numbers.proofs.Writes.{at}
use Rattle.spec_picture.specs.declared.Frame.{Frame}
use Rattle.spec_picture.specs.Frame.{gap_of, Apart}
use Rattle.spec_picture.specs.Window.{Shape, rectangle, slanted, shape_of, is_rectangle, height, width}
use Rattle.spec_picture.specs.Picture.{Inputs, plane_at}
use Rattle.spec_picture.specs.Direct.{direct_sum}
use Rattle.spec_rows.specs.Rows.{column_sum, enter_leave, work_value, work_change, work_after, output_row}
use Rattle.row_steps.specs.Edges.{edges_to}
use Rattle.row_loops.specs.SlidingSums.{neighbour_sum}
use Rattle.row_steps.proofs.EdgeRows.{edges_are}

-- ---- the work area
-- the row above a position, if there is one
pub no-row : (o : Option ℕ) (position : ℕ) → SomeIff o (1 ≤ position) (position - 1) → o ≡ None → position ≡ 0
no-row None position s e = omega (arith, s)
no-row (Some i) position s e = cc

pub row-above : (o : Option ℕ) (position i : ℕ) → SomeIff o (1 ≤ position) (position - 1) → o ≡ Some i → position ≡ suc i
row-above None position i s e = cc
row-above (Some j) position i s e =
    let same : j ≡ i = cc in
    omega (arith, s.0, s.1, same)

module _ (z : Frame) (P : ℕ → ℕ → ℤ) (work out : List ℤ) where
  pub area-rectangle-first : (s : Shape) (position a : ℕ) → is_rectangle s ≡ true → a ≡ height s → position ≡ 0 →
      out ≡ tabulate z.columns (column_sum z P a 0) → out ≡ work_after z P s position work
  unfolding height work_after work_value
  area-rectangle-first (rectangle a b) position c e h p o = rw (p, work_after, ← h) o
  area-rectangle-first (slanted o) position c e h p q = absurd (true≢false (sym e))

  pub area-rectangle-next : (s : Shape) (position i a : ℕ) → is_rectangle s ≡ true → a ≡ height s → position ≡ suc i →
      out ≡ tabulate z.columns (λ j. wrap (at work j +ℤ enter_leave z P i a j)) → out ≡ work_after z P s position work
  unfolding height work_after work_change
  area-rectangle-next (rectangle a b) position i c e h p o = rw (p, ← h) o
  area-rectangle-next (slanted o) position i c e h p q = absurd (true≢false (sym e))

  pub area-slanted-next : (s : Shape) (position i : ℕ) → is_rectangle s ≡ false → Apart z (width s) → position ≡ suc i →
      out ≡ edges_to z P s i work (min (suc (width s)) z.columns) → out ≡ work_after z P s position work
  area-slanted-next (rectangle a b) position i e fits p o = absurd (true≢false e)
  area-slanted-next (slanted s) position i e fits p o = rw p (edges_are z P s i work out fits o)

pub area-slanted-first : (x : Inputs) (work out : List ℤ) (position : ℕ) → is_rectangle (shape_of x.window) ≡ false → position ≡ 0 →
    out ≡ tabulate x.source.frame.columns (direct_sum x 0) → out ≡ work_after x.source.frame (plane_at x.source) (shape_of x.window) position work
unfolding direct_sum
area-slanted-first x work out position e p o = o ∙ go (shape_of x.window) e ∙ ap (λ (k : ℕ). work_after x.source.frame (plane_at x.source) (shape_of x.window) k work) (sym p)
  where
    go : (s : Shape) → is_rectangle s ≡ false → tabulate x.source.frame.columns (Rattle.spec_picture.specs.Direct.window_sum x.source.frame s (plane_at x.source) 0) ≡ work_after x.source.frame (plane_at x.source) s 0 work
    go (rectangle a b) e = absurd (true≢false e)
    go (slanted s) e = unfold work_after work_value in refl

-- ---- the output row
-- a rectangle's output row is the sums of the work area's neighbours
output-near : (z : Frame) (a b : ℕ) (work : List ℤ) → length work ≡ z.columns → tabulate (length work) (neighbour_sum z.columns_wrap work b) ≡ output_row z (rectangle a b) work
unfolding output_row
output-near z a b work e = ap (λ (n : ℕ). tabulate n (λ j. wrap (sum_to n (λ k. pick (leb (gap_of z.columns_wrap n j k) b) (at work k))))) e

pub output-rectangle : (z : Frame) (s : Shape) (b : ℕ) (work out : List ℤ) → is_rectangle s ≡ true → b ≡ width s → length work ≡ z.columns →
    out ≡ tabulate (length work) (neighbour_sum z.columns_wrap work b) → out ≡ output_row z s work
unfolding width
output-rectangle z (rectangle a c) b work out e h l o = o ∙ ap (λ (k : ℕ). tabulate (length work) (neighbour_sum z.columns_wrap work k)) h ∙ output-near z a c work l
output-rectangle z (slanted s) b work out e h l o = absurd (true≢false (sym e))
