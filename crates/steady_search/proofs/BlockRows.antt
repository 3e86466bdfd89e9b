-- The search in a block of rows: where it finds no cell it goes on after the block.
-- Assumes nothing.
use mathlib.Core.Path.{◌≡◌, sym, ◌∙◌, ap}
use mathlib.Core.List.{List}
use mathlib.Core.Option.{Option, none, some}
use Prim.Native.Nat.{ℕ, ◌+◌, ◌-◌, ◌≤◌, ◌<◌}
use native.Mathlib.Omega.{arith}
use native.Mathlib.Decide.{dec_lt}
use lib.IntN.{ℤ}
use Rattle.spec_picture.specs.declared.Cell.{Cell}
use Rattle.spec_picture.specs.Frame.{cell}
use Rattle.spec_picture.specs.Picture.{Inputs}
use Rattle.spec_statistics.specs.SixSums.{on_plane}
use Rattle.spec_smoothing.specs.Steady.{find_cell}
use Rattle.row_session.specs.Blocks.{rows_in, Block}
use Rattle.row_session.proofs.BlockSums.{block_sums}
use Rattle.steady_search.proofs.Places.{no_row}
use Rattle.steady_search.specs.SteadyCells.{steady_in}
use Rattle.steady_search.proofs.Voices.{RowsHeard, rows-steady}
use Rattle.steady_search.proofs.Searching.{steady_at, steady_from, rows-passed, rows-found}

-- the rows of the three blocks that begin at row i, where y, z and q are x on the three planes, as the code has it
pub blocks-voice_of_sums : (x y z q : Inputs) → y ≡ on_plane x 0 → z ≡ on_plane x 1 → q ≡ on_plane x 3 → (i m : ℕ) → m ≡ rows_in x i → {counts totals squares n s a : List ℤ} →
    Block y i counts n → Block z i totals s → Block q i squares a → RowsHeard x i m n s a
blocks-voice_of_sums x y z q ey ez eq i m m-is by bz bq = record {
  counted = block_sums (on_plane x 0) y ey i m m-is by;
  summed = block_sums (on_plane x 1) z ez i m m-is bz;
  squared = block_sums (on_plane x 3) q eq i m m-is bq;
}

module _ (x : Inputs) (i m : ℕ) (below : i < x.source.frame.rows) (m-is : m ≡ rows_in x i) where
  within : i + m ≤ x.source.frame.rows
  within = omega (arith, m-is, below)

  rest : x.source.frame.rows - i ≡ m + (x.source.frame.rows - (i + m))
  rest = omega (arith, within)

  -- 16 rows further on
  same-after : steady_from x (i + m) ≡ steady_from x (i + 16)
  same-after = go (dec_lt (i + 16) x.source.frame.rows)
    where
      go : Dec (i + 16 < x.source.frame.rows) → steady_from x (i + m) ≡ steady_from x (i + 16)
      go (yes h) =
          let full : m ≡ 16 = omega (arith, h, m-is) in
          ap (λ (k : ℕ). steady_from x (i + k)) full
      go (no h) =
          let last : x.source.frame.rows ≤ i + m = omega (arith, h, m-is) in
          no_row (steady_at x) x.source.frame.columns (i + m) x.source.frame.rows last ∙ sym (no_row (steady_at x) x.source.frame.columns (i + 16) x.source.frame.rows (omega (arith, h)))

  module _ (n s a : List ℤ) (h : RowsHeard x i m n s a) (o : Option Cell) (first : o ≡ find_cell (steady_in x.source.frame.columns n s a) x.source.frame.columns 0 m) where
    in-rows : o ≡ find_cell (λ r. steady_at x (i + r)) x.source.frame.columns 0 m
    in-rows = first ∙ rows-steady x i m n s a h

    pub in_block : (at : Cell) → o ≡ some at → steady_from x i ≡ some (cell (i + at.row) at.column)
    in_block at e = rows-found (steady_at x) x.source.frame.columns i m x.source.frame.rows rest at (sym in-rows ∙ e)

    pub after-block : o ≡ none → steady_from x i ≡ steady_from x (i + 16)
    after-block e = rows-passed (steady_at x) x.source.frame.columns i m x.source.frame.rows rest (sym in-rows ∙ e) ∙ same-after
