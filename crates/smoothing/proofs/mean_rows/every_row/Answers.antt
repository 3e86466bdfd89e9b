-- `smoothing::mean_rows::every_row` meets its contract. Assumes nothing.
use mathlib.Core.Path.{◌≡◌, refl, ◌∙◌, ap, subst}
use Prim.Native.Nat.{ℕ, ◌+◌, ◌-◌, ◌*◌, ◌≤◌, min}
use native.Mathlib.Omega.{arith}
use lib.ListN.{length, take, drop}
use Rattle.numbers.specs.Grid.{grid}
use Rattle.numbers.proofs.Lines.{Lines, lines-all}
use Rattle.numbers.proofs.Writes.{part_length}
use Rattle.spec_picture.proofs.Found.{checked}
use Rattle.spec_picture.specs.Checked.{checked_inputs}
use Rattle.spec_picture.specs.Picture.{Inputs}
use Rattle.spec_statistics.specs.SixSums.{on_plane, six_sums}
use Rattle.spec_statistics.specs.Moments.{mean}
use Rattle.spec_smoothing.specs.Smoothing.{smoothed}
use Rattle.row_session.specs.Blocks.{RowSums}
use Rattle.row_session.proofs.BlockSums.{block-fits, block_sums, ready-after}
use Rattle.smoothing.proofs.BlockLines.{put-lines, lent-length}
use Rattle.smoothing.proofs.BlockMeans.{block-end, block-required, block-mean}
use Rattle.smoothing.proofs.mean_rows.every_row.Goals.{After-high}
use Rattle.smoothing.proofs.mean_rows.every_row.Goals as goal

-- in the block of m rows from row i on
module _ (c : After-high) where
  abbrev x : Inputs
  x = checked_inputs c.args.inputs.now

  abbrev i : ℕ
  i = 16 * c.loop-block.block

  abbrev m : ℕ
  m = c.high.result - i

  abbrev start : ℕ
  start = i * x.source.frame.columns

  abbrev end : ℕ
  end = start + m * x.source.frame.columns

  within : i + m ≤ x.source.frame.rows
  within = omega (arith, c.high.ensures, c.loop-block-test.true, c.div_ceil-block-end.ensures)

  ends : end ≤ length c.loop-block.out
  ends = omega (arith, c.loop-block.invariant.full, block-end x i m within)

  fits : m * x.source.frame.columns ≤ 16384
  fits = block-fits x (checked c.args.inputs.now) m (omega (arith, c.high.ensures))

  counted : RowSums (on_plane x 0) i m c.next_block.new.block
  counted = block_sums (on_plane x 0) _ c.on_plane-ones.ensures i m (rw c.high.ensures) c.next_block.ensures

  summed : RowSums (on_plane x 1) i m c.next_block-in-loop-block.new.block
  summed = block_sums (on_plane x 1) _ c.on_plane-levels.ensures i m (rw c.high.ensures) c.next_block-in-loop-block.ensures

  room : length (take (end - start) (drop start c.loop-block.out)) ≡ m * x.source.frame.columns
  room = lent-length start (m * x.source.frame.columns) c.loop-block.out ends

pub slice_bounds-row_means-end-in-loop-block-2 : goal.slice_bounds-row_means-end-in-loop-block-2
slice_bounds-row_means-end-in-loop-block-2 c = ends (goal.at.slice_bounds-row_means-end-in-loop-block-2 c).After-high

pub row_means-requires : goal.row_means-requires
row_means-requires c =
    let b = (goal.at.row_means-requires c).After-high in
    let few = fits b in
    block-required (x b) (checked c.args.inputs.now) c.requires.alone (i b) (m b) (within b) _ _ _ (counted b) (summed b) (room b) (omega arith) (omega arith)

pub loop-block-preserved : goal.loop-block-preserved
loop-block-preserved c =
    let b = (goal.at.loop-block-preserved c).After-high in
    let z = (x b).source.frame in
    let f = λ (i j : ℕ). mean (six_sums (x b) i j) in
    let l = c.loop-block in
    let part = c.row_means.new.out in
    let written = c.row_means.auto.out ∙ room b in
    let above : min (i b) z.rows ≡ i b = omega (arith, within b) in
    let below : i b + m b ≡ min (16 * (l.block + 1)) z.rows = omega (arith, c.high.ensures, within b) in
    let span : m b * z.columns ≡ end b - start b = omega arith in
    let rows = block-mean (x b) (checked c.args.inputs.now) c.requires.alone (i b) (m b) (within b) _ _ _ (counted b) (summed b) (room b) part c.row_means.ensures in
    record {
      written = subst (Lines f z.columns _) below (put-lines f z.columns (i b) (m b) (start b) (end b) l.out part (rw above at l.invariant.written) refl refl (ends b) written rows);
      full = part_length (start b) (end b) l.out part (omega arith) (ends b) (written ∙ span) ∙ l.invariant.full;
      counts = ready-after c.next_block.ensures _ (omega arith);
      totals = ready-after c.next_block-in-loop-block.ensures _ (omega arith);
    }

pub returns : goal.returns
unfolding smoothed
returns c =
    let z = c.args.inputs.now.source.frame in
    let l = c.loop-block in
    let all : min (16 * l.block) z.rows ≡ z.rows = omega (arith, c.loop-block-test.false, c.div_ceil-block-end.ensures) in
    lines-all (λ i j. mean (six_sums (checked_inputs c.args.inputs.now) i j)) z.columns l.out z.rows (rw all at l.invariant.written) l.invariant.full
    ∙ ap (λ (x : Inputs). grid z.rows z.columns (λ i j. mean (six_sums x i j))) c.requires.alone
