-- What the loops of `smoothing::mean_rows::every_row` keep. Assumes nothing.
use mathlib.Core.Path.{◌≡◌}
use Prim.Native.Nat.{◌*◌, min}
use lib.ListN.{length}
use Rattle.numbers.proofs.Lines.{Lines}
use Rattle.spec_picture.specs.Frame.{cells}
use Rattle.spec_picture.specs.Checked.{checked_inputs}
use Rattle.spec_statistics.specs.SixSums.{six_sums}
use Rattle.spec_statistics.specs.Moments.{mean}
use Rattle.row_session.specs.Blocks.{ready}
use Rattle.smoothing.proofs.mean_rows.every_row.Given as goal

-- the means of the rows above the block, and the work areas ready for it
abbrev pub invariant-loop-block : goal.invariant-loop-block
invariant-loop-block l = record {
  written : Lines (λ i j. mean (six_sums (checked_inputs l.inputs) i j)) l.inputs.source.frame.columns l.out (min (16 * l.block) l.inputs.source.frame.rows);
  full : length l.out ≡ cells l.inputs.source.frame;
  counts : ready (checked_inputs l.ones) (16 * l.block) l.counts;
  totals : ready (checked_inputs l.levels) (16 * l.block) l.totals;
}
