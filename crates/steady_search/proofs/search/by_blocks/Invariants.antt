-- What the loops of `steady_search::search::by_blocks` keep. Assumes nothing.
use mathlib.Core.Path.{◌≡◌}
use Prim.Native.Nat.{◌*◌}
use Rattle.spec_picture.specs.Checked.{checked_inputs}
use Rattle.spec_smoothing.specs.Steady.{first_steady}
use Rattle.row_session.specs.Blocks.{ready}
use Rattle.steady_search.proofs.Searching.{steady_from}
use Rattle.steady_search.proofs.search.by_blocks.Given as goal

-- no cell above the block is steady, and the work areas are ready for it
abbrev pub invariant-loop-block : goal.invariant-loop-block
invariant-loop-block l = record {
  same : steady_from (checked_inputs l.inputs) (16 * l.block) ≡ first_steady (checked_inputs l.inputs);
  counts : ready (checked_inputs l.ones) (16 * l.block) l.counts;
  totals : ready (checked_inputs l.levels) (16 * l.block) l.totals;
  squares : ready (checked_inputs l.level_squares) (16 * l.block) l.squares;
}
