-- `row_session::blocks::next_block` meets its contract. Assumes nothing.
use mathlib.Core.Path.{◌∙◌}
use Prim.Native.Nat.{◌-◌, ◌*◌, ◌≤◌}
use native.Mathlib.Omega.{arith}
use lib.Seq.{length-take-le}
use Rattle.spec_picture.proofs.Found.{limits, checked}
use Rattle.spec_picture.specs.Checked.{checked_inputs}
use Rattle.row_session.proofs.BlockSums.{block-fits, block_made}
use Rattle.row_session.proofs.blocks.next_block.Goals.{After-high}
use Rattle.row_session.proofs.blocks.next_block.Goals as goal

fits : (c : After-high) → (c.high.result - c.args.i) * c.args.inputs.now.source.frame.columns ≤ 16384
fits c = block-fits (checked_inputs c.args.inputs.now) (checked c.args.inputs.now) (c.high.result - c.args.i) (omega (arith, c.high.ensures))

pub slice_bounds-next_rows-end : goal.slice_bounds-next_rows-end
slice_bounds-next_rows-end c = (limits c.args.inputs.now.source).few_columns

pub overflow_mul-n : goal.overflow_mul-n
overflow_mul-n c = record { fits = omega (arith, fits (goal.at.overflow_mul-n c).After-high) }

pub slice_bounds-next_rows-end-3 : goal.slice_bounds-next_rows-end-3
slice_bounds-next_rows-end-3 c = fits (goal.at.slice_bounds-next_rows-end-3 c).After-high

pub returns : goal.returns
returns c =
    let i = c.args.i in
    let n = c.high.result - i in
    let many = c.next_rows in
    let narrow = (limits c.args.inputs.now.source).few_columns in
    let room = fits (goal.at.returns c).After-high in
    block_made (checked_inputs c.args.inputs.now) (checked c.args.inputs.now) i n c.args.work.now many.new.work c.args.block.now many.new.out (rw c.high.ensures) c.requires.row c.requires.before many.ensures
    (omega arith) (many.auto.work ∙ length-take-le _ _ (omega arith)) (omega arith) (many.auto.out ∙ length-take-le _ _ (omega arith))
