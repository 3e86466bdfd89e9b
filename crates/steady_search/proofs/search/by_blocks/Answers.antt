-- `steady_search::search::by_blocks` meets its contract. Assumes nothing.
use mathlib.Core.Path.{◌≡◌, sym, ap, ◌∙◌}
use Prim.Native.Nat.{ℕ, ◌+◌, ◌-◌, ◌*◌, ◌≤◌, ◌<◌}
use native.Mathlib.Omega.{arith}
use Rattle.spec_picture.proofs.Found.{limits, checked}
use Rattle.spec_picture.specs.Answers.{option_of}
use Rattle.spec_picture.specs.Checked.{checked_inputs}
use Rattle.spec_picture.specs.Picture.{Inputs}
use Rattle.row_session.specs.Blocks.{rows_in}
use Rattle.row_session.proofs.BlockSums.{block-fits, ready-after}
use Rattle.steady_search.proofs.Places.{no_row}
use Rattle.steady_search.proofs.Searching.{steady_at, steady_from, whole-search, found-within}
use Rattle.steady_search.proofs.Voices.{RowsHeard, rows-possible}
use Rattle.steady_search.proofs.BlockRows.{blocks-voice_of_sums, in_block, after-block}
use Rattle.steady_search.proofs.search.by_blocks.Goals.{After-high}
use Rattle.steady_search.proofs.search.by_blocks.Goals as goal

-- in the block of m rows from row i on
module _ (c : After-high) where
  abbrev x : Inputs
  x = checked_inputs c.args.inputs.now

  abbrev i : ℕ
  i = 16 * c.loop-block.block

  abbrev m : ℕ
  m = c.high.result - i

  below : i < x.source.frame.rows
  below = omega (arith, c.loop-block-test.true, c.div_ceil-block-end.ensures)

  rows : m ≡ rows_in x i
  rows = rw c.high.ensures

  voice_of_sums : RowsHeard x i m c.next_block.new.block c.next_block-in-loop-block.new.block c.next_block-in-loop-block-2.new.block
  voice_of_sums = blocks-voice_of_sums x _ _ _ c.on_plane-ones.ensures c.on_plane-levels.ensures c.on_plane-level_squares.ensures i m rows c.next_block.ensures c.next_block-in-loop-block.ensures c.next_block-in-loop-block-2.ensures

pub loop-block-init : goal.loop-block-init
loop-block-init c = record { same = whole-search (checked_inputs c.args.inputs.now); counts = tt; totals = tt; squares = tt }

pub first_steady_cell-requires : goal.first_steady_cell-requires
first_steady_cell-requires c =
    let b = (goal.at.first_steady_cell-requires c).After-high in
    let checks = checked c.args.inputs.now in
    let fits = block-fits (x b) checks (m b) (omega (arith, c.high.ensures)) in
    record { few = fits; room_n = omega arith; room_s = omega arith; room_a = omega arith; possible = rows-possible (x b) (i b) (m b) _ _ _ (voice_of_sums b) checks }

pub overflow_add-result : goal.overflow_add-result
overflow_add-result c =
    let inside = found-within _ _ _ _ _ (sym c.first_steady_cell.ensures ∙ ap option_of c.in-Some.is) in
    let limit = limits c.args.inputs.now.source in
    record { fits = omega (arith, inside, c.high.ensures, c.loop-block-test.true, c.div_ceil-block-end.ensures, limit.few_rows) }

pub returns-in-Some : goal.returns-in-Some
returns-in-Some c =
    let b = (goal.at.returns-in-Some c).After-high in
    sym (in_block (x b) (i b) (m b) (below b) (rows b) _ _ _ (voice_of_sums b) (option_of c.first_steady_cell.result) c.first_steady_cell.ensures _ (ap option_of c.in-Some.is)) ∙ c.loop-block.invariant.same

pub loop-block-preserved : goal.loop-block-preserved
loop-block-preserved c =
    let b = (goal.at.loop-block-preserved c).After-high in
    let l = c.loop-block in
    let on : i b + 16 ≡ 16 * (l.block + 1) = omega arith in
    let later = after-block (x b) (i b) (m b) (below b) (rows b) _ _ _ (voice_of_sums b) (option_of c.first_steady_cell.result) c.first_steady_cell.ensures (ap option_of c.in_default.is) in
    record {
      same = sym (later ∙ ap (steady_from (x b)) on) ∙ l.invariant.same;
      counts = ready-after c.next_block.ensures _ on;
      totals = ready-after c.next_block-in-loop-block.ensures _ on;
      squares = ready-after c.next_block-in-loop-block-2.ensures _ on;
    }

pub returns : goal.returns
returns c =
    let x : Inputs = checked_inputs c.args.inputs.now in
    let l = c.loop-block in
    let end : x.source.frame.rows ≤ 16 * l.block = omega (arith, c.loop-block-test.false, c.div_ceil-block-end.ensures) in
    sym (no_row (steady_at x) x.source.frame.columns (16 * l.block) x.source.frame.rows end) ∙ l.invariant.same
