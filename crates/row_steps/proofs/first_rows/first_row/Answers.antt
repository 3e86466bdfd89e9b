-- `row_steps::first_rows::first_row` meets its contract. Assumes nothing.
use mathlib.Core.Path.{◌≡◌, refl, sym, ap, ◌∙◌}
use Prim.Native.Nat.{ℕ, suc, ◌+◌, min}
use native.Mathlib.Omega.{arith}
use lib.ListN.{length, drop, length-append, length-drop}
use lib.Seq.{length-take-le}
use Rattle.spec_picture.proofs.Found.{limits}
use Rattle.numbers.proofs.Grids.{length-tabulate}
use Rattle.spec_picture.specs.Window.{shape_of, height}
use Rattle.spec_picture.specs.Picture.{Source, plane_at}
use Rattle.spec_picture.specs.Checked.{given, checked_source}
use Rattle.spec_picture.specs.Direct.{direct_sum}
use Rattle.spec_picture.proofs.Planes.{plane-bound}
use Rattle.row_steps.proofs.Columns.{columns-none, columns-plus, windows-all}
use Rattle.row_steps.proofs.first_rows.first_row.Goals as goal

pub high-end-requires : goal.high-end-requires
high-end-requires c = omega (arith, (limits c.args.inputs.now.source).some_rows)

pub loop-m-init : goal.loop-m-init
loop-m-init c = (omega arith, c.requires.room, refl, columns-none _ _ _ _ c.requires.room_work c.fill.ensures)

pub slice_bounds-cells-end : goal.slice_bounds-cells-end
slice_bounds-cells-end c = omega (arith, (limits c.args.inputs.now.source).few_columns, c.loop-m.invariant.2)

pub slice_bounds-reaching-end : goal.slice_bounds-reaching-end
slice_bounds-reaching-end c = sym (length-take-le _ _ (omega (arith, (limits c.args.inputs.now.source).few_columns, c.loop-m.invariant.2)))

pub reaching-requires : goal.reaching-requires
reaching-requires c =
    let l = c.loop-m in
    record {
      step = record {
        row = omega (arith, c.loop-m-test.true, c.high-end.ensures);
        room_work = ap length l.invariant.3 ∙ length-tabulate _ _;
        room = l.invariant.1;
      };
      room = length-take-le _ _ (omega (arith, (limits c.args.inputs.now.source).few_columns, l.invariant.2));
    }

pub loop-m-preserved : goal.loop-m-preserved
loop-m-preserved c =
    let l = c.loop-m in
    let call = c.reaching in (
      omega (arith, c.loop-m-test.true),
      call.auto.row ∙ l.invariant.1,
      length-append call.new.cells (drop c.args.inputs.now.source.frame.columns l.cells) ∙ omega (arith, call.auto.cells, length-take-le c.args.inputs.now.source.frame.columns l.cells (omega (arith, (limits c.args.inputs.now.source).few_columns, l.invariant.2)), length-drop c.args.inputs.now.source.frame.columns l.cells, (limits c.args.inputs.now.source).few_columns, l.invariant.2),
      columns-plus _ _ l.m _ _ l.invariant.3 call.ensures,
    )

pub returns : goal.returns
unfolding direct_sum
returns c =
    let pictures : Source = checked_source c.args.inputs.now.source in
    let l = c.loop-m in
    let end : l.m ≡ min (suc (0 + height (shape_of (given c.args.inputs.now.window)))) c.args.inputs.now.source.frame.rows = omega (arith, l.invariant.0, c.loop-m-test.false) ∙ c.high-end.ensures ∙ ap (λ (a : ℕ). min (suc (0 + a)) c.args.inputs.now.source.frame.rows) c.height.ensures in
    windows-all c.args.inputs.now.source.frame (plane_at pictures) (limits c.args.inputs.now.source) (plane-bound pictures c.args.inputs.now.source.levels_f c.args.inputs.now.source.levels_g) (shape_of (given c.args.inputs.now.window)) l.m _ end l.invariant.3
