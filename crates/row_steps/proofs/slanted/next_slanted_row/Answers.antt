-- `row_steps::slanted::next_slanted_row` meets its contract. Assumes nothing.
use mathlib.Core.Path.{◌≡◌, ap, ◌∙◌}
use Prim.Native.Nat.{ℕ, suc, ◌+◌, min}
use native.Mathlib.Omega.{arith}
use Rattle.spec_picture.proofs.Found.{limits}
use Rattle.spec_picture.specs.Window.{shape_of, width}
use Rattle.spec_picture.specs.Checked.{given}
use Rattle.spec_picture.proofs.Windows.{depth_small}
use Rattle.row_steps.specs.Edges.{edges_to}
use Rattle.row_steps.proofs.EdgeRows.{edges-1, later-none, later_more, later-length, later-wrapped, later-all}
use Rattle.row_steps.proofs.slanted.next_slanted_row.Goals as goal

pub high-end-requires : goal.high-end-requires
high-end-requires c = omega (arith, (limits c.args.inputs.now.source).some_columns)

pub enter_and_leave_at-requires : goal.enter_and_leave_at-requires
enter_and_leave_at-requires c =
    record {
      row = omega (arith, c.requires.row, (limits c.args.inputs.now.source).few_rows);
      distance = rw c.depth.ensures (depth_small (given c.args.inputs.now.window) c.args.inputs.now.window.legal _);
      room = c.requires.room_work;
    }

pub loop-c-init : goal.loop-c-init
loop-c-init c = (
  omega arith,
  omega (arith, c.high-end.ensures, (limits c.args.inputs.now.source).some_columns),
  c.requires.room,
  later-none _ _ _ _ _ _ (edges-1 _ _ _ _ _ _ _ c.depth.ensures c.enter_and_leave_at.ensures),
)

pub edge-requires : goal.edge-requires
edge-requires c =
    let l = c.loop-c in
    record {
      step = record {
        row = c.requires.row;
        room_work = later-length _ _ _ _ c.args.work.now _ _ _ l.invariant.3;
        room = l.invariant.2;
      };
      some = l.invariant.0;
      few = omega (arith, c.loop-c-test.true, c.high-end.ensures);
      wrapped = later-wrapped _ _ _ _ c.args.work.now _ _ _ l.invariant.3;
    }

pub loop-c-preserved : goal.loop-c-preserved
loop-c-preserved c =
    let l = c.loop-c in (
      omega arith,
      omega (arith, c.loop-c-test.true),
      c.edge.auto.row ∙ l.invariant.2,
      later_more _ _ _ _ c.args.work.now _ l.c _ _ l.invariant.0 l.invariant.3 c.edge.ensures,
    )

pub returns : goal.returns
returns c =
    let l = c.loop-c in
    let z = c.args.inputs.now.source.frame in
    let s = shape_of (given c.args.inputs.now.window) in
    let end : l.c ≡ min (suc (0 + width s)) z.columns = omega (arith, l.invariant.1, c.loop-c-test.false) ∙ c.high-end.ensures ∙ ap (λ (w : ℕ). min (suc (0 + w)) z.columns) c.width.ensures in
    let same : suc (0 + width s) ≡ suc (width s) = omega arith in
    later-all _ _ _ _ _ _ _ _ (edges-1 _ _ _ _ _ _ _ c.depth.ensures c.enter_and_leave_at.ensures) l.invariant.0 l.invariant.3
    ∙ ap (edges_to z _ s c.args.i c.args.work.now) (end ∙ ap (λ (m : ℕ). min m z.columns) same)
