-- `slope_rows::edges::rows::rows_after` meets its contract. Assumes nothing.
use mathlib.Core.Path.{◌≡◌, refl, ◌∙◌}
use Rattle.spec_picture.proofs.Found.{limits}
use Rattle.std.proofs.Common.{rules}
use Prim.Native.Nat.{suc, ◌+◌, ◌-◌, ◌*◌, ◌≤◌}
use native.Mathlib.Omega.{arith}
use lib.ListN.{length}
use Rattle.numbers.proofs.Writes.{slice-length}
use Rattle.spec_picture.specs.Window.{shape_of}
use Rattle.spec_picture.specs.Checked.{given}
use Rattle.numbers.proofs.Lines.{line-end}
use Rattle.slope_rows.proofs.Kept.{slopes-begin, holds-begin}
use Rattle.slope_rows.specs.Edges.{plane_in, padded_in, side}
use Rattle.slope_rows.proofs.Advances.{passed-more}
use Rattle.spec_rows.proofs.Strips.{partly_none, partly-all}
use Rattle.slope_loops.specs.declared.padding.TheConstants.{ABOVE}
use Rattle.slope_rows.proofs.edges.rows.rows_after.Goals as goal

pub loop-m-init : goal.loop-m-init
loop-m-init g c =
    let x = c.args.slanted.now in
    let z = x.inputs.source.frame in (
      omega arith,
      refl,
      c.requires.many.room_work,
      partly_none z (plane_in x) (shape_of (given x.inputs.window)) (suc c.args.rows.row) c.args.work.now c.args.out.now,
      c.requires.rows,
      slopes-begin (padded_in x) z.columns _ _ _ c.args.rows.row _ _ c.requires.slopes,
      holds-begin z (side x) (padded_in x) _ c.args.rows.row _ c.requires.leaving,
    )

pub next_row-requires : goal.next_row-requires
next_row-requires g c =
    let x = c.args.slanted.now in
    let l = c.loop-m in
    let z = c.args.slanted.now.inputs.source.frame in
    let begin = l.m * z.columns in
    let ends : begin + z.columns ≤ length l.out = omega (arith, l.invariant.1, c.requires.many.room, line-end l.m c.args.rows.count z.columns c.loop-m-test.true) in
    let inside = c.loop-m-test.true in
    let span : begin + z.columns - begin ≡ z.columns = omega arith in (
      search rules,
      (
        search rules,
        record {
          plane = c.requires.plane;
          row = record {
            inside = omega (arith, c.requires.many.rows, inside);
            turn = omega (arith, c.requires.many.rows, inside, (limits c.args.slanted.now.inputs.source).few_rows);
            rows = l.invariant.4;
            slopes = l.invariant.5;
            room_work = l.invariant.2;
            room = slice-length begin (begin + z.columns) l.out (omega arith) ends ∙ span;
          };
          leaving = l.invariant.6;
        },
      ),
    )

pub loop-m-preserved : goal.loop-m-preserved
loop-m-preserved g c =
    let x = c.args.slanted.now in
    let l = c.loop-m in
    let z = c.args.slanted.now.inputs.source.frame in
    let begin = l.m * z.columns in
    let ends : begin + z.columns ≤ length l.out = omega (arith, l.invariant.1, c.requires.many.room, line-end l.m c.args.rows.count z.columns c.loop-m-test.true) in
    let r = c.next_row.ensures.row in
    let leaves = c.next_row.ensures.leaving in
    let next : ABOVE + (c.args.rows.row + l.m) + 1 ≡ ABOVE + (c.args.rows.row + (l.m + 1)) = omega arith in (
      omega (arith, c.loop-m-test.true),
      omega arith,
      omega arith,
      passed-more x c.args.rows.row l.m begin c.args.work.now l.work l.out _ _ l.invariant.3 refl ends r.work_is r.output_is,
      r.rows,
      rw next at r.slopes,
      rw next at leaves,
    )

pub returns : goal.returns
returns g c =
    let x = c.args.slanted.now in
    let l = c.loop-m in
    partly-all x.inputs.source.frame (plane_in x) (shape_of (given x.inputs.window)) (suc c.args.rows.row) c.args.work.now c.args.rows.count l.m l.work l.out l.invariant.3 (omega (arith, l.invariant.0, c.loop-m-test.false)) (l.invariant.1 ∙ c.requires.many.room)

pub overflow_add-here : goal.overflow_add-here
overflow_add-here g c =
    record { fits = omega (arith, c.requires.many.rows, c.loop-m-test.true, (limits c.args.slanted.now.inputs.source).few_rows) }
