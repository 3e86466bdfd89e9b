-- `table::fill::fill_table` meets its contract. Assumes nothing.
use borrow.Author.Rules.{rules}
use mathlib.Core.Path.{◌≡◌, refl, sym, ◌∙◌}
use Prim.Native.Nat.{ℕ, ◌≤◌}
use mathlib.Core.List.{[]}
use native.Mathlib.Omega.{arith}
use lib.Dec.{T}
use lib.ListN.{drop, length-append, length-drop}
use lib.Seq.{length-take-le}
use Rattle.numbers.proofs.Lines.{line-end, lines-all, tabulated-length}
use Rattle.spec_picture.specs.declared.Frame.{Frame}
use Rattle.spec_picture.specs.Frame.{frame_legal, cells}
use Rattle.spec_picture.specs.Picture.{plane_at}
use Rattle.spec_picture.specs.Checked.{checked_source}
use Rattle.spec_picture.proofs.Refusals.{in-limits}
use Rattle.spec_picture.proofs.Planes.{plane-bound}
use Rattle.spec_table.specs.Table.{table_at, table_of}
use Rattle.table.proofs.TableRows.{row-of-part, first-rows, next-rows}
use Rattle.table.proofs.fill.fill_table.Goals as goal

-- a row is at most the table
row-fits : (z : Frame) (n : ℕ) → T (frame_legal z) → n ≡ cells z → z.columns ≤ n
row-fits z n h e = omega (arith, e, line-end 0 z.rows z.columns (in-limits z h).some_rows)

pub slice_bounds-first-end : goal.slice_bounds-first-end
slice_bounds-first-end c = row-fits c.args.source.now.frame _ c.args.source.now.legal c.requires

pub slice_bounds-first-end-2 : goal.slice_bounds-first-end-2
slice_bounds-first-end-2 c = sym (length-take-le _ _ (row-fits c.args.source.now.frame _ c.args.source.now.legal c.requires))

pub plane_row-requires : goal.plane_row-requires
plane_row-requires c = omega (arith, length-take-le _ _ (row-fits c.args.source.now.frame _ c.args.source.now.legal c.requires))

pub slice_bounds-levels-end : goal.slice_bounds-levels-end
slice_bounds-levels-end c = omega (arith, (in-limits c.args.source.now.frame c.args.source.now.legal).few_columns, c.loop-i.invariant.buffer)

pub slice_bounds-table_row-end : goal.slice_bounds-table_row-end
slice_bounds-table_row-end c = sym (length-take-le _ _ (omega (arith, (in-limits c.args.source.now.frame c.args.source.now.legal).few_columns, c.loop-i.invariant.buffer)))

pub table_row-requires : goal.table_row-requires
table_row-requires c = record {
  inside = search rules;
  width_above = search rules;
  width_buffer = length-take-le _ _ (omega (arith, (in-limits c.args.source.now.frame c.args.source.now.legal).few_columns, c.loop-i.invariant.buffer));
  width = length-take-le _ _ (omega (arith, c.split_at_mut-before.ensures.back_len, c.loop-i.invariant.full, line-end c.loop-i.i c.args.source.now.frame.rows c.args.source.now.frame.columns (omega arith)));
}

pub loop-i-init : goal.loop-i-init
loop-i-init c =
    let source = c.args.source.now in
    let plane = checked_source source in
    let fits = row-fits source.frame _ source.legal c.requires in
    let lim = in-limits source.frame source.legal in
    let width = length-take-le source.frame.columns c.args.table.now fits in
    record {
      below = omega arith;
      within = lim.some_rows;
      buffer = refl;
      full = simp (length-append, length-drop) (omega (arith, c.first_row.auto.row, c.plane_row.auto.out, width, fits, c.requires));
      lines = first-rows (plane_at plane) (plane-bound plane source.levels_f source.levels_g) source.frame.columns lim.few_columns _ _ (row-of-part (plane_at plane) 0 refl [] _ _ c.plane_row.ensures c.first_row.ensures);
    }

pub loop-i-preserved : goal.loop-i-preserved
loop-i-preserved c =
    let source = c.args.source.now in
    let plane = checked_source source in
    let lim = in-limits source.frame source.legal in
    let l = c.loop-i in
    let parts = c.split_at_mut-before.ensures in
    record {
      below = omega arith;
      within = omega arith;
      buffer = length-append c.table_row.new.buffer (drop source.frame.columns l.levels) ∙ omega (arith, c.table_row.auto.buffer, length-take-le source.frame.columns l.levels (omega (arith, lim.few_columns, l.invariant.buffer)), length-drop source.frame.columns l.levels, lim.few_columns, l.invariant.buffer);
      full = simp (length-append, length-drop) (omega (arith, parts.front_len, parts.back_len, tabulated-length c.table_row.new.row _ _ c.table_row.ensures, l.invariant.full, line-end l.i source.frame.rows source.frame.columns (omega arith)));
      lines = next-rows (plane_at plane) (plane-bound plane source.levels_f source.levels_g) source.frame.columns lim.few_columns l.i l.table _ _ _
          l.invariant.below (omega (arith, lim.few_rows)) parts.front_len parts.front l.invariant.lines c.table_row.ensures;
    }

pub returns : goal.returns
unfolding table_of
returns c =
    let source = c.args.source.now in
    let e : c.loop-i.i ≡ source.frame.rows = omega arith in
    lines-all (table_at (plane_at (checked_source source))) source.frame.columns c.loop-i.table source.frame.rows (rw e at c.loop-i.invariant.lines) c.loop-i.invariant.full
