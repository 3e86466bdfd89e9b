-- What the loop of `table::fill::fill_table` keeps. Assumes nothing.
use mathlib.Core.Path.{◌≡◌}
use Prim.Native.Nat.{◌*◌, ◌≤◌}
use lib.ListN.{length}
use Rattle.numbers.proofs.Lines.{Lines}
use Rattle.spec_picture.specs.Picture.{plane_at}
use Rattle.spec_picture.specs.Checked.{checked_source}
use Rattle.spec_table.specs.Table.{table_at}
use Rattle.table.proofs.fill.fill_table.Given as goal

abbrev pub invariant-loop-i : goal.invariant-loop-i
invariant-loop-i l = record {
  below : 1 ≤ l.i;
  within : l.i ≤ l.source.frame.rows;
  buffer : length l.levels ≡ 1024;
  full : length l.table ≡ l.source.frame.rows * l.columns;
  lines : Lines (table_at (plane_at (checked_source l.source))) l.columns l.table l.i;
}
