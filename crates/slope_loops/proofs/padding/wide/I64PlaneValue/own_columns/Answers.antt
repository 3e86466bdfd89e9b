-- `PlaneValue::own_columns` of i64 meets its contract. Assumes nothing.
use mathlib.Core.List.{map-id}
use Rattle.spec_picture.specs.Picture.{plane_at}
use Rattle.spec_picture.specs.Checked.{checked_source}
use Rattle.slope_loops.proofs.Rows.{lowered-above, lowered-row}
use Rattle.slope_loops.proofs.padding.wide.I64PlaneValue.own_columns.Goals as goal

pub returns-then-y-lt-ABOVE : goal.returns-then-y-lt-ABOVE
returns-then-y-lt-ABOVE c = lowered-above (plane_at (checked_source c.args.source.now)) c.args.y _ _ _ c.if-y-lt-ABOVE.true (rw (map-id c.args.out.now) at c.requires.1) c.fill.ensures

pub returns : goal.returns
returns c = lowered-row (plane_at (checked_source c.args.source.now)) c.args.y _ _ c.if-y-lt-ABOVE.false c.plane_row.ensures
