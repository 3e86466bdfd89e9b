-- `plane_rows::columns::columns_of` meets its contract. Assumes nothing.
use Rattle.std.proofs.Common.{arith, ◌≡◌}
use mir.Facts.{to_z-of_z}
use Rattle.spec_picture.specs.Frame.{remainder}
use Rattle.plane_rows.proofs.OverlapLaws.{by_shift}
use Rattle.plane_rows.proofs.ColumnLaws.{remainder-below, clip-columns, wrap-columns}
use Rattle.plane_rows.proofs.columns.columns_of.Goals as goal

pub returns-then-not-frame : goal.returns-then-not-frame
returns-then-not-frame c = clip-columns _ _ _ c.if-not-frame.true (by_shift c.ranges.by c.overlap_of-along.ensures) _

pub overflow_sub-seam : goal.overflow_sub-seam
overflow_sub-seam c =
    let e : c.remainder_of-ahead.result ≡ remainder c.args.frame.columns c.args.by = simp (to_z-of_z, c.ranges.by) at c.remainder_of-ahead.ensures in
    omega (arith, e, remainder-below c.args.frame.columns c.args.by c.requires)

pub returns : goal.returns
returns c = wrap-columns c.args.frame c.args.by _ c.if-not-frame.false c.requires (simp (to_z-of_z, c.ranges.by) at c.remainder_of-ahead.ensures) _ _
