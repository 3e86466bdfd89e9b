-- `plane_rows::columns::remainder_of` meets its contract. Assumes nothing.
use mir.Facts.{to_z-of_z}
use Rattle.plane_rows.proofs.ColumnLaws.{remainder-before, remainder-after}
use Rattle.plane_rows.proofs.columns.remainder_of.Goals as goal

pub returns-then-by-lt0 : goal.returns-then-by-lt0
returns-then-by-lt0 c =
    remainder-before _ _ _ _ (simp (to_z-of_z, c.ranges.by) at c.unsigned_abs-far.ensures.value) (simp (to_z-of_z, c.ranges.by) at c.if-by-lt0.true) c.rest.ensures

pub returns : goal.returns
returns c = remainder-after _ _ _ _ (simp (to_z-of_z, c.ranges.by) at c.unsigned_abs-far.ensures.value) (simp (to_z-of_z, c.ranges.by) at c.if-by-lt0.false) c.rest-2.ensures
