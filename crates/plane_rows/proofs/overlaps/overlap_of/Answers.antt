-- `plane_rows::overlaps::overlap_of` meets its contract. Assumes nothing.
use mir.Facts.{to_z-of_z}
use Rattle.plane_rows.proofs.OverlapLaws.{overlap-none, overlap-before, overlap-after}
use Rattle.plane_rows.proofs.overlaps.overlap_of.Goals as goal

pub returns-then-n-far : goal.returns-then-n-far
returns-then-n-far c = overlap-none _ _ _ (simp (to_z-of_z, c.ranges.by) at c.unsigned_abs-far.ensures.value) c.if-n-far.true _

pub returns-then-by-lt0 : goal.returns-then-by-lt0
returns-then-by-lt0 c =
    overlap-before _ _ _ (simp (to_z-of_z, c.ranges.by) at c.unsigned_abs-far.ensures.value) c.if-n-far.false
    (simp (to_z-of_z, c.ranges.by) at c.if-by-lt0.true) _

pub returns : goal.returns
returns c =
    overlap-after _ _ _ (simp (to_z-of_z, c.ranges.by) at c.unsigned_abs-far.ensures.value) c.if-n-far.false
    (simp (to_z-of_z, c.ranges.by) at c.if-by-lt0.false) _
