-- The rows and the columns of a picture that count.
-- Assumes nothing.
use Rattle.spec_picture.specs.declared.Frame.{Frame}
use Rattle.spec_picture.specs.declared.Shift.{Shift}
use Rattle.plane_rows.specs.declared.overlaps.overlap.Overlap.{Overlap}
use Rattle.plane_rows.specs.declared.columns.Columns.{Columns}
use Rattle.plane_rows.specs.Overlaps.{Overlapping}
use Rattle.plane_rows.specs.Columns.{Wrapping}

pub record Counting (z : Frame) (d : Shift) (rows : Overlap) (columns : Columns) : Type 0 where
  pub by_row : Overlapping z.rows d.down rows
  pub by_column : Wrapping z d.right columns
