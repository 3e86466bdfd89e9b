-- A part of a row of a plane, and what the functions of level rows require.
-- Assumes nothing.
use Rattle.std.specs.Prelude.{◌≡◌, ℕ, ◌+◌, ◌≤◌, ◌<◌, List, length, get_or, ℤ, pos}
use Rattle.spec_picture.specs.declared.Frame.{Frame}
use Rattle.spec_picture.specs.declared.Shift.{Shift}
use Rattle.plane_rows.specs.declared.overlaps.overlap.Overlap.{Overlap}
use Rattle.plane_rows.specs.Columns.{Stretch}

-- a list of the cells of row m of a plane from column `start` up to `end`
pub record Cells (P : ℕ → ℕ → ℤ) (m start end : ℕ) (l : List ℤ) : Type 0 where
  pub size : start + length l ≡ end
  pub same : (k : ℕ) → k < length l → get_or l k (pos 0) ≡ P m (start + k)

-- columns from `start` up to `end` of a stretch of columns that all count
pub record AllCount (z : Frame) (d : Shift) (stretch : Overlap) (start end : ℕ) : Type 0 where
  pub counting : Stretch z d stretch
  pub from : stretch.first ≤ start
  pub ordered : start ≤ end
  pub upto : end ≤ stretch.end
