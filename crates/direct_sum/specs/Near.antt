-- The sum of the columns near a column, and what it requires.
-- Assumes nothing.
use Rattle.std.specs.Prelude.{◌≡◌, ℕ, ◌<◌, ◌≤◌, ◌+◌, leb, true, false, ℤ}
use Rattle.numbers.specs.Sum.{sum_to, pick}
use Rattle.numbers.specs.Wrap.{wrap}
use Rattle.spec_picture.specs.declared.Frame.{Frame}
use Rattle.spec_picture.specs.declared.Shift.{Shift}
use Rattle.spec_picture.specs.Frame.{column_gap, Apart}
use Rattle.spec_picture.specs.Picture.{Source, plane_at}
use Rattle.plane_rows.specs.declared.overlaps.overlap.Overlap.{Overlap}
use Rattle.plane_rows.specs.declared.columns.Columns.{Columns}
use Rattle.plane_rows.specs.Columns.{Stretch}

-- the wrapped sum of row m over the columns at most r from column j
abbrev pub near_row : Source → (j r m : ℕ) → ℤ
near_row x j r m = wrap (sum_to x.frame.columns (λ n. pick (leb (column_gap x.frame j n) r) (plane_at x m n)))

-- a column of a picture, and how far a row of a window goes to both sides, which does not meet itself
pub record NearRequires (z : Frame) (column reach : ℕ) : Type 0 where
  pub few : z.columns ≤ 1024
  pub inside : column < z.columns
  pub short : reach ≤ 127
  pub apart : Apart z reach

-- the columns at most r from column j are in the stretch
pub record Around (stretch : Overlap) (j r : ℕ) : Type 0 where
  pub from : stretch.first + r ≤ j
  pub upto : j + r < stretch.end

-- a stretch that has all counting columns at most r from column j: where columns clip the one that there is, and where they wrap one that has all columns there
pub record StretchOf (z : Frame) (d : Shift) (columns : Columns) (stretch : Overlap) (j r : ℕ) : Type 0 where
  pub counting : Stretch z d stretch
  pub only : z.columns_wrap ≡ false → stretch ≡ columns.along
  pub around : z.columns_wrap ≡ true → Around stretch j r
