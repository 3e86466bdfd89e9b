-- What many rows require.
-- Lengths are required in each contract, for the reason at `row_steps/specs/RowStepRequires`.
-- Assumes nothing.
use Rattle.std.specs.Prelude.{◌≡◌, ℕ, ◌+◌, ◌*◌, ◌≤◌, List, length, ℤ}
use Rattle.spec_picture.specs.Picture.{Inputs}

-- rows of the picture from a position on, a work area, and an output area for those rows
pub record RowsRequires (x : Inputs) (position n : ℕ) (work out : List ℤ) : Type 0 where
  pub rows : position + n ≤ x.source.frame.rows
  pub room_work : length work ≡ x.source.frame.columns
  pub room : length out ≡ n * x.source.frame.columns

-- the same, and one row at least
pub record SomeRowsRequires (x : Inputs) (position n : ℕ) (work out : List ℤ) : Type 0 where
  pub many : RowsRequires x position n work out
  pub some : 1 ≤ n
