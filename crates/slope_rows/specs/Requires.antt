-- What the flat parts of an edge require.
-- Lengths are required in each contract, for the reason at `row_steps/specs/RowStepRequires`.
-- Assumes nothing.
use Rattle.std.specs.Prelude.{◌≡◌, ℕ, List, length, ℤ}
use Rattle.spec_picture.specs.declared.Frame.{Frame}
use Rattle.spec_picture.specs.Frame.{Apart}
use Rattle.row_steps.specs.Requires.{RowRequires}

-- a row and a distance from it, a part of an edge that goes so far to both sides and fits the columns, a work area, and a buffer for a row
pub record FlatEdgeRequires (z : Frame) (i h k : ℕ) (work line : List ℤ) : Type 0 where
  pub apart : Apart z k
  pub row : RowRequires z i h work
  pub room : length line ≡ z.columns
