-- What the functions of a row step require of their inputs.
-- Lengths are required in each contract, for the reason at `row_steps/specs/RowStepRequires`.
-- Assumes nothing.
use Rattle.std.specs.Prelude.{◌≡◌, ℕ, ◌≤◌, ◌<◌, List, length, ℤ}
use Rattle.spec_picture.specs.declared.Frame.{Frame}
use Rattle.spec_picture.specs.Picture.{Inputs}

-- A row and a distance from it, and a buffer for a row. Limits on numbers, which callers count on from row to row: a type for each would be made anew at every step.
pub record RowRequires (z : Frame) (i d : ℕ) (out : List ℤ) : Type 0 where
  pub row : i ≤ 256
  pub distance : d ≤ 127
  pub room : length out ≡ z.columns

-- A row of the picture, a number that callers count as in `RowRequires`, a work area, and a buffer for a row.
pub record StepRequires (x : Inputs) (i : ℕ) (work line : List ℤ) : Type 0 where
  pub row : i < x.source.frame.rows
  pub room_work : length work ≡ x.source.frame.columns
  pub room : length line ≡ x.source.frame.columns
