-- What filling requires of its callers, and what it finds.
-- Lengths are required in each contract, for the reason at `row_steps/specs/RowStepRequires`.
-- Assumes nothing.
use Rattle.std.specs.Prelude.{◌≡◌, List, ℕ, ◌<◌, length, ℤ}
use Rattle.spec_picture.specs.declared.Frame.{Frame}

-- row i of a picture, two rows of a table of its size, and a buffer for a row of levels
pub record TableRowRequires (z : Frame) (i : ℕ) (above buffer row : List ℤ) : Type 0 where
  pub inside : i < z.rows
  pub width_above : length above ≡ z.columns
  pub width_buffer : length buffer ≡ z.columns
  pub width : length row ≡ z.columns
