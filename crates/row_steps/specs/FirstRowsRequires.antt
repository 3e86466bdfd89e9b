-- What the functions of a slanted window's row 0 require of their inputs.
-- Lengths are required in each contract, for the reason at `row_steps/specs/RowStepRequires`.
-- Assumes nothing.
use Rattle.std.specs.Prelude.{◌≡◌, ℕ, List, length, ℤ}
use Rattle.spec_picture.specs.Picture.{Inputs}
use Rattle.row_steps.specs.Requires.{StepRequires}

-- a work area, and a buffer for a row
pub record FirstRequires (x : Inputs) (work line : List ℤ) : Type 0 where
  pub room_work : length work ≡ x.source.frame.columns
  pub room : length line ≡ x.source.frame.columns

-- a step, and two buffers for a row
pub record ReachRequires (x : Inputs) (i : ℕ) (work line cells : List ℤ) : Type 0 where
  pub step : StepRequires x i work line
  pub room : length cells ≡ x.source.frame.columns
