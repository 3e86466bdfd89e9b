-- What a slanted window's row step requires of its inputs.
-- Lengths are required in each contract, for the reason at `row_steps/specs/RowStepRequires`.
-- Assumes nothing.
use Rattle.std.specs.Prelude.{◌≡◌, ℕ, ◌≤◌, ◌<◌, List, get_or, ℤ, pos}
use Rattle.numbers.specs.Wrap.{wrap}
use Rattle.spec_picture.specs.Picture.{Inputs}
use Rattle.row_steps.specs.Requires.{StepRequires}

-- a step, a distance from 1 on, and a work area of numbers of 64 bits
pub record EdgeRequires (x : Inputs) (i c : ℕ) (work line : List ℤ) : Type 0 where
  pub step : StepRequires x i work line
  pub some : 1 ≤ c
  pub few : c < x.source.frame.columns
  pub wrapped : (j : ℕ) → wrap (get_or work j (pos 0)) ≡ get_or work j (pos 0)
