-- Where the loops find the slopes of a row and their cells, when they begin at the column that has place `first` in a row with its margins.
-- Assumes nothing.
use Rattle.std.specs.Prelude.{◌≡◌, ℕ, ◌+◌}
use Rattle.slope_loops.specs.declared.loops.GatherPlaces.{GatherPlaces}
use Rattle.slope_loops.specs.declared.loops.SlidePlaces.{SlidePlaces}
use Rattle.slope_rows.specs.declared.places.TheConstants.{SLOPE_SHIFT}

-- ---- when a call begins: a cell of each edge, `far` columns from the window's middle
-- of the slopes that rise, the lower edge's is on the right and the upper edge's on the left
pub record RisingCells (first far : ℕ) (places : GatherPlaces) : Type 0 where
  pub sums : places.sums + SLOPE_SHIFT ≡ first
  pub enters : places.enters ≡ first + far
  pub leaves : places.leaves + far ≡ first

-- of those that fall, the other way round
pub record FallingCells (first far : ℕ) (places : GatherPlaces) : Type 0 where
  pub sums : places.sums ≡ first + SLOPE_SHIFT
  pub enters : places.enters + far ≡ first
  pub leaves : places.leaves ≡ first + far

-- ---- in a row where the slopes have moved by m places: the ends of a slope of each edge, w and k columns from the window's middle
-- the slopes that rise were those of the next column in the row before
pub record RisingPlaces (first m w k : ℕ) (places : SlidePlaces) : Type 0 where
  pub sums : places.sums + SLOPE_SHIFT ≡ first + m
  pub lower_new : places.lower_new ≡ first + 1 + k
  pub lower_gone : places.lower_gone ≡ first + 1 + w
  pub upper_new : places.upper_new + w ≡ first
  pub upper_gone : places.upper_gone + k ≡ first

-- those that fall were those of the column before
pub record FallingPlaces (first m w k : ℕ) (places : SlidePlaces) : Type 0 where
  pub sums : places.sums + m ≡ first + SLOPE_SHIFT
  pub lower_new : places.lower_new + 1 + k ≡ first
  pub lower_gone : places.lower_gone + 1 + w ≡ first
  pub upper_new : places.upper_new ≡ first + w
  pub upper_gone : places.upper_gone ≡ first + k
