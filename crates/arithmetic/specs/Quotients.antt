-- A division by 2d as a multiplication: the reciprocal, and of which numbers it is one.
-- Assumes nothing.
use Rattle.std.specs.Prelude.{ℕ, ◌-◌, ◌*◌, ◌/◌, ◌^◌, ◌≤◌, ◌<◌}

-- 2^64 - 1 over 2d, rounded down
abbrev pub reciprocal : ℕ → ℕ
reciprocal d = (2 ^ 64 - 1) / (2 * d)

-- a count of cells
pub record Divisor (d : ℕ) : Type 0 where
  pub some : 0 < d
  pub few : d ≤ 65025
