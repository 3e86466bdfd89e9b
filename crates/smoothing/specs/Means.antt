-- N and S of cells that have a count, and their means.
-- Assumes nothing.
use Rattle.std.specs.Prelude.{ℕ, ◌*◌, ◌^◌, ◌≤◌, ◌<◌, List, length, get_or, ℤ, pos, nat_abs, ◌≤ℤ◌}
use Rattle.std.specs.Int.Signed.{mag}
use Rattle.numbers.specs.Grid.{tabulate}
use Rattle.numbers.specs.Round.{nearest}

-- N of a cell that has a count
pub record Counted (n : ℤ) : Type 0 where
  pub some : pos 1 ≤ℤ n
  pub few : nat_abs n ≤ 65025

-- S of d cells, with a level for its mean
pub record LevelSum (d : ℕ) (s : ℤ) : Type 0 where
  pub small : nat_abs s ≤ 32768 * d
  pub level : mag (nearest s d) < 2 ^ 15

-- N and S of a cell that has a count, with a level for its mean
pub record LevelMean (n s : ℤ) : Type 0 where
  pub count : Counted n
  pub small : nat_abs s ≤ 32768 * nat_abs n
  pub level : mag (nearest s (nat_abs n)) < 2 ^ 15

-- N and S of cells at the fronts of two areas, and room for their means
pub record MeansRequires (n s out : List ℤ) : Type 0 where
  pub room_n : length out ≤ length n
  pub room_s : length out ≤ length s
  pub each : (j : ℕ) → j < length out → LevelMean (get_or n j (pos 0)) (get_or s j (pos 0))

-- the means of the cells
unfoldable pub means_of : (n s out : List ℤ) → List ℤ
means_of n s out = tabulate (length out) (λ j. nearest (get_or s j (pos 0)) (nat_abs (get_or n j (pos 0))))
