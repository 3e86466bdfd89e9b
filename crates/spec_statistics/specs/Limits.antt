-- What the inner functions require: numbers so small that nothing on the way overflows, as those of possible sums are.
-- Assumes nothing.
use Rattle.std.specs.Prelude.{ℕ, ◌*◌, ◌^◌, ◌≤◌, ◌<◌, ℤ, nat_abs}

-- of a form as N·P - S·T
pub record Factors (n s t p : ℤ) : Type 0 where
  pub count : nat_abs n ≤ 65025
  pub first : nat_abs s ≤ 32768 * 65025
  pub second : nat_abs t ≤ 32768 * 65025
  pub product : nat_abs p ≤ 2 ^ 30 * 65025

-- of x / d, to be rounded
pub record Quotient (x : ℤ) (d : ℕ) : Type 0 where
  pub some : 0 < d
  pub few : d ≤ 65025 * 65025
  pub small : nat_abs x ≤ 2 ^ 30 * (65025 * 65025)

-- of v / q, to be rooted
pub record Ratio (v q : ℕ) : Type 0 where
  pub some : 0 < q
  pub few : q ≤ 65025 * 65025
  pub small : v ≤ 32768 * 32768 * q

-- of two numbers x and y with c² x ≤ y for no c above 1000
pub record Correlated (x y : ℕ) : Type 0 where
  pub some : 0 < x
  pub small : y ≤ 1000000 * x
