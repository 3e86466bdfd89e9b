-- The search by halving for the largest r with r²·q ≤ v: what every turn keeps, and what the last one leaves.
-- Assumes nothing.
use mathlib.Core.Path.{◌≡◌, ap}
use Prim.Native.Nat.{ℕ, suc, ◌+◌, ◌*◌, ◌≤◌, ◌<◌}
use native.Mathlib.Omega.{arith}
use Rattle.numbers.specs.Round.{root_over}
use Rattle.numbers.proofs.Rounds.{root-over-law, root-over-unique}

-- low is reached, high is passed, and neither is above the limit
pub record Between (v q limit low high : ℕ) : Type 0 where
  pub order : low < high
  pub within : high ≤ limit
  pub reached : low * low * q ≤ v
  pub passed : v < high * high * q

pub found : (v q limit low high : ℕ) → 0 < q → Between v q limit low high → high ≤ low + 1 → low ≡ root_over v q
found v q limit low high h b l =
    let e : high ≡ suc low = omega arith in
    root-over-unique v q low (root_over v q)
    (record { reached = b.reached; largest = omega (arith, ap (λ (n : ℕ). n * n * q) e, b.passed) })
    (root-over-law v q h)
