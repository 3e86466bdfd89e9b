-- What the loops of `checks::levels::levels_fit` keep. Assumes nothing.
use Prim.Native.Nat.{ℕ, ◌^◌, ◌≤◌, ◌<◌}
use lib.ListN.{length}
use lib.Signed.{mag}
use Rattle.numbers.proofs.Writes.{at}
use Rattle.checks.proofs.levels.levels_fit.Given as goal

abbrev pub invariant-loop-k : goal.invariant-loop-k
invariant-loop-k l = (l.k ≤ length l.f) × ((i : ℕ) → i < l.k → mag (at l.f i) < 2 ^ 15)
