-- What the loops of `plane_rows::level_rows::copy` keep. Assumes nothing.
use mathlib.Core.Path.{◌≡◌}
use lib.ListN.{length, take}
use Rattle.plane_rows.proofs.level_rows.copy.Given as goal

abbrev pub invariant-loop-k : goal.invariant-loop-k
invariant-loop-k l = (length l.out ≡ length l.levels) × (take l.k l.out ≡ take l.k l.levels)
