-- What the loops of `row_steps::row_step::copy` keep. Assumes nothing.
use mathlib.Core.Path.{◌≡◌}
use lib.ListN.{length, take}
use Rattle.row_steps.proofs.row_step.copy.Given as goal

abbrev pub invariant-loop-j : goal.invariant-loop-j
invariant-loop-j l = (length l.out ≡ length l.work) × (take l.j l.out ≡ take l.j l.work)
