-- What the loops of `plane_rows::plane_values::multiply` keep. Assumes nothing.
use Prim.Native.Nat.{ℕ}
use lib.IntN.{◌*ℤ◌}
use Rattle.numbers.proofs.Writes.{at, Upto}
use Rattle.plane_rows.proofs.plane_values.multiply.Given as goal

abbrev pub invariant-loop-k : goal.invariant-loop-k
invariant-loop-k l = Upto (λ (k : ℕ). at l.a k *ℤ at l.b k) l.initial.out l.out l.k
