-- What the loops of `row_loops::entering_loops::products` keep. Assumes nothing.
use Prim.Native.Nat.{ℕ}
use lib.IntN.{◌+ℤ◌, ◌-ℤ◌, ◌*ℤ◌}
use Rattle.numbers.specs.Wrap.{wrap}
use Rattle.numbers.proofs.Writes.{at, Upto}
use Rattle.row_loops.proofs.entering_loops.products.Given as goal

abbrev pub invariant-loop-k : goal.invariant-loop-k
invariant-loop-k l = Upto (λ (k : ℕ). wrap (at l.initial.sums k +ℤ (at l.a k *ℤ at l.b k -ℤ at l.c k *ℤ at l.d k))) l.initial.sums l.sums l.k
