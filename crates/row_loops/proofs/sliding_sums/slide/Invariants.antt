-- What the loop of `row_loops::sliding_sums::slide` keeps. Assumes nothing.
use mathlib.Core.Path.{◌≡◌}
use Prim.Native.Nat.{◌+◌}
use Rattle.numbers.proofs.Writes.{Upto}
use Rattle.row_loops.specs.SlidingSums.{running_sum, entered_less_left}
use Rattle.row_loops.proofs.sliding_sums.slide.Given as goal

abbrev pub invariant-loop-k : goal.invariant-loop-k
invariant-loop-k l =
    let sums = running_sum l.fn.sum (entered_less_left l.enter l.leave) in
    (l.s ≡ sums l.k) × Upto (λ k. sums (k + 1)) l.initial.out l.out l.k
