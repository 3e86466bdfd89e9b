-- What the loops of `direct_sum::window_sums::round_rows` keep. Assumes nothing.
use mathlib.Core.Path.{◌≡◌}
use Prim.Native.Nat.{◌+◌, ◌-◌}
use Rattle.numbers.specs.Sum.{sum_to}
use Rattle.numbers.specs.Wrap.{wrap}
use Rattle.spec_picture.specs.Checked.{checked_inputs}
use Rattle.direct_sum.proofs.WindowRows.{window_row}
use Rattle.direct_sum.proofs.window_sums.round_rows.Given as goal

abbrev pub invariant-loop-m : goal.invariant-loop-m
invariant-loop-m l = l.s ≡ wrap (sum_to (l.m - l.initial.m) (λ k. window_row (checked_inputs l.inputs) l.fn.cell.row l.fn.cell.column (l.initial.m + k)))
