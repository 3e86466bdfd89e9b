-- What the loop of `statistics::correlation::long_root` keeps. Assumes nothing.
use Prim.Native.Nat.{◌+◌, ◌-◌, ◌^◌}
use Rattle.arithmetic.specs.Words.{value, scaled_value}
use Rattle.spec_statistics.proofs.Halving.{Between}
use Rattle.statistics.proofs.correlation.long_root.Given as goal

abbrev pub invariant-loop-bit : goal.invariant-loop-bit
invariant-loop-bit l = Between (scaled_value l.y) (value l.x) 1024 l.c (l.c + 2 ^ (10 - l.bit))
