-- `statistics::correlation::long_root` meets its contract. Assumes nothing.
use mathlib.Core.Path.{◌≡◌, sym}
use Prim.Native.Nat.{◌-◌}
use native.Mathlib.Omega.{arith}
use borrow.Author.Tests.{leb-true, leb-false}
use Rattle.arithmetic.specs.Words.{value, scaled_value}
use Rattle.spec_statistics.proofs.Halving.{found}
use Rattle.statistics.proofs.Bits.{bit-set, bit-unset}
use Rattle.statistics.proofs.correlation.long_root.Goals.{then-scaled_at_most, else-scaled_at_most}
use Rattle.statistics.proofs.correlation.long_root.Goals as goal

pub loop-bit-preserved : goal.loop-bit-preserved
loop-bit-preserved c =
    let l = c.loop-bit in
    elim c.if-scaled_at_most.branch [
      | then-scaled_at_most w ↦
          let reached = leb-true (scaled_value c.scale.result) (scaled_value c.args.y) (sym w.if-scaled_at_most.ensures) in
          rw w.c-is (bit-set _ _ _ _ l.invariant c.loop-bit-test.true (rw c.scale.ensures at reached))
      | else-scaled_at_most w ↦
          let passed = leb-false (scaled_value c.scale.result) (scaled_value c.args.y) (sym w.if-scaled_at_most.ensures) in
          rw w.c-is (bit-unset _ _ _ _ l.invariant c.loop-bit-test.true (rw c.scale.ensures at passed))
    ]

pub returns : goal.returns
returns c =
    let l = c.loop-bit in
    let last : 10 - l.bit ≡ 0 = omega (arith, c.loop-bit-test.false) in
    found (scaled_value c.args.y) (value c.args.x) 1024 l.c _ c.requires.some l.invariant (rw last (omega arith))
