-- `Slope::with_tips` of i32 meets its contract. Assumes nothing.
use native.Mathlib.Omega.{arith}
use lib.IntN.{◌+ℤ◌, ◌-ℤ◌}
use mir.Syntax.{w32, w64}
use mir.Val.{SFits}
use mir.Facts.{to_z-of_z}
use Rattle.slope_loops.proofs.LoopLaws.{mag-add, mag-sub}
use Rattle.slope_loops.proofs.loops.I32Slope.with_tips.Goals as goal
use Rattle.std.proofs.Math.Facts.{sfits_widen}

pub returns : goal.returns
returns c =
    let difference : SFits w32 (c.args.enters -ℤ c.args.leaves) = record { sfits = omega (arith, mag-sub c.args.enters c.args.leaves, c.ranges.enters.sfits, c.ranges.leaves.sfits) } in
    let slopes : SFits w32 (c.args.self +ℤ c.args.other) = record { sfits = omega (arith, mag-add c.args.self c.args.other, c.requires.0, c.requires.1) } in
    let sum : SFits w32 ((c.args.enters -ℤ c.args.leaves) +ℤ (c.args.self +ℤ c.args.other)) = record { sfits = omega (arith, mag-add (c.args.enters -ℤ c.args.leaves) (c.args.self +ℤ c.args.other), mag-sub c.args.enters c.args.leaves, mag-add c.args.self c.args.other, c.ranges.enters.sfits, c.ranges.leaves.sfits, c.requires.0, c.requires.1) } in
    simp (to_z-of_z, c.ranges.enters, c.ranges.leaves, c.ranges.self, c.ranges.other, sfits_widen {w' = w32} tt c.ranges.enters, sfits_widen {w' = w32} tt c.ranges.leaves, difference, slopes, sum, sfits_widen {w' = w64} tt sum)
