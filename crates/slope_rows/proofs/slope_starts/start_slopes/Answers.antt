-- `slope_rows::slope_starts::start_slopes` meets its contract. Assumes nothing.
use Rattle.std.proofs.Common.{rules}
use native.Mathlib.Omega.{arith}
use Rattle.slope_rows.specs.Edges.{padded_in}
use Rattle.slope_rows.proofs.Kept.{slopes-cell}
use Rattle.slope_rows.proofs.Required.{row-limits, rises-gather, falls-gather}
use Rattle.slope_rows.proofs.slope_starts.start_slopes.Goals as goal

pub gather-requires : goal.gather-requires
gather-requires g c =
    let x = c.args.slanted.now in
    (search rules, (search rules, rises-gather x _ c.requires.1.inside g.S.Value.PlaneValue.holds _ _ g.met.S.Value.PlaneValue.small c.requires.0 g.met.S.Slope.room_moved c.loop-t-test.true c.loop-t.invariant.2 c.load.ensures.holds c.load-in-loop-t.ensures.holds _ c.rising_cells.ensures))

pub gather-requires-in-loop-t : goal.gather-requires-in-loop-t
gather-requires-in-loop-t g c =
    let x = c.args.slanted.now in
    (search rules, (search rules, falls-gather x _ c.requires.1.inside g.S.Value.PlaneValue.holds _ _ g.met.S.Value.PlaneValue.small c.requires.0 g.met.S.Slope.room_moved c.loop-t-test.true c.loop-t.invariant.2 c.load.ensures.holds c.load-in-loop-t.ensures.holds _ c.falling_cells.ensures))

pub loop-t-preserved : goal.loop-t-preserved
loop-t-preserved g c =
    let x = c.args.slanted.now in
    let limits = row-limits x _ c.requires.1.inside in
    let lower = c.load.ensures in
    let upper = c.load-in-loop-t.ensures in (
      lower.blank,
      upper.blank,
      slopes-cell x.inputs.source.frame (padded_in x) x.width x.beside limits.3 limits.4 c.args.i c.loop-t.t _ _ (omega (arith, limits, c.loop-t-test.true)) c.rising_cells.ensures c.falling_cells.ensures lower.holds upper.holds c.loop-t.invariant.2 c.gather.ensures c.gather-in-loop-t.ensures,
    )
