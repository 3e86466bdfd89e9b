-- `slope_loops::padding::join_sides` meets its contract. Assumes nothing.
use Rattle.slope_loops.proofs.Rows.{both-joined}
use Rattle.slope_loops.proofs.padding.join_sides.Goals as goal

pub returns : goal.returns
returns g c =
    both-joined g.V.PlaneValue.value c.args.columns c.args.side c.args.buf.now c.copy_within.new.self c.copy_within-2.new.self c.requires c.copy_within.ensures.len c.copy_within-2.ensures.len c.copy_within.ensures.by_index c.copy_within-2.ensures.by_index
