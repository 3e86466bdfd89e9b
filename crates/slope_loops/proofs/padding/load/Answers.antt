-- `slope_loops::padding::load` meets its contract. Assumes nothing.
use Prim.Native.Nat.{◌+◌, ◌-◌}
use Rattle.spec_picture.specs.Picture.{plane_at}
use Rattle.spec_picture.specs.Checked.{checked_source}
use Rattle.spec_picture.proofs.Planes.{plane-beside}
use Rattle.slope_loops.specs.declared.padding.TheConstants.{MARGIN}
use Rattle.slope_loops.proofs.Rows.{map-part, loaded-clipped, loaded-wrapped}
use Rattle.slope_loops.proofs.padding.load.Goals as goal

pub returns-then-source : goal.returns-then-source
returns-then-source g c =
    let x = checked_source c.args.source.now in
    loaded-wrapped x.frame c.args.side (plane_at x) (plane-beside x) c.args.y _ _ c.requires.1 c.own_columns.ensures (rw c.if-source.true tt) _ (rw (map-part g.V.PlaneValue.value MARGIN (MARGIN + x.frame.columns - MARGIN) c.args.buf.now c.own_columns.new.out) at c.join_sides.ensures)

pub returns-else-source : goal.returns-else-source
returns-else-source g c =
    let x = checked_source c.args.source.now in
    rw (map-part g.V.PlaneValue.value MARGIN (MARGIN + x.frame.columns - MARGIN) c.args.buf.now c.own_columns.new.out)
    (loaded-clipped x.frame c.args.side (plane_at x) (plane-beside x) c.args.y _ _ c.requires.1 c.own_columns.ensures (rw c.if-source.false tt))
