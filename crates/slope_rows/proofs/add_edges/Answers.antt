-- `slope_rows::add_edges` meets its contract. Assumes nothing.
use mathlib.Core.Path.{◌∙◌}
use Rattle.std.proofs.Common.{rules}
use native.Mathlib.Omega.{arith}
use Rattle.spec_picture.specs.Picture.{plane_at}
use Rattle.spec_picture.specs.Checked.{checked_source}
use Rattle.spec_picture.proofs.Planes.{plane-past, plane-beside}
use Rattle.slope_rows.proofs.Kept.{work-edged, work-tipped}
use Rattle.slope_rows.proofs.Required.{row-limits, flat-required, finish-required, tips-required}
use Rattle.slope_rows.proofs.add_edges.Goals as goal

pub finish_tips-requires : goal.finish_tips-requires
finish_tips-requires g c =
    let x = c.args.slanted.now in
    let p = c.requires.1 in
    (search rules, (search rules, tips-required x _ p.inside g.S.Value.PlaneValue.holds _ _ g.met.S.Value.PlaneValue.small c.requires.0 g.met.S.Slope.room p.turn p.slopes p.room_work p.room p.entering p.leaving))

pub returns-then-k-eq0 : goal.returns-then-k-eq0
returns-then-k-eq0 g c =
    let x = checked_source c.args.slanted.now.inputs.source in
    let p = c.requires.1 in
    let limits = row-limits c.args.slanted.now _ p.inside in
    let tipped = work-tipped x.frame (plane_at x) c.args.slanted.now.beside c.args.slanted.now.width c.args.slanted.now.height c.args.here.row c.args.here.moved p.turn p.slopes (plane-past x) (plane-beside x) in
    let tip = c.if-k-eq0.true in (
      tipped _ _ _ _ _ _ (omega (arith, limits)) tip p.entering p.leaving p.room_work c.finish_tips.ensures.0,
      tipped _ _ _ _ _ _ (omega (arith, limits)) tip p.entering p.leaving p.room_work c.finish_tips.ensures.1,
    )

pub add_flat_edge-requires : goal.add_flat_edge-requires
add_flat_edge-requires g c = flat-required c.args.slanted.now _ c.requires.1.inside c.requires.1.room_work c.requires.1.room

pub finish-requires : goal.finish-requires
finish-requires g c =
    let x = c.args.slanted.now in
    let p = c.requires.1 in
    (search rules, finish-required x _ p.inside g.S.Value.PlaneValue.holds _ _ g.met.S.Value.PlaneValue.small c.requires.0 g.met.S.Slope.room p.turn p.slopes (c.add_flat_edge.auto.work ∙ p.room_work) (c.add_flat_edge.auto.row ∙ p.room))

pub returns : goal.returns
returns g c =
    let x = checked_source c.args.slanted.now.inputs.source in
    let p = c.requires.1 in
    let edged = work-edged x.frame (plane_at x) c.args.slanted.now.beside c.args.slanted.now.width c.args.slanted.now.height c.args.here.row c.args.here.moved p.turn p.slopes in
    let in-work = c.add_flat_edge.auto.work ∙ p.room_work in (
      edged _ _ _ _ in-work c.add_flat_edge.ensures c.finish.ensures.0,
      edged _ _ _ _ in-work c.add_flat_edge.ensures c.finish.ensures.1,
    )
