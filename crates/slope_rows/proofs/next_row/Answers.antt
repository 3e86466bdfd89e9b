-- `slope_rows::next_row` meets its contract. Assumes nothing.
use Rattle.std.proofs.Common.{rules}
use Rattle.slope_rows.specs.Edges.{padded_in}
use Rattle.slope_rows.proofs.Kept.{slopes-next}
use Rattle.slope_rows.proofs.Required.{row-limits, rises-slide, falls-slide}
use Rattle.slope_rows.proofs.next_row.Goals as goal

pub slide-requires : goal.slide-requires
slide-requires g c =
    let x = c.args.slanted.now in
    let p = c.requires.row in
    (search rules, (search rules, rises-slide x _ p.inside g.S.Value.PlaneValue.holds _ _ g.met.S.Value.PlaneValue.small c.requires.plane g.met.S.Slope.room_moved p.turn c.add_seam.ensures c.load.ensures.holds c.load-2.ensures.holds c.load-3.ensures.holds _ c.rising_places.ensures))

pub slide-requires-2 : goal.slide-requires-2
slide-requires-2 g c =
    let x = c.args.slanted.now in
    let p = c.requires.row in
    (search rules, (search rules, falls-slide x _ p.inside g.S.Value.PlaneValue.holds _ _ g.met.S.Value.PlaneValue.small c.requires.plane g.met.S.Slope.room_moved p.turn c.add_seam.ensures c.load.ensures.holds c.load-2.ensures.holds c.load-3.ensures.holds _ c.falling_places.ensures))

pub returns : goal.returns
returns g c =
    let x = c.args.slanted.now in
    let p = c.requires.row in
    let limits = row-limits x _ p.inside in
    let lower = c.load.ensures in
    let middle = c.load-2.ensures in
    let upper = c.load-3.ensures in
    record {
      row = record {
        rows = record { blank_a = lower.blank; blank_b = middle.blank; blank_c = upper.blank };
        slopes = slopes-next x.inputs.source.frame (padded_in x) x.width x.beside limits.3 limits.4 x.height c.args.here.row c.args.here.moved _ _ limits.2 p.turn c.rising_places.ensures c.falling_places.ensures lower.holds middle.holds upper.holds c.add_seam.ensures c.slide.ensures c.slide-2.ensures;
        work_is = c.add_edges.ensures.0;
        output_is = c.add_edges.ensures.1;
      };
      leaving = upper.holds;
    }
