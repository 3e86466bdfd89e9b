-- `plane_rows::level_rows::part` meets its contract. Assumes nothing.
use Rattle.std.proofs.Common.{arith, ◌-◌, ◌≤◌}
use Rattle.spec_picture.specs.Checked.{checked_source}
use Rattle.spec_picture.proofs.Found.{limits}
use Rattle.plane_rows.specs.Factors.{on_factor}
use Rattle.plane_rows.proofs.OverlapLaws.{none-among, some-among}
use Rattle.plane_rows.proofs.LevelParts.{cells-of, zeros-there, ones-there, f-there, g-there, g-ends}
use Rattle.plane_rows.proofs.level_rows.part.Goals as goal

pub returns-then-not-has_row : goal.returns-then-not-has_row
returns-then-not-has_row c =
    let v = c.args.view.now in
    let a = c.requires in
    let few : c.args.end - c.args.start ≤ 1024 = omega (arith, a.upto, a.counting.within, (limits v.source).few_columns) in
    cells-of _ _ _ _ _ (c.args.end - c.args.start) (omega (arith, a.ordered))
    (zeros-there (on_factor (checked_source v.source) c.args.factor) v.rows v.counting.by_row _ _ _ _ a few (none-among v.rows.first v.rows.end c.args.row _ c.has_row.ensures c.if-not-has_row.true))

pub returns-in-One : goal.returns-in-One
returns-in-One c =
    let v = c.args.view.now in
    let a = c.requires in
    let row = some-among v.rows.first v.rows.end c.args.row _ c.has_row.ensures c.if-not-has_row.false in
    let few : c.args.end - c.args.start ≤ 1024 = omega (arith, a.upto, a.counting.within, (limits v.source).few_columns) in
    cells-of _ _ _ _ _ (c.args.end - c.args.start) (omega (arith, a.ordered)) (rw c.in-One.is (ones-there (checked_source v.source) v.rows v.counting.by_row _ _ _ _ a row.0 row.1 few))

pub returns-in-F : goal.returns-in-F
returns-in-F c =
    let v = c.args.view.now in
    let a = c.requires in
    let row = some-among v.rows.first v.rows.end c.args.row _ c.has_row.ensures c.if-not-has_row.false in
    cells-of _ _ _ _ _ (c.args.end - c.args.start) (omega (arith, a.ordered)) (rw c.in-F.is (f-there (checked_source v.source) v.rows v.counting.by_row _ _ _ _ a row.0 row.1 v.source.length_f))

pub returns-in-G : goal.returns-in-G
returns-in-G c =
    let v = c.args.view.now in
    let a = c.requires in
    let row = some-among v.rows.first v.rows.end c.args.row _ c.has_row.ensures c.if-not-has_row.false in
    cells-of _ _ _ _ _ (c.args.end - c.args.start) (omega (arith, a.ordered)) (rw c.in-G.is (g-there (checked_source v.source) v.rows v.counting.by_row _ _ _ _ a row.0 row.1 v.source.length_g))

pub slice_bounds-result-end-in-G : goal.slice_bounds-result-end-in-G
slice_bounds-result-end-in-G c =
    let v = c.args.view.now in
    let row = some-among v.rows.first v.rows.end c.args.row _ c.has_row.ensures c.if-not-has_row.false in
    g-ends (checked_source v.source) v.rows v.counting.by_row _ _ _ _ c.requires row.0 row.1 v.source.length_g
