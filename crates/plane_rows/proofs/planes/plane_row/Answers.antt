-- `plane_rows::planes::plane_row` meets its contract. Assumes nothing.
use Rattle.numbers.proofs.Writes.{Upto}
use Rattle.spec_picture.specs.Picture.{plane_at}
use Rattle.spec_picture.specs.Checked.{checked_source}
use Rattle.plane_rows.proofs.LevelParts.{along-written, round-written, none-round, row-written}
use Rattle.plane_rows.proofs.planes.plane_row.Goals.{then-seam-end, else-seam-end}
use Rattle.plane_rows.proofs.planes.plane_row.Goals as goal

pub returns : goal.returns
returns c =
    let v = c.view_of-view.result in
    let x = checked_source v.source in
    let full = rw (← c.view_of-view.ensures) at c.requires in
    let along = along-written x v.columns v.counting.by_column c.args.row c.args.out.now full _ c.fill.ensures _ c.values.ensures in
    let written : Upto (plane_at x c.args.row) c.args.out.now c.if-seam-end.out v.columns.round.end = elim c.if-seam-end.branch [
      | then-seam-end w ↦ rw w.out-is (round-written x v.columns v.counting.by_column c.args.row c.args.out.now full _ c.fill.ensures along _ (rw v.counting.by_column.joined at w.values-then-seam-end.ensures))
      | else-seam-end w ↦ rw w.out-is (none-round x v.columns v.counting.by_column c.args.row c.args.out.now full _ c.fill.ensures along w.if-seam-end.false)
    ] in
    rw (← c.view_of-view.ensures)
    (row-written x v.columns v.counting.by_column c.args.row c.args.out.now full _ c.fill.ensures written _ (rw (← c.view_of-view.ensures) at c.fill-2.ensures))
