-- `plane_rows::level_rows::copied` meets its contract. Assumes nothing.
use Rattle.numbers.proofs.Writes.{Upto}
use Rattle.spec_picture.specs.Picture.{plane_at}
use Rattle.spec_picture.specs.Checked.{checked_source}
use Rattle.plane_rows.specs.Factors.{on_factor}
use Rattle.plane_rows.proofs.LevelParts.{along-written, round-written, none-round, row-written}
use Rattle.plane_rows.proofs.level_rows.copied.Goals.{then-seam-end, else-seam-end}
use Rattle.plane_rows.proofs.level_rows.copied.Goals as goal

pub returns : goal.returns
returns c =
    let v = c.args.view.now in
    let x = on_factor (checked_source v.source) c.args.factor in
    let along = along-written x v.columns v.counting.by_column c.args.row c.args.out.now c.requires _ c.fill.ensures _ (rw c.copy.ensures c.part.ensures) in
    let written : Upto (plane_at x c.args.row) c.args.out.now c.if-seam-end.out v.columns.round.end = elim c.if-seam-end.branch [
      | then-seam-end w ↦ rw w.out-is (round-written x v.columns v.counting.by_column c.args.row c.args.out.now c.requires _ c.fill.ensures along _ (rw w.copy-then-seam-end.ensures w.part-then-seam-end.ensures))
      | else-seam-end w ↦ rw w.out-is (none-round x v.columns v.counting.by_column c.args.row c.args.out.now c.requires _ c.fill.ensures along w.if-seam-end.false)
    ] in
    row-written x v.columns v.counting.by_column c.args.row c.args.out.now c.requires _ c.fill.ensures written _ c.fill-2.ensures
