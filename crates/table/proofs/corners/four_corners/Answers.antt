-- `table::corners::four_corners` meets its contract. Assumes nothing.
use mathlib.Core.Path.{◌∙◌}
use mir.Facts.{to_z-of_z}
use mir.Syntax.{w64}
use mir.Val.{SFits}
use Rattle.table.proofs.Rectangles.{four-read}
use Rattle.table.proofs.corners.four_corners.Goals as goal

pub returns : goal.returns
returns c =
    let table = c.args.table.now in
    let bottom-right = c.corner-bottom_right in
    let top-right = c.corner-top_right in
    let bottom-left = c.corner-bottom_left in
    let top-left = c.corner-top_left in
    let up-to-right = c.wrapping_sub-up_to_right in
    let without-left = c.wrapping_sub-without_left in
    let fits-bottom-right : SFits w64 bottom-right.result = record { sfits = bottom-right.type_inv } in
    let fits-top-right : SFits w64 top-right.result = record { sfits = top-right.type_inv } in
    let fits-bottom-left : SFits w64 bottom-left.result = record { sfits = bottom-left.type_inv } in
    let fits-top-left : SFits w64 top-left.result = record { sfits = top-left.type_inv } in
    let fits-up-to-right : SFits w64 up-to-right.result = record { sfits = up-to-right.type_inv } in
    let fits-without-left : SFits w64 without-left.result = record { sfits = without-left.type_inv } in
    to_z-of_z {w = w64} (record { sfits = c.wrapping_add.type_inv })
    ∙ four-read table.frame table.numbers.now c.args.rows.start c.args.rows.end c.args.columns.start c.args.columns.end _ _ _ _ _ _ _
    bottom-right.ensures top-right.ensures bottom-left.ensures top-left.ensures
    (simp to_z-of_z at up-to-right.ensures) (simp to_z-of_z at without-left.ensures) (simp to_z-of_z at c.wrapping_add.ensures)
