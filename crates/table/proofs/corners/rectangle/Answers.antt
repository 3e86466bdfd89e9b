-- `table::corners::rectangle` meets its contract. Assumes nothing.
use mathlib.Core.Path.{◌≡◌, ◌∙◌}
use Prim.Native.Nat.{suc, ◌+◌}
use native.Mathlib.Omega.{arith}
use mir.Facts.{to_z-of_z}
use mir.Syntax.{w64}
use mir.Val.{SFits}
use Rattle.table.proofs.Rectangles.{along-read, round-read}
use Rattle.table.proofs.corners.rectangle.Goals as goal

pub returns-then-not-round : goal.returns-then-not-round
returns-then-not-round c =
    let table = c.args.table.now in
    let cell = c.args.cell in
    let bottom : cell.row + c.args.a + 1 ≡ suc (cell.row + c.args.a) = omega arith in
    let right : cell.column + c.args.b + 1 ≡ suc (cell.column + c.args.b) = omega arith in
    to_z-of_z {w = w64} (record { sfits = c.four_corners-along.type_inv })
    ∙ along-read table.frame table.numbers.now c.args.a c.args.b cell.row cell.column _ _ _ _ c.low-top.ensures bottom c.low-left.ensures right _ c.four_corners-along.ensures
    (c.requires.0.none (rw c.if-not-round.true tt))

pub returns : goal.returns
returns c =
    let table = c.args.table.now in
    let cell = c.args.cell in
    let bottom : cell.row + c.args.a + 1 ≡ suc (cell.row + c.args.a) = omega arith in
    let right : cell.column + c.args.b + 1 ≡ suc (cell.column + c.args.b) = omega arith in
    let along : SFits w64 c.four_corners-along.result = record { sfits = c.four_corners-along.type_inv } in
    let beyond : SFits w64 c.round_the_edge-beyond.result = record { sfits = c.round_the_edge-beyond.type_inv } in
    to_z-of_z {w = w64} (record { sfits = c.wrapping_add.type_inv })
    ∙ round-read table.frame table.numbers.now c.args.a c.args.b cell.row cell.column _ _ _ _ c.low-top.ensures bottom c.low-left.ensures right _ c.four_corners-along.ensures
    (c.requires.0.wraps (rw c.if-not-round.false tt)) _ _ c.round_the_edge-beyond.ensures (simp (to_z-of_z, along, beyond) at c.wrapping_add.ensures)
