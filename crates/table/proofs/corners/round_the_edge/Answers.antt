-- `table::corners::round_the_edge` meets its contract. Assumes nothing.
use mathlib.Core.Path.{◌≡◌, ap, ◌∙◌}
use Prim.Native.Nat.{ℕ, suc, ◌+◌, ◌-◌}
use native.Mathlib.Omega.{arith}
use mir.Facts.{to_z-of_z}
use mir.Syntax.{w64}
use mir.Val.{SFits}
use Rattle.table.proofs.Rectangles.{beyond-read}
use Rattle.table.proofs.corners.round_the_edge.Goals as goal

pub returns : goal.returns
returns c =
    let table = c.args.table.now in
    let columns = table.frame.columns in
    let first : SFits w64 c.stretch-first.result = record { sfits = c.stretch-first.type_inv } in
    let last : SFits w64 c.stretch-last.result = record { sfits = c.stretch-last.type_inv } in
    let right : c.args.column + c.args.b + 1 ≡ suc (c.args.column + c.args.b) = omega arith in
    to_z-of_z {w = w64} (record { sfits = c.wrapping_add.type_inv })
    ∙ beyond-read table.frame table.numbers.now c.args.rows.start c.args.rows.end c.args.b c.args.column _ _
    (c.low-past.ensures ∙ ap (λ (k : ℕ). k - columns) right) (c.low-before.ensures ∙ ap (λ (k : ℕ). columns - k) c.low.ensures)
    _ _ _ c.stretch-first.ensures c.stretch-last.ensures (simp (to_z-of_z, first, last) at c.wrapping_add.ensures)
