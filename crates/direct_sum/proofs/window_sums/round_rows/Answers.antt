-- `direct_sum::window_sums::round_rows` meets its contract. Assumes nothing.
use mathlib.Core.Path.{◌≡◌, ap, ◌∙◌}
use Prim.Native.Nat.{ℕ, suc, ◌+◌, ◌-◌, min}
use native.Mathlib.Omega.{arith}
use mir.Syntax.{w64}
use mir.Val.{SFits, to_z}
use mir.Facts.{to_z-of_z}
use Rattle.numbers.specs.Wrap.{wrap}
use Rattle.numbers.proofs.Running.{range_none, range-more, wrap-wrap}
use Rattle.spec_picture.specs.Checked.{checked_inputs}
use Rattle.spec_picture.proofs.Found.{checked}
use Rattle.spec_picture.specs.Window.{shape_of, reach}
use Rattle.direct_sum.proofs.NearRows.{near-requires}
use Rattle.direct_sum.proofs.WindowRows.{window_row, row-total, rows-done}
use Rattle.direct_sum.proofs.window_sums.round_rows.Goals as goal

pub loop-m-init : goal.loop-m-init
loop-m-init c = range_none (window_row (checked_inputs c.args.inputs) c.args.cell.row c.args.cell.column) _

pub round_sum-requires : goal.round_sum-requires
round_sum-requires c = rw c.view_of-view.ensures (near-requires c.args.inputs c.args.cell.column c.distance.result _ c.requires.column c.reach-reach.ensures)

pub loop-m-preserved : goal.loop-m-preserved
loop-m-preserved c =
    let l = c.loop-m in
    let x = checked_inputs c.args.inputs in
    let cell = c.args.cell in
    let window = window_row x cell.row cell.column in
    let r : SFits w64 c.round_sum.result = record { sfits = c.round_sum.type_inv } in
    let s : SFits w64 c.wrapping_add-s.result = record { sfits = c.wrapping_add-s.type_inv } in
    let row : c.round_sum.result ≡ wrap (window l.m) =
    rw c.view_of-view.ensures at c.round_sum.ensures
    ∙ ap wrap (row-total x cell.row cell.column l.m _ (c.reach-reach.ensures ∙ ap (reach (shape_of x.window)) c.distance.ensures)) in
    to_z-of_z {w = w64} s ∙ simp (to_z-of_z, r) at c.wrapping_add-s.ensures
    ∙ range-more window c.low-m.result l.m (to_z w64 l.s-bits) c.round_sum.result (omega arith) l.invariant (ap wrap row ∙ wrap-wrap (window l.m))

pub returns : goal.returns
returns c =
    let cell = c.args.cell in
    let x = checked_inputs c.args.inputs in
    let height = c.height-height.ensures in
    let found = checked c.args.inputs in
    rows-done x cell.row cell.column c.low-m.result c.high-bottom.result c.loop-m.m _ c.requires.row
    (c.low-m.ensures ∙ ap (λ (h : ℕ). cell.row - h) height) (c.high-bottom.ensures ∙ ap (λ (h : ℕ). min (suc (cell.row + h)) x.source.frame.rows) height)
    (omega arith) found.frame found.levels_f found.levels_g c.loop-m.invariant
