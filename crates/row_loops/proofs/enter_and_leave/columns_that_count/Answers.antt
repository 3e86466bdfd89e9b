-- `row_loops::enter_and_leave::columns_that_count` meets its contract. Assumes nothing.
use Rattle.std.proofs.Common.{arith, ◌∙◌, ◌<◌, ◌+◌, sym, ap₂, ◌-ℤ◌, ◌*ℤ◌}
use native.Mathlib.Nat.{le-add_right}
use Rattle.spec_picture.specs.Checked.{checked_source}
use Rattle.plane_rows.specs.declared.factors.Factor.TheVariants.{One}
use Rattle.plane_rows.proofs.FactorLaws.{plane-level, plane-product}
use Rattle.plane_rows.proofs.LevelParts.{plane-0}
use Rattle.row_loops.proofs.Entering.{added-same, by-64}
use Rattle.row_loops.proofs.enter_and_leave.columns_that_count.Goals as goal

pub returns-in-Level-One : goal.returns-in-Level-One
returns-in-Level-One c =
    let v = c.args.view.now in
    let x = checked_source v.source in
    let plane = plane-level x One (rw c.in-Level-One.field-0-is at c.in-Level-One.ensures.values) in
    added-same _ _ _ _ c.add_number.ensures
    (λ k k<.
    let from = le-add_right c.args.stretch.first k in
    let upto : c.args.stretch.first + k < c.args.stretch.end = omega (arith, c.requires.1) in
    let e = plane c.args.enter _ ∙ plane-0 x v.rows v.counting.by_row c.args.stretch c.requires.0 c.args.enter _ _ c.has_row.ensures from upto in
    let l = plane c.args.leave _ ∙ plane-0 x v.rows v.counting.by_row c.args.stretch c.requires.0 c.args.leave _ _ c.has_row-in-Level-One.ensures from upto in
    rw (c.from.ensures, c.from-in-Level-One.ensures) (by-64 c.has_row.result c.has_row-in-Level-One.result ∙ sym (ap₂ ◌-ℤ◌ e l)))

pub returns-in-Level : goal.returns-in-Level
returns-in-Level c =
    let e = c.part-entering.ensures in
    let l = c.part.ensures in
    let plane = plane-level (checked_source c.args.view.now.source) _ c.in-Level.ensures.values in
    added-same _ _ _ _ c.levels_enter_and_leave.ensures (λ k k<. ap₂ ◌-ℤ◌ (e.same k (omega (arith, e.size, c.requires.1)) ∙ sym (plane _ _)) (l.same k (omega (arith, l.size, c.requires.1)) ∙ sym (plane _ _)))

pub returns-in-Square : goal.returns-in-Square
returns-in-Square c =
    let a = c.part-a.ensures in
    let l = c.part-c.ensures in
    let plane = plane-product (checked_source c.args.view.now.source) _ _ c.in-Square.ensures.values in
    added-same _ _ _ _ c.squares_enter_and_leave.ensures
    (λ k k<.
    let e = a.same k (omega (arith, a.size, c.requires.1)) in
    let f = l.same k (omega (arith, l.size, c.requires.1)) in
    ap₂ ◌-ℤ◌ (ap₂ ◌*ℤ◌ e e ∙ sym (plane _ _)) (ap₂ ◌*ℤ◌ f f ∙ sym (plane _ _)))

pub returns-in-Product : goal.returns-in-Product
returns-in-Product c =
    let a = c.part-a-in-Product.ensures in
    let b = c.part-b.ensures in
    let l = c.part-c-in-Product.ensures in
    let d = c.part-d.ensures in
    let plane = plane-product (checked_source c.args.view.now.source) _ _ c.in-Product.ensures.values in
    added-same _ _ _ _ c.products_enter_and_leave.ensures
    (λ k k<.
    ap₂ ◌-ℤ◌ (ap₂ ◌*ℤ◌ (a.same k (omega (arith, a.size, c.requires.1))) (b.same k (omega (arith, b.size, c.requires.1))) ∙ sym (plane _ _))
    (ap₂ ◌*ℤ◌ (l.same k (omega (arith, l.size, c.requires.1))) (d.same k (omega (arith, d.size, c.requires.1))) ∙ sym (plane _ _)))
