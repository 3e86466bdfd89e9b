-- `direct_sum::row_totals::part_sum` meets its contract. Assumes nothing.
use Rattle.std.proofs.Common.{arith, true, ◌+◌, ◌-◌, ◌≤◌, ◌∙◌, sym, ap, pos, w64}
use mir.Val.{SFits}
use mir.Facts.{to_z-of_z, to_z_pos}
use Rattle.numbers.specs.Wrap.{wrap}
use Rattle.numbers.proofs.Sums.{sum-cong, sum-none}
use Rattle.numbers.proofs.Wraps.{wrap-fits, wrap-small}
use Rattle.spec_picture.specs.Checked.{checked_source}
use Rattle.spec_picture.proofs.Found.{limits}
use Rattle.plane_rows.specs.declared.factors.Factor.TheVariants.{One}
use Rattle.plane_rows.proofs.CountingCells.{row-outside}
use Rattle.plane_rows.proofs.OverlapLaws.{none-among}
use Rattle.plane_rows.proofs.LevelParts.{plane-0}
use Rattle.plane_rows.proofs.FactorLaws.{plane-level, plane-product}
use Rattle.direct_sum.proofs.Totals.{count, levels-summed, products-summed}
use Rattle.direct_sum.proofs.row_totals.part_sum.Goals as goal

pub returns-in-Level-One : goal.returns-in-Level-One
returns-in-Level-One c =
    let v = c.args.view.now in
    let a = c.requires in
    let x = checked_source v.source in
    let plane = plane-level x One (rw c.in-Level-One.field-0-is at c.in-Level-One.ensures.values) c.args.row in
    let n = c.args.end - c.args.start in
    let few : n ≤ 1024 = omega (arith, a.upto, a.counting.within, (limits v.source).few_columns) in
    to_z_pos w64 (omega (arith, few)) ∙ sym (wrap-small (pos n) (omega (arith, few)))
    ∙ ap wrap (count n _
    (λ k k<. plane (c.args.start + k) ∙ plane-0 x v.rows v.counting.by_row c.args.stretch a.counting c.args.row (c.args.start + k) true (sym c.if-not-has_row.false ∙ c.has_row.ensures) (omega (arith, a.from)) (omega (arith, a.upto))))

pub returns-then-not-has_row : goal.returns-then-not-has_row
returns-then-not-has_row c =
    let v = c.args.view.now in
    sym (ap wrap (sum-none (c.args.end - c.args.start) _
    (λ k k<. row-outside (checked_source v.source) c.args.row (c.args.start + k) v.rows v.counting.by_row (none-among v.rows.first v.rows.end c.args.row _ c.has_row.ensures c.if-not-has_row.true)))
    ∙ wrap-small (pos 0) (omega arith))

pub returns-in-Level : goal.returns-in-Level
returns-in-Level c =
    let t : SFits w64 c.levels_total.result = record { sfits = c.levels_total.type_inv } in
    to_z-of_z {w = w64} t ∙ sym (wrap-fits _ t)
    ∙ ap wrap (c.levels_total.ensures ∙ levels-summed _ _ _ _ _ c.part.ensures
    ∙ sum-cong _ _ _ (λ k k<. sym (plane-level (checked_source c.args.view.now.source) _ c.in-Level.ensures.values c.args.row (c.args.start + k))))

pub returns-in-Square : goal.returns-in-Square
returns-in-Square c =
    let t : SFits w64 c.products_total.result = record { sfits = c.products_total.type_inv } in
    let plane = plane-product (checked_source c.args.view.now.source) _ _ c.in-Square.ensures.values c.args.row in
    to_z-of_z {w = w64} t ∙ c.products_total.ensures
    ∙ ap wrap (products-summed _ _ _ _ _ c.part-levels.ensures _ _ c.part-levels.ensures ∙ sum-cong _ _ _ (λ k k<. sym (plane (c.args.start + k))))

pub returns-in-Product : goal.returns-in-Product
returns-in-Product c =
    let t : SFits w64 c.products_total-in-Product.result = record { sfits = c.products_total-in-Product.type_inv } in
    let plane = plane-product (checked_source c.args.view.now.source) _ _ c.in-Product.ensures.values c.args.row in
    to_z-of_z {w = w64} t ∙ c.products_total-in-Product.ensures
    ∙ ap wrap (products-summed _ _ _ _ _ c.part-levels-in-Product.ensures _ _ c.part-in-Product.ensures ∙ sum-cong _ _ _ (λ k k<. sym (plane (c.args.start + k))))
