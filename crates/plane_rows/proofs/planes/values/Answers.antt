-- `plane_rows::planes::values` meets its contract. Assumes nothing.
use Rattle.std.proofs.Common.{arith, ◌∙◌, ◌+◌, sym, ap₂, ◌*ℤ◌}
use Rattle.numbers.proofs.Grids.{tabulate-cong}
use Rattle.spec_picture.specs.Checked.{checked_source}
use Rattle.plane_rows.proofs.FactorLaws.{plane-level, plane-product}
use Rattle.plane_rows.proofs.LevelParts.{cells-of}
use Rattle.plane_rows.proofs.planes.values.Goals as goal

pub returns-in-Level : goal.returns-in-Level
returns-in-Level c =
    let a = c.part.ensures in
    cells-of _ _ _ _ _ _ c.requires.1 (c.widen.ensures ∙ tabulate-cong _ _ _ (λ k k<. a.same k (omega (arith, a.size, c.requires.1)) ∙ sym (plane-level (checked_source c.args.view.now.source) _ c.in-Level.ensures.values c.args.row (c.args.stretch.first + k))))

pub returns-in-Square : goal.returns-in-Square
returns-in-Square c =
    let a = c.part-levels.ensures in
    let plane = plane-product (checked_source c.args.view.now.source) _ _ c.in-Square.ensures.values c.args.row in
    cells-of _ _ _ _ _ _ c.requires.1 (c.multiply.ensures ∙ tabulate-cong _ _ _ (λ k k<. let e = a.same k (omega (arith, a.size, c.requires.1)) in ap₂ ◌*ℤ◌ e e ∙ sym (plane (c.args.stretch.first + k))))

pub returns-in-Product : goal.returns-in-Product
returns-in-Product c =
    let a = c.part-levels-in-Product.ensures in
    let b = c.part-in-Product.ensures in
    let plane = plane-product (checked_source c.args.view.now.source) _ _ c.in-Product.ensures.values c.args.row in
    cells-of _ _ _ _ _ _ c.requires.1
    (c.multiply-in-Product.ensures
    ∙ tabulate-cong _ _ _ (λ k k<. ap₂ ◌*ℤ◌ (a.same k (omega (arith, a.size, c.requires.1))) (b.same k (omega (arith, b.size, c.requires.1))) ∙ sym (plane (c.args.stretch.first + k))))
