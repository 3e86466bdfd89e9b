-- `row_loops::entering_loops::products` meets its contract. Assumes nothing.
use mathlib.Core.Path.{◌≡◌, ◌∙◌, ap, ap₂}
use borrow.Author.Rules.{rules}
use native.Mathlib.Omega.{arith}
use lib.IntN.{ℤ, ◌+ℤ◌, ◌-ℤ◌, ◌*ℤ◌}
use mir.Facts.{to_z-of_z}
use mir.Syntax.{w16, w64}
use mir.Val.{SFits}
use Rattle.numbers.specs.Wrap.{wrap}
use Rattle.numbers.proofs.Wraps.{wrap-add-right}
use Rattle.numbers.proofs.Writes.{at, upto-more, upto_all}
use Rattle.row_loops.proofs.entering_loops.products.Goals as goal

pub loop-k-preserved : goal.loop-k-preserved
loop-k-preserved c =
    let l = c.loop-k in
    let s = c.args in
    let a = at s.a.now l.k in
    let b = at s.b.now l.k in
    let d = at s.c.now l.k in
    let e = at s.d.now l.k in
    let w : SFits w64 (at l.sums l.k) = search rules in
    let fa : SFits w16 a = search rules in
    let fb : SFits w16 b = search rules in
    let fd : SFits w16 d = search rules in
    let fe : SFits w16 e = search rules in
    let x : SFits w64 c.product-enter.result = record { sfits = c.product-enter.type_inv } in
    let y : SFits w64 c.product-leave.result = record { sfits = c.product-leave.type_inv } in
    let t : SFits w64 c.wrapping_sub.result = record { sfits = c.wrapping_sub.type_inv } in
    let r : SFits w64 c.wrapping_add.result = record { sfits = c.wrapping_add.type_inv } in
    let enter : c.product-enter.result ≡ a *ℤ b = simp (to_z-of_z, fa, fb) at c.product-enter.ensures in
    let leave : c.product-leave.result ≡ d *ℤ e = simp (to_z-of_z, fd, fe) at c.product-leave.ensures in
    upto-more l.invariant _ (omega arith)
    (to_z-of_z {w = w64} r ∙ simp (to_z-of_z, w, t) at c.wrapping_add.ensures
    ∙ ap (λ (z : ℤ). wrap (at l.sums l.k +ℤ z)) (simp (to_z-of_z, x, y) at c.wrapping_sub.ensures)
    ∙ wrap-add-right (at l.sums l.k) _
    ∙ ap₂ (λ (p q : ℤ). wrap (at l.sums l.k +ℤ (p -ℤ q))) enter leave
    ∙ ap (λ (z : ℤ). wrap (z +ℤ (a *ℤ b -ℤ d *ℤ e))) (l.invariant.rest l.k (omega arith)))

pub returns : goal.returns
returns c = upto_all c.loop-k.invariant (omega arith)
