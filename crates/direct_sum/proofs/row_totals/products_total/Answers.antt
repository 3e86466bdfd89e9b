-- `direct_sum::row_totals::products_total` meets its contract. Assumes nothing.
use mathlib.Core.Path.{◌≡◌, sym, ◌∙◌, ap}
use Prim.Native.Nat.{ℕ}
use native.Mathlib.Numerals.{add-one}
use Rattle.std.proofs.Common.{rules}
use lib.IntN.{◌+ℤ◌, ◌*ℤ◌}
use mir.Syntax.{w16, w64}
use mir.Val.{SFits, to_z}
use mir.Facts.{to_z-of_z}
use Rattle.numbers.specs.Sum.{sum_to}
use Rattle.numbers.specs.Wrap.{wrap}
use Rattle.numbers.proofs.Writes.{at}
use Rattle.numbers.proofs.Running.{running_more}
use Rattle.direct_sum.proofs.row_totals.products_total.Goals as goal

pub loop-k-preserved : goal.loop-k-preserved
loop-k-preserved c =
    let l = c.loop-k in
    let a = c.args.a.now in
    let b = c.args.b.now in
    let x : SFits w16 (at a l.k) = search rules in
    let y : SFits w16 (at b l.k) = search rules in
    let p : SFits w64 c.product.result = record { sfits = c.product.type_inv } in
    let r : SFits w64 c.wrapping_add-s.result = record { sfits = c.wrapping_add-s.type_inv } in
    let product : c.product.result ≡ at a l.k *ℤ at b l.k = simp (to_z-of_z, x, y) at c.product.ensures in
    let added : c.wrapping_add-s.result ≡ wrap (to_z w64 l.s-bits +ℤ c.product.result) = simp (to_z-of_z, p) at c.wrapping_add-s.ensures in
    simp (to_z-of_z, r) (added ∙ running_more (λ n. at a n *ℤ at b n) l.k (to_z w64 l.s-bits) c.product.result l.invariant (ap wrap product) ∙ ap (λ (n : ℕ). wrap (sum_to n (λ n. at a n *ℤ at b n))) (sym (add-one l.k)))
