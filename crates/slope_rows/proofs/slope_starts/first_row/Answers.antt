-- `slope_rows::slope_starts::first_row` meets its contract. Assumes nothing.
use mathlib.Core.Path.{◌≡◌, sym, ◌∙◌, ap₂}
use mathlib.Core.List.{map}
use Prim.Native.Nat.{◌+◌}
use native.Mathlib.Omega.{arith}
use lib.IntN.{ℤ, ◌+ℤ◌, ◌-ℤ◌}
use mir.Facts.{to_z-of_z}
use mir.Syntax.{w64}
use mir.Val.{SFits}
use Rattle.numbers.specs.Wrap.{wrap}
use Rattle.numbers.proofs.Wraps.{wrap-add-right}
use Rattle.numbers.proofs.Writes.{at, upto-none, upto-more, upto_all}
use Rattle.slope_rows.proofs.BySlopes.{by-slopes-none, by-slopes-more}
use Rattle.slope_loops.proofs.Numbers.{read}
use Rattle.slope_rows.specs.declared.places.TheConstants.{FALLING_START, RISING_START}
use Rattle.slope_rows.proofs.slope_starts.first_row.Goals as goal

pub loop-j-init : goal.loop-j-init
loop-j-init g c = (upto-none _ _, upto-none _ _, sym (by-slopes-none _ _ _))

pub loop-j-preserved : goal.loop-j-preserved
loop-j-preserved g c =
    let l = c.loop-j in
    let S = g.S.Slope in
    let rises = at (map S.sum c.args.rises.now) (l.j + RISING_START) in
    let falls = at (map S.sum c.args.falls.now) (l.j + FALLING_START + 1) in
    let a : SFits w64 c.to_i64.result = record { sfits = c.to_i64.type_inv } in
    let b : SFits w64 c.to_i64-in-loop-j.result = record { sfits = c.to_i64-in-loop-j.type_inv } in
    let d : SFits w64 c.wrapping_sub-change.result = record { sfits = c.wrapping_sub-change.type_inv } in
    let r : SFits w64 c.wrapping_add-sum.result = record { sfits = c.wrapping_add-sum.type_inv } in
    let change : c.wrapping_sub-change.result ≡ wrap (rises -ℤ falls) =
    simp (to_z-of_z, a, b) at c.wrapping_sub-change.ensures
    ∙ ap₂ (λ (y z : ℤ). wrap (y -ℤ z)) (c.to_i64.ensures ∙ read S.sum c.args.rises.now (l.j + RISING_START) c.index-rises-j.result (omega arith)) (c.to_i64-in-loop-j.ensures ∙ read S.sum c.args.falls.now (l.j + FALLING_START + 1) c.index-falls-j.result (omega arith)) in
    let next = to_z-of_z {w = w64} r ∙ simp (to_z-of_z, d) at c.wrapping_add-sum.ensures ∙ ap₂ (λ (y z : ℤ). wrap (y +ℤ z)) l.invariant.2 change ∙ wrap-add-right _ (rises -ℤ falls) in
    (upto-more l.invariant.0 _ (omega arith) l.invariant.2, upto-more l.invariant.1 _ (omega (arith, c.requires.room)) l.invariant.2, next ∙ by-slopes-more _ _ _ l.j)

pub returns : goal.returns
returns g c =
    let l = c.loop-j in
    (simp (to_z-of_z, c.ranges.first_sum) at (upto_all l.invariant.0 (omega arith)), simp (to_z-of_z, c.ranges.first_sum) at (rw c.requires.room at (upto_all l.invariant.1 (omega arith))))
