-- `row_loops::sliding_sums::slide` meets its contract. Assumes nothing.
use mathlib.Core.Path.{◌≡◌, ◌∙◌, ap₂}
use native.Mathlib.Omega.{arith}
use lib.IntN.{ℤ, ◌-ℤ◌}
use lib.ListN.{length}
use mir.Syntax.{w64}
use mir.Val.{SFits}
use mir.Facts.{to_z-of_z}
use Rattle.numbers.specs.Wrap.{wrap}
use Rattle.numbers.proofs.Writes.{upto-none, upto-more, upto_all}
use Rattle.row_loops.specs.SlidingSums.{entered_less_left}
use Rattle.row_loops.proofs.Sliding.{running-none, running-next}
use Rattle.row_loops.proofs.sliding_sums.slide.Goals as goal

pub loop-k-init : goal.loop-k-init
loop-k-init c = rw (to_z-of_z c.ranges.sum) (running-none _ _ c.ranges.sum, upto-none _ _)

pub loop-k-preserved : goal.loop-k-preserved
loop-k-preserved c =
    let l = c.loop-k in
    let x : SFits w64 c.number.result = record { sfits = c.number.type_inv } in
    let y : SFits w64 c.number-in-loop-k.result = record { sfits = c.number-in-loop-k.type_inv } in
    let d : SFits w64 c.wrapping_sub-change.result = record { sfits = c.wrapping_sub-change.type_inv } in
    let r : SFits w64 c.wrapping_add-s.result = record { sfits = c.wrapping_add-s.type_inv } in
    let change : c.wrapping_sub-change.result ≡ wrap (entered_less_left c.args.enter.now c.args.leave.now l.k) =
    simp (to_z-of_z, x, y) at c.wrapping_sub-change.ensures ∙ ap₂ (λ (a b : ℤ). wrap (a -ℤ b)) c.number.ensures c.number-in-loop-k.ensures in
    let next = to_z-of_z {w = w64} r ∙ simp (to_z-of_z, d) at c.wrapping_add-s.ensures ∙ running-next _ _ l.k _ _ l.invariant.0 change in
    (next, upto-more l.invariant.1 _ (omega arith) next)

pub returns : goal.returns
returns c =
    let all : length c.args.out.now ≡ c.loop-k.k = omega arith in
    record {
      sums = simp (to_z-of_z, c.ranges.sum) at (upto_all c.loop-k.invariant.1 (omega arith));
      ends = rw all (simp (to_z-of_z, c.ranges.sum) at c.loop-k.invariant.0);
    }
