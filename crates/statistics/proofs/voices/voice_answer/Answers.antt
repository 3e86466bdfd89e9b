-- `statistics::voices::voice_answer` meets its contract. Assumes nothing.
use borrow.Author.Rules.{rules}
use mathlib.Core.Path.{◌≡◌, sym, ap, ◌∙◌}
use mathlib.Core.Option.{some}
use native.Mathlib.Omega.{arith}
use borrow.Author.Tests.{eq-eqb, ne_eqb}
use lib.IntN.{pos, nat_abs}
use lib.Ieee.{Float}
use Rattle.spec_picture.specs.Refusal.{answered}
use Rattle.spec_statistics.specs.declared.Sums.{Sums}
use Rattle.spec_statistics.specs.declared.CentralMoments.{CentralMoments}
use Rattle.spec_statistics.specs.SixSums.{Vf, count}
use Rattle.spec_statistics.specs.Moments.{mean, deviation}
use Rattle.spec_statistics.specs.Central.{central_call}
use Rattle.spec_statistics.specs.Voice.{over32768, steady, grainy, voice, voice_call}
use Rattle.spec_statistics.proofs.Bounds.{answers}
use Rattle.spec_statistics.proofs.Inner.{moments-given, vf-is, mean-required, mean-is, mean-small, square-small, ratio, root-small, deviation-is, deviation-small}
use Rattle.statistics.proofs.voices.voice_answer.Goals as goal

module _ (z : Sums) (m : CentralMoments) (e : answered (some m) ≡ central_call z) (level : Float) (level-is : level ≡ over32768 (mean z)) where
  steady-answer : m.vf ≡ 0 → answered (steady level) ≡ voice_call z
  unfolding voice_call voice
  steady-answer h =
      let t = moments-given z m e in
      rw (answers z (voice z) t.possible, ne_eqb (count z) 0 t.some_cell, eq-eqb (nat_abs (Vf z)) 0 (sym (vf-is z m e) ∙ h), level-is, voice)

  grainy-answer : (m.vf ≡ 0 → ⊥) → (spread : Float) → spread ≡ over32768 (pos (deviation z)) → answered (grainy level spread) ≡ voice_call z
  unfolding voice_call voice
  grainy-answer h spread spread-is =
      let t = moments-given z m e in
      rw (answers z (voice z) t.possible, ne_eqb (count z) 0 t.some_cell, ne_eqb (nat_abs (Vf z)) 0 (λ k. h (vf-is z m e ∙ k)), level-is, spread-is, voice)

pub nearest-requires : goal.nearest-requires
nearest-requires c = mean-required c.args.z _ (rw c.in-Some.is at c.in_ok-m.ensures) (search rules)

pub over_32768-level-requires : goal.over_32768-level-requires
over_32768-level-requires c = mean-small c.args.z _ (rw c.in-Some.is at c.in_ok-m.ensures) (search rules) _ (search rules) c.nearest.ensures

pub returns-then-m-eq0 : goal.returns-then-m-eq0
returns-then-m-eq0 c =
    let given = rw c.in-Some.is at c.in_ok-m.ensures in
    let level-is = c.over_32768-level.ensures ∙ ap over32768 (mean-is c.args.z _ given (search rules) _ (search rules) c.nearest.ensures) in
    steady-answer c.args.z _ given _ level-is c.if-m-eq0.true

pub overflow_mul-m : goal.overflow_mul-m
overflow_mul-m c = record { fits = omega (arith, square-small c.args.z _ (rw c.in-Some.is at c.in_ok-m.ensures)) }

pub whole_root-requires : goal.whole_root-requires
whole_root-requires c = ratio c.args.z _ (rw c.in-Some.is at c.in_ok-m.ensures)

pub overflow_cast-whole_root : goal.overflow_cast-whole_root
overflow_cast-whole_root c = record { sfits = omega (arith, root-small c.args.z _ (rw c.in-Some.is at c.in_ok-m.ensures) _ c.whole_root.ensures) }

pub over_32768-spread-requires : goal.over_32768-spread-requires
over_32768-spread-requires c = deviation-small c.args.z _ (rw c.in-Some.is at c.in_ok-m.ensures) _ c.whole_root.ensures

pub returns : goal.returns
returns c =
    let given = rw c.in-Some.is at c.in_ok-m.ensures in
    let level-is = c.over_32768-level.ensures ∙ ap over32768 (mean-is c.args.z _ given (search rules) _ (search rules) c.nearest.ensures) in
    let spread-is = c.over_32768-spread.ensures ∙ ap over32768 (deviation-is c.args.z _ given _ c.whole_root.ensures) in
    grainy-answer c.args.z _ given _ level-is c.if-m-eq0.false _ spread-is
