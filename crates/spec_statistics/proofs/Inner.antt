-- The inner functions where `central_moments` has given m: what they require holds, and what they return is the statistic.
-- Assumes nothing.
use mathlib.Core.Path.{◌≡◌, ◌∙◌, ap}
use mathlib.Core.Option.{some}
use Prim.Native.Nat.{ℕ, ◌*◌, ◌^◌, ◌≤◌, ◌<◌}
use native.Mathlib.Omega.{arith}
use native.Mathlib.Nat.{mul-le-mul, mul-pos}
use lib.IntN.{ℤ, pos, nat_abs}
use mir.Syntax.{w64}
use mir.Val.{SFits, to_z, of_z}
use mir.Facts.{to_z-of_z, to_z_pos}
use Rattle.numbers.specs.Round.{nearest, root_over}
use Rattle.spec_picture.specs.Refusal.{answered}
use Rattle.spec_statistics.specs.declared.Sums.{Sums}
use Rattle.spec_statistics.specs.declared.CentralMoments.{CentralMoments}
use Rattle.spec_statistics.specs.SixSums.{Vf, Vg, covariance, count}
use Rattle.spec_statistics.specs.Moments.{mean, variance, deviation}
use Rattle.spec_statistics.specs.Central.{central_call}
use Rattle.spec_statistics.specs.Limits.{Quotient, Ratio}
use Rattle.spec_statistics.proofs.Bounds.{is-size}
use Rattle.spec_statistics.proofs.Values.{mean-bound, spread-bound, deviation-bound}
use Rattle.spec_statistics.proofs.Answers.{HasMoments, given-has}

module _ (z : Sums) (m : CentralMoments) (e : answered (some m) ≡ central_call z) where
  pub moments-given : HasMoments z m
  moments-given = given-has z m e

  pub count-is : m.count ≡ count z
  count-is = ap (λ (x : CentralMoments). x.count) moments-given.is

  pub vf-is : m.vf ≡ nat_abs (Vf z)
  vf-is = ap (λ (x : CentralMoments). x.vf) moments-given.is

  pub vg-is : m.vg ≡ nat_abs (Vg z)
  vg-is = ap (λ (x : CentralMoments). x.vg) moments-given.is

  pub c-is : m.c ≡ covariance z
  c-is = ap (λ (x : CentralMoments). x.c) moments-given.is

  some_cell : 0 < count z
  some_cell = let h = moments-given.some_cell in omega arith

  -- ---- the mean
  pub mean-required : SFits w64 z.s → Quotient (to_z w64 (of_z w64 z.s)) m.count
  mean-required f = let b = moments-given.possible.bounded in simp (to_z-of_z, f, count-is) (record { some = some_cell; few = omega (arith, b.few); small = omega (arith, b.few, b.first) })

  pub mean-is : SFits w64 z.s → (x : ℤ) → SFits w64 x → x ≡ nearest (to_z w64 (of_z w64 z.s)) m.count → to_z w64 (of_z w64 x) ≡ mean z
  unfolding mean
  mean-is f x g h = simp (to_z-of_z, g) (simp (to_z-of_z, f, count-is) at h)

  pub mean-small : SFits w64 z.s → (x : ℤ) → SFits w64 x → x ≡ nearest (to_z w64 (of_z w64 z.s)) m.count → nat_abs (to_z w64 (of_z w64 x)) ≤ 32768
  mean-small f x g h = rw (mean-is f x g h) (mean-bound z moments-given.possible some_cell)

  -- ---- the deviation
  pub square-small : m.count * m.count ≤ 65025 * 65025
  square-small = let few = moments-given.possible.bounded.few in rw count-is (mul-le-mul few few)

  pub spread-small : m.vf < 2 ^ 62
  spread-small = omega (arith, vf-is, spread-bound z moments-given.possible, mul-le-mul moments-given.possible.bounded.few moments-given.possible.bounded.few)

  pub ratio : Ratio m.vf (m.count * m.count)
  ratio = record { some = rw count-is (mul-pos some_cell some_cell); few = square-small; small = rw (vf-is, count-is) (spread-bound z moments-given.possible) }

  root-is : (d : ℕ) → d ≡ root_over m.vf (m.count * m.count) → d ≡ deviation z
  unfolding deviation
  root-is d h = rw (vf-is, count-is) at h

  pub root-small : (d : ℕ) → d ≡ root_over m.vf (m.count * m.count) → d ≤ 32768
  root-small d h = rw (root-is d h) (deviation-bound z moments-given.possible some_cell)

  pub deviation-is : (d : ℕ) → d ≡ root_over m.vf (m.count * m.count) → to_z w64 d ≡ pos (deviation z)
  deviation-is d h = to_z_pos w64 (omega (arith, root-small d h)) ∙ ap pos (root-is d h)

  pub deviation-small : (d : ℕ) → d ≡ root_over m.vf (m.count * m.count) → nat_abs (to_z w64 d) ≤ 32768
  deviation-small d h = rw (deviation-is d h) (deviation-bound z moments-given.possible some_cell)

  -- ---- the variance
  vf-signed : to_z w64 m.vf ≡ Vf z
  vf-signed = to_z_pos w64 (omega (arith, spread-small)) ∙ ap pos vf-is ∙ is-size (Vf z) moments-given.possible.spread_f

  pub variance-required : Quotient (to_z w64 m.vf) (m.count * m.count)
  variance-required =
      rw vf-signed
      (record { some = ratio.some; few = square-small; small = omega (arith, spread-bound z moments-given.possible, mul-le-mul moments-given.possible.bounded.few moments-given.possible.bounded.few) })

  pub variance-is : (x : ℤ) → SFits w64 x → x ≡ nearest (to_z w64 m.vf) (m.count * m.count) → to_z w64 (of_z w64 x) ≡ variance z
  unfolding variance
  variance-is x g h = simp (to_z-of_z, g) (rw (vf-signed, count-is) at h)
