-- `statistics::central::covariance` meets its contract. Assumes nothing.
use Prim.Native.Nat.{◌*◌, ◌^◌, ◌≤◌}
use native.Mathlib.Omega.{arith}
use native.Mathlib.Nat.{mul-le-mul}
use lib.IntN.{ℤ, nat_abs, ◌-ℤ◌, ◌*ℤ◌}
use mir.Syntax.{w64}
use mir.Val.{SFits}
use mir.Facts.{to_z-of_z}
use Rattle.numbers.proofs.Magnitudes.{size-mul, size-sub, fits64}
use Rattle.spec_statistics.specs.Limits.{Factors}
use Rattle.statistics.proofs.central.covariance.Goals as goal

module _ (n s t p : ℤ) (h : Factors n s t p) where
  np-size : nat_abs (n *ℤ p) ≤ 65025 * (2 ^ 30 * 65025)
  np-size = omega (arith, size-mul n p, mul-le-mul h.count h.product)

  st-size : nat_abs (s *ℤ t) ≤ 32768 * 65025 * (32768 * 65025)
  st-size = omega (arith, size-mul s t, mul-le-mul h.first h.second)

  np : SFits w64 (n *ℤ p)
  np = fits64 (n *ℤ p) (omega (arith, np-size))

  st : SFits w64 (s *ℤ t)
  st = fits64 (s *ℤ t) (omega (arith, st-size))

  whole : SFits w64 (n *ℤ p -ℤ s *ℤ t)
  whole = fits64 (n *ℤ p -ℤ s *ℤ t) (omega (arith, np-size, st-size, size-sub (n *ℤ p) (s *ℤ t)))

pub overflow_sub-result : goal.overflow_sub-result
overflow_sub-result c =
    let f = np c.args.n c.args.s c.args.t c.args.p c.requires in
    let g = st c.args.n c.args.s c.args.t c.args.p c.requires in
    simp (to_z-of_z, c.ranges.n, c.ranges.s, c.ranges.t, c.ranges.p, f, g) (whole c.args.n c.args.s c.args.t c.args.p c.requires)

pub returns : goal.returns
returns c =
    let f = np c.args.n c.args.s c.args.t c.args.p c.requires in
    let g = st c.args.n c.args.s c.args.t c.args.p c.requires in
    let h = whole c.args.n c.args.s c.args.t c.args.p c.requires in
    simp (to_z-of_z, c.ranges.n, c.ranges.s, c.ranges.t, c.ranges.p, f, g, h)
