-- Six sums as the code holds them: each is a number of 64 bits.
-- Assumes nothing.
use mir.Syntax.{w64}
use mir.Val.{SFits}
use Rattle.spec_statistics.specs.declared.Sums.{Sums}

pub record Fit (z : Sums) : Type 0 where
  pub n : SFits w64 z.n
  pub s : SFits w64 z.s
  pub t : SFits w64 z.t
  pub a : SFits w64 z.a
  pub b : SFits w64 z.b
  pub p : SFits w64 z.p
