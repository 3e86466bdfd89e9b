-- `arithmetic::wrapping::wrapping_sub` meets its contract. Assumes nothing.
use Rattle.std.proofs.Common.{◌-ℤ◌, ◌∙◌, w64}
use Rattle.std.proofs.lemmas.Int.{wrapping_sub_is}
use Rattle.arithmetic.proofs.Same.{wrap-is}
use Rattle.arithmetic.proofs.wrapping.wrapping_sub.Goals as goal

pub returns : goal.returns
returns c = wrapping_sub_is w64 _ _ c.ranges.a c.ranges.b ∙ wrap-is (c.args.a -ℤ c.args.b)
