-- `slope_loops::loops::tests::gathered_of` meets its contract. Assumes nothing.
use Rattle.std.proofs.Common.{rules}
use native.Mathlib.Omega.{arith}
use Rattle.slope_loops.specs.declared.padding.TheConstants.{ROW_LENGTH}
use Rattle.slope_loops.proofs.Same.{same-length, same-at_most}
use Rattle.slope_loops.proofs.loops.tests.gathered_of.Goals as goal

pub gather_added-requires : goal.gather_added-requires
gather_added-requires g c =
    let S = g.S.Slope in
    let V = g.S.Value.PlaneValue in (
      search rules,
      (
        search rules,
        (
          record {
            length_a = same-length V.value ROW_LENGTH c.args.enters;
            length_b = same-length V.value ROW_LENGTH c.args.leaves;
            length_sums = same-length S.sum ROW_LENGTH c.args.sum;
            room = omega arith;
            room_a = omega arith;
            room_b = omega arith;
            within = same-at_most S.sum ROW_LENGTH c.args.sum _ _ _ c.requires.0;
          },
          same-at_most V.value ROW_LENGTH c.args.enters _ _ _ c.requires.1,
          same-at_most V.value ROW_LENGTH c.args.leaves _ _ _ c.requires.2,
        ),
      ),
    )
