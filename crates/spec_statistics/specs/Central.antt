-- N, Vf, Vg and C together, which the statistics share.
-- Assumes nothing.
use Rattle.std.proofs.Math.Option.{Option}
use Rattle.std.specs.Prelude.{nat_abs}
use Rattle.spec_picture.specs.Refusal.{Outcome}
use Rattle.spec_statistics.specs.declared.Sums.{Sums}
use Rattle.spec_statistics.specs.declared.CentralMoments.{CentralMoments}
use Rattle.spec_statistics.specs.SixSums.{Vf, Vg, covariance, unless9, count}
use Rattle.spec_statistics.specs.Moments.{unless_empty}

-- Vf and Vg by their magnitudes, since those of possible sums are not negative
abbrev pub central_moments : Sums → CentralMoments
central_moments z = record { count = count z; vf = nat_abs (Vf z); vg = nat_abs (Vg z); c = covariance z }

unfoldable pub central_call : Sums → Outcome (Option CentralMoments)
central_call z = unless9 z (unless_empty z (central_moments z))
