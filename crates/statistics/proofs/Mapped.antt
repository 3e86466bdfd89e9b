-- A statistic that goes on from `central_moments`, by what `map` says of its answer.
-- Assumes nothing.
use mathlib.Core.Path.{◌≡◌}
use mathlib.Core.Option.{some}
use lib.IntN.{ℤ}
use Rattle.std.specs.Prelude.{Option, None, Some, MatchOption}
use Rattle.std.specs.Option.{IsSomeAnd}
use Rattle.spec_picture.specs.Refusal.{answered}
use Rattle.spec_picture.specs.Answers.{option_of}
use Rattle.spec_statistics.specs.declared.Sums.{Sums}
use Rattle.spec_statistics.specs.declared.CentralMoments.{CentralMoments}
use Rattle.spec_statistics.specs.SixSums.{unless9}
use Rattle.spec_statistics.specs.Moments.{unless_empty}
use Rattle.spec_statistics.specs.Central.{central_call}
use Rattle.spec_statistics.proofs.Answers.{empty-too, given-too}

pub mapped : (z : Sums) (v : ℤ) (P : CentralMoments → ℤ → Type 0) → ((m : CentralMoments) (y : ℤ) → answered (some m) ≡ central_call z → P m y → y ≡ v) →
    (o : Option CentralMoments) (r : Option ℤ) → answered (option_of o) ≡ central_call z → MatchOption o (r ≡ None) (λ m. IsSomeAnd r (P m)) → answered (option_of r) ≡ unless9 z (unless_empty z v)
mapped z v P computes None r e h = rw h (empty-too z v e)
mapped z v P computes (Some m) None e h = absurd h
mapped z v P computes (Some m) (Some y) e h = given-too z m y v e (computes m y e h)
