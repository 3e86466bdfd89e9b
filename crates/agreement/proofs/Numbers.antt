-- No check bears the number 0, so 0 means that the call is accepted.
-- Assumes nothing.
use mathlib.Core.Path.{◌≡◌, refl}
use mathlib.Core.Bool.{Bool, true, false, ◌&&◌}
use mathlib.Core.List.{List, [], ◌∷◌}
use mathlib.Core.Option.{none}
use native.Mathlib.Omega.{arith}
use lib.Dec.{T, ltb, ltb→lt}
use Rattle.numbers.proofs.Tests.{and_left, and_right}
use Rattle.spec_picture.specs.Refusal.{Check, ◌when◌, refusal}
use Rattle.agreement.specs.Numbers.{number_of}

abbrev pub numbered : List Check → Bool
numbered [] = true
numbered ((n when c) ∷ rest) = ltb 0 n && numbered rest

pub number-0 : (checks : List Check) → T (numbered checks) → number_of (refusal checks) ≡ 0 → refusal checks ≡ none
unfolding number_of refusal
number-0 [] t e = refl
number-0 ((n when true) ∷ rest) t e = absurd (omega (arith, ltb→lt 0 n (and_left (ltb 0 n) (numbered rest) t)))
number-0 ((n when false) ∷ rest) t e = number-0 rest (and_right (ltb 0 n) (numbered rest) t) e
