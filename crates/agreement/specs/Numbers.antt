-- A refusal as one number, 0 for none, as a status of the C interface has it.
-- Assumes nothing.
use Rattle.std.specs.Prelude.{◌≡◌, ℕ, List, ℤ, pos, negsuc}
use Rattle.std.proofs.Math.Option.{Option, none, some}
use Rattle.spec_picture.specs.Refusal.{Check, refusal}

-- the number of the first check whose condition holds; 0 for none
unfoldable pub number_of : Option ℕ → ℕ
number_of none = 0
number_of (some n) = n

-- a status has the number of the first of these checks whose condition holds, so 0 means that the call is accepted
pub record NumberedBy (checks : List Check) (status : ℤ) : Type 0 where
  pub number_is : status ≡ pos (number_of (refusal checks))
  pub zero_accepts : status ≡ pos 0 → refusal checks ≡ none

-- what a status says of a refusal: an answer that has no value, with a status below 0, is none either
unfoldable pub refusal_status : ℤ → ℤ
refusal_status (pos n) = pos n
refusal_status (negsuc n) = pos 0
