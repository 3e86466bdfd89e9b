-- "When a call is turned down": an operation's answer, and the checks before it, in number order.
-- Assumes nothing.
use Rattle.std.specs.Prelude.{ℕ, Bool, true, false, List, [], ◌∷◌, ℤ}
use Rattle.std.proofs.Math.Option.{Option, none, some}

-- what a call answers: the number of its refusal alone, or its result
pub data Outcome (A : Type 0) : Type 0 where
  refused : ℕ → Outcome A
  answered : A → Outcome A

-- one line of the table of refusals: the number that comes back, when the condition holds
infix 25 ◌when◌
pub data Check : Type 0 where
  ◌when◌ : ℕ → Bool → Check

-- the number of the first check whose condition holds; `none` if the call is accepted
unfoldable pub refusal : List Check → Option ℕ
refusal [] = none
refusal ((n when c) ∷ rest) = elim c [ true ↦ some n | false ↦ refusal rest ]

-- the answer of a call with these checks, and this result where none of them holds
unfoldable pub outcome : {A : Type 0} → Option ℕ → A → Outcome A
outcome (some n) a = refused n
outcome none a = answered a

-- an operation that "answers only that it was done": its answer, and what it leaves in its area
pub record Filling : Type 0 where
  pub answer : Outcome Unit
  pub area : List ℤ

-- "every lent buffer .. keep[s its] bytes" where the call is refused; otherwise the area holds what was written
unfoldable pub filling : Option ℕ → (old new : List ℤ) → Filling
filling (some n) old new = record { answer = refused n; area = old }
filling none old new = record { answer = answered tt; area = new }

-- the numbers of a list of checks: "Checks run in number order"
unfoldable pub numbers_of : List Check → List ℕ
numbers_of [] = []
numbers_of ((n when c) ∷ rest) = n ∷ numbers_of rest
