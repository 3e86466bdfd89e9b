-- What the answers of the code say, in document 01's words.
-- Assumes nothing.
use Rattle.std.specs.Prelude.{ℕ, Ok, Err, Result}
use Rattle.std.specs.Prelude as code
use Rattle.std.proofs.Math.Option.{Option, none, some}
use Rattle.spec_picture.specs.Refusal.{Outcome, refused, answered}
use Rattle.spec_picture.specs.declared.Refusal.{Refusal}
use Rattle.spec_picture.specs.declared.Refusal.TheVariants as line

-- the number of a refusal in the table
abbrev pub number : Refusal → ℕ
number line.Size = 1
number line.Length = 2
number line.Window = 3
number line.Shift = 4
number line.Plane = 5
number line.Cell = 6
number line.Position = 7
number line.Area = 8
number line.Sums = 9
number line.Text = 10
number line.Width = 11

-- a refusal's number, or the result
abbrev pub outcome_of : {A : Type 0} → Result A Refusal → Outcome A
outcome_of (Ok a) = answered a
outcome_of (Err r) = refused (number r)

-- a refusal's number, or what the result stands for
abbrev pub outcome_by : {A B : Type 0} → (A → B) → Result A Refusal → Outcome B
outcome_by f (Ok a) = answered (f a)
outcome_by f (Err r) = refused (number r)

-- the same of a result that may be none
abbrev pub option_of : {A : Type 0} → code.Option A → Option A
option_of code.None = none
option_of (code.Some a) = some a

abbrev pub optional_outcome : {A : Type 0} → Result (code.Option A) Refusal → Outcome (Option A)
optional_outcome (Ok a) = answered (option_of a)
optional_outcome (Err r) = refused (number r)

-- what checks alone answer: the number of the first whose condition holds, or none
abbrev pub refused_by : Result Unit Refusal → Option ℕ
refused_by (Ok u) = none
refused_by (Err r) = some (number r)
