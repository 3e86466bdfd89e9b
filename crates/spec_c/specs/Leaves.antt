-- What a call of the C interface leaves of what it is lent.
-- Assumes nothing.
use Rattle.std.specs.Prelude.{◌≡◌, ℕ, ℤ, List}
use Rattle.spec_rows.specs.Rows.{RowOutcome}
use Rattle.spec_c.specs.CResult.{CResult, with_value, status, result_or, c_result}

-- a call that hands back a value: its status, and what is behind its result pointers, where `old` was
pub record CallLeaves {A : Type 0} (r : CResult A) (old : A) (result : ℤ) (new : A) : Type 0 where
  pub status_is : result ≡ status r
  pub value_is : new ≡ result_or old r

-- a row call: its status, what is behind the pointer to the granted count, and the position and the areas
pub record RowCallLeaves (call : RowOutcome) (old : ℕ) (result : ℤ) (granted position : ℕ) (work out : List ℤ) : Type 0 where
  pub result_is : CallLeaves (c_result with_value call.answer) old result granted
  pub position_is : position ≡ call.position
  pub work_is : work ≡ call.work
  pub output_is : out ≡ call.output
