-- Coefficient: "Empty if N = 0; Flat if Vf or Vg is 0; otherwise the sign of C times the largest whole c .. with c²·Vf·Vg ≤ 1,000,000·C²".
-- Assumes nothing.
use Rattle.std.specs.Prelude.{ℕ, ◌*◌, true, false, ◌||◌, ℤ, pos, negsuc, neg_ℤ, nat_abs}
use Rattle.numbers.specs.Round.{root_over}
use Rattle.spec_picture.specs.Refusal.{Outcome}
use Rattle.spec_statistics.specs.declared.Sums.{Sums}
use Rattle.spec_statistics.specs.SixSums.{Vf, Vg, covariance, unless9, no_cell, is_zero}

pub data Coefficient : Type 0 where
  empty : Coefficient
  flat : Coefficient
  value : ℤ → Coefficient

-- "the sign of C times" a whole number
unfoldable pub signed : ℤ → ℕ → ℤ
signed (pos c) n = pos n
signed (negsuc c) n = neg_ℤ (pos n)

-- "the largest whole c, of any size, with c²·Vf·Vg ≤ 1,000,000·C²"
unfoldable pub magnitude : Sums → ℕ
magnitude z = root_over (1000000 * (nat_abs (covariance z) * nat_abs (covariance z))) (nat_abs (Vf z) * nat_abs (Vg z))

unfoldable pub coefficient : Sums → Coefficient
coefficient z = elim (no_cell z) [
  | true ↦ empty
  | false ↦ elim (is_zero (Vf z) || is_zero (Vg z)) [
    | true ↦ flat
    | false ↦ value (signed (covariance z) (magnitude z))
  ]
]

unfoldable pub coefficient_call : Sums → Outcome Coefficient
coefficient_call z = unless9 z (coefficient z)
