-- Mean, variance and deviation of f.
-- Assumes nothing.
use Rattle.std.specs.Prelude.{ℕ, ◌*◌, true, false, ℤ, pos, nat_abs}
use Rattle.std.proofs.Math.Option.{Option, none, some}
use Rattle.numbers.specs.Round.{nearest, root_over}
use Rattle.spec_picture.specs.Refusal.{Outcome}
use Rattle.spec_statistics.specs.declared.Sums.{Sums}
use Rattle.spec_statistics.specs.SixSums.{Vf, unless9, count, no_cell}

-- "Mean of f: the whole number nearest S/N, a half going up"
unfoldable pub mean : Sums → ℤ
mean z = nearest z.s (count z)

-- "Variance of f: the whole number nearest Vf/N², a half going up."
unfoldable pub variance : Sums → ℤ
variance z = nearest (Vf z) (count z * count z)

-- "Deviation of f: the whole d with d²·N² ≤ Vf < (d+1)²·N², taken of the unrounded variance."
unfoldable pub deviation : Sums → ℕ
deviation z = root_over (nat_abs (Vf z)) (count z * count z)

-- "Mean, variance and deviation answer Empty when N = 0": `none` is Empty
unfoldable pub unless_empty : {A : Type 0} → Sums → A → Option A
unless_empty z r = elim (no_cell z) [ true ↦ none | false ↦ some r ]

unfoldable pub mean_call : Sums → Outcome (Option ℤ)
mean_call z = unless9 z (unless_empty z (mean z))

unfoldable pub variance_call : Sums → Outcome (Option ℤ)
variance_call z = unless9 z (unless_empty z (variance z))

unfoldable pub deviation_call : Sums → Outcome (Option ℤ)
deviation_call z = unless9 z (unless_empty z (pos (deviation z)))
