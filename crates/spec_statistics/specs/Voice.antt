-- Voice answer: "Empty if N = 0; Steady with a level if Vf = 0; otherwise Grainy with a level and a spread".
-- Assumes nothing.
use Rattle.std.specs.Prelude.{Bool, true, false, ℤ, pos, negsuc, nat_abs, Float}
use Rattle.std.specs.Float.{binary32}
use Rattle.std.specs.Float.Ieee.{round}
use Rattle.spec_picture.specs.Refusal.{Outcome}
use Rattle.spec_statistics.specs.declared.Sums.{Sums}
use Rattle.spec_statistics.specs.SixSums.{Vf, unless9, no_cell, is_zero}
use Rattle.spec_statistics.specs.Moments.{mean, deviation}

abbrev pub negative : ℤ → Bool
negative (pos n) = false
negative (negsuc n) = true

-- "over 32,768, as 32-bit floats": the float nearest to m / 32768, which is exact, and +0 at 0 (`proofs/Values`)
unfoldable pub over32768 : ℤ → Float
over32768 m = round binary32 (negative m) (nat_abs m) 32768

pub data Voice : Type 0 where
  empty : Voice
  steady : (level : Float) → Voice
  grainy : (level spread : Float) → Voice

unfoldable pub voice : Sums → Voice
voice z = elim (no_cell z) [
  | true ↦ empty
  | false ↦ elim (is_zero (Vf z)) [
    | true ↦ steady (over32768 (mean z))
    | false ↦ grainy (over32768 (mean z)) (over32768 (pos (deviation z)))
  ]
]

unfoldable pub voice_call : Sums → Outcome Voice
voice_call z = unless9 z (voice z)
