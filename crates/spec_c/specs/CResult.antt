-- What a call of the C interface hands back: its status, and what is behind its result pointers.
-- Assumes nothing.
use Rattle.std.specs.Prelude.{ℕ, false, ℤ, pos, negsuc, Float}
use Rattle.std.proofs.Math.Option.{Option, none, some}
use Rattle.std.specs.Float.{fin}
use Rattle.spec_picture.specs.Refusal.{Outcome, refused, answered}
use Rattle.spec_picture.specs.declared.Cell.{Cell}
use Rattle.spec_statistics.specs.declared.Sums.{Sums}
use Rattle.spec_statistics.specs.Voice.{Voice, empty, steady, grainy}
use Rattle.spec_statistics.specs.Coefficient as coefficients
use Rattle.spec_statistics.specs.Coefficient.{Coefficient}

-- status 0 and a value, or another status and no value
pub data CResult (A : Type 0) : Type 0 where
  with_value : A → CResult A
  without_value : (status : ℤ) → CResult A

unfoldable pub status : {A : Type 0} → CResult A → ℤ
status (with_value a) = pos 0
status (without_value s) = s

-- what is behind the result pointers after the call: the value, or what was there before
unfoldable pub result_or : {A : Type 0} → A → CResult A → A
result_or old (with_value a) = a
result_or old (without_value s) = old

-- "Only the number comes back" of a call that is turned down: it is the status. What a call answers has a result of its own, `with_value` if
-- it always has a value
unfoldable pub c_result : {A B : Type 0} → (A → CResult B) → Outcome A → CResult B
c_result of (refused n) = without_value (pos n)
c_result of (answered a) = of a

-- ---- answers that may have no value, each with a status of its own
abbrev pub empty_status : ℤ
empty_status = negsuc 0

abbrev pub flat_status : ℤ
flat_status = negsuc 1

abbrev pub nowhere_status : ℤ
nowhere_status = negsuc 2

-- "six sums N, S, T, A, B, P"
abbrev pub sums : (n s t a b p : ℤ) → Sums
sums n s t a b p = record { n = n; s = s; t = t; a = a; b = b; p = p }

-- an answer that may be none, which has this status
abbrev pub of_option : {A : Type 0} → ℤ → Option A → CResult A
of_option s none = without_value s
of_option s (some a) = with_value a

-- "Mean, variance and deviation answer Empty when N = 0": `none` is Empty
abbrev pub of_whole : Option ℤ → CResult ℤ
of_whole = of_option empty_status

-- "Empty if N = 0; Flat if Vf or Vg is 0; otherwise" a number
abbrev pub of_coefficient : Coefficient → CResult ℤ
of_coefficient coefficients.empty = without_value empty_status
of_coefficient coefficients.flat = without_value flat_status
of_coefficient (coefficients.value c) = with_value c

-- "the first cell in row order whose voice answer is Steady, or None": `none` is Nowhere
abbrev pub of_cell : Option Cell → CResult Cell
of_cell = of_option nowhere_status

-- ---- voices
abbrev pub steady_kind : ℕ
steady_kind = 1

abbrev pub grainy_kind : ℕ
grainy_kind = 2

-- what is behind the three result pointers of a voice
pub record VoiceResult : Type 0 where
  pub kind : ℕ
  pub level : Float
  pub spread : Float

abbrev pub voice_result : ℕ → Float → Float → VoiceResult
voice_result k l s = record { kind = k; level = l; spread = s }

-- "Empty if N = 0; Steady with a level if Vf = 0; otherwise Grainy with a level and a spread". The spread of Steady is +0
abbrev pub of_voice : Voice → CResult VoiceResult
of_voice empty = without_value empty_status
of_voice (steady l) = with_value (voice_result steady_kind l (fin false 0 (pos 0)))
of_voice (grainy l s) = with_value (voice_result grainy_kind l s)
