-- `steady_search::steady_cells::voice_of_sums` meets its contract. Assumes nothing.
use mathlib.Core.Path.{◌≡◌, refl}
use mathlib.Core.Bool.{false}
use mir.Facts.{to_z-of_z}
use Rattle.std.specs.Prelude.{Result, Ok, Err, IsOk}
use Rattle.spec_picture.specs.Refusal.{answered}
use Rattle.spec_picture.specs.declared.Refusal.{Refusal}
use Rattle.spec_statistics.specs.declared.Sums.{Sums}
use Rattle.spec_statistics.specs.declared.Voice as declared
use Rattle.spec_statistics.specs.SixSums.{impossible}
use Rattle.spec_statistics.specs.Voice.{voice, voice_call}
use Rattle.spec_statistics.specs.Answers.{voice_of, voice_outcome}
use Rattle.spec_statistics.proofs.Bounds.{possible-has, answers}
use Rattle.steady_search.specs.SteadyCells.{first_sums}
use Rattle.steady_search.proofs.steady_cells.voice_of_sums.Goals as goal

is-answered : (z : Sums) → impossible z ≡ false → voice_call z ≡ answered (voice z)
unfolding voice_call
is-answered z p = answers z (voice z) (possible-has z p)

module _ (z : Sums) (p : impossible z ≡ false) where
  some_voice : (r : Result declared.Voice Refusal) → voice_outcome r ≡ voice_call z → IsOk r
  some_voice (Ok v) e = refl
  some_voice (Err x) e = absurd (let t = is-answered z p in cc)

  the_voice : (r : Result declared.Voice Refusal) (v : declared.Voice) → voice_outcome r ≡ voice_call z → r ≡ Ok v → voice_of v ≡ voice z
  the_voice r v e is = let t = is-answered z p in cc

pub unwrap-requires : goal.unwrap-requires
unwrap-requires c =
    let h = simp (to_z-of_z, c.ranges.n, c.ranges.s, c.ranges.a) at c.voice_answer.ensures in
    some_voice (first_sums c.args.n c.args.s c.args.a) c.requires c.voice_answer.result h

pub returns : goal.returns
returns c =
    let h = simp (to_z-of_z, c.ranges.n, c.ranges.s, c.ranges.a) at c.voice_answer.ensures in
    the_voice (first_sums c.args.n c.args.s c.args.a) c.requires c.voice_answer.result c.unwrap.result h c.unwrap.ensures
