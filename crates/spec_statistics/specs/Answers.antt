-- What an answer says: the paper's number and values for each of its cases. Where it may be Empty alone, `picture.specs.Answers.optional_outcome` says it.
-- Assumes nothing.
use Rattle.std.specs.Prelude.{Result, Ok, Err}
use Rattle.spec_picture.specs.Refusal.{Outcome, refused, answered}
use Rattle.spec_picture.specs.declared.Refusal.{Refusal}
use Rattle.spec_picture.specs.Answers.{number}
use Rattle.spec_statistics.specs.declared.Voice as declared
use Rattle.spec_statistics.specs.declared.Coefficient as correlation
use Rattle.spec_statistics.specs.Voice.{Voice, empty, steady, grainy}
use Rattle.spec_statistics.specs.Coefficient as coefficients
use Rattle.spec_statistics.specs.Coefficient.{Coefficient}

abbrev pub voice_of : declared.Voice → Voice
voice_of declared.TheVariants.Empty = empty
voice_of (declared.TheVariants.Steady level) = steady level
voice_of (declared.TheVariants.Grainy grain) = grainy grain.level grain.spread

abbrev pub voice_outcome : Result declared.Voice Refusal → Outcome Voice
voice_outcome (Ok voice) = answered (voice_of voice)
voice_outcome (Err r) = refused (number r)

abbrev pub coefficient_of : correlation.Coefficient → Coefficient
coefficient_of correlation.TheVariants.Empty = coefficients.empty
coefficient_of correlation.TheVariants.Flat = coefficients.flat
coefficient_of (correlation.TheVariants.Value c) = coefficients.value c

abbrev pub coefficient_outcome : Result correlation.Coefficient Refusal → Outcome Coefficient
coefficient_outcome (Ok c) = answered (coefficient_of c)
coefficient_outcome (Err r) = refused (number r)
