-- Document 01's "Shortcuts that sound wrong", and a spread of 0, computed from the definitions.
-- Assumes nothing.
use mathlib.Core.Path.{◌≡◌, refl}
use mathlib.Core.Option.{some}
use mathlib.Core.Bool.{false}
use lib.IntN.{ℤ, pos, negsuc}
use lib.Ieee.{fin, round}
use Rattle.numbers.specs.Round.{floor_div, nearest, root_step, root_in, root, root_over}
use Rattle.spec_picture.specs.Refusal.{answered, refusal, outcome}
use Rattle.spec_statistics.specs.declared.Sums.{Sums}
use Rattle.spec_statistics.specs.SixSums.{Vf, impossible}
use Rattle.spec_statistics.specs.Moments.{mean, variance, deviation, unless_empty, mean_call, variance_call, deviation_call}
use Rattle.spec_statistics.specs.Voice.{grainy, over32768, voice, voice_call}

-- the six sums of one picture: its cells, their sum and the sum of their squares
abbrev alone : (n s a : ℤ) → Sums
alone n s a = record { n = n; s = s; t = s; a = a; b = a; p = a }

-- "-3/2 becomes -1 by luck": cells -1, -2
pub minus-three-halves : mean_call (alone (pos 2) (negsuc 2) (pos 5)) ≡ answered (some (negsuc 0))
unfolding mean_call mean unless_empty nearest floor_div outcome refusal impossible
minus-three-halves = refl

-- "-5/3 becomes -1 in place of -2": cells -1, -2, -2
pub minus-five-thirds : mean_call (alone (pos 3) (negsuc 4) (pos 9)) ≡ answered (some (negsuc 1))
unfolding mean_call mean unless_empty nearest floor_div outcome refusal impossible
minus-five-thirds = refl

-- "cells 3, -1, -1 have Vf 32 and variance 4 (32/9), yet deviation 1, not 2"
abbrev uneven : Sums
uneven = alone (pos 3) (pos 1) (pos 11)

pub uneven-vf : Vf uneven ≡ pos 32
uneven-vf = refl

pub uneven-variance : variance_call uneven ≡ answered (some (pos 4))
unfolding variance_call variance unless_empty nearest floor_div outcome refusal impossible
uneven-variance = refl

pub uneven-deviation : deviation_call uneven ≡ answered (some (pos 1))
unfolding deviation_call deviation unless_empty root_step root_in root root_over outcome refusal impossible
uneven-deviation = refl

-- "A spread of 0 is legal": cells 0, 0, 1 have Vf 2 and deviation 0, and are Grainy; both zeros are positive
pub spread-0 : voice_call (alone (pos 3) (pos 1) (pos 1)) ≡ answered (grainy (fin false 0 (pos 0)) (fin false 0 (pos 0)))
unfolding voice_call voice mean deviation nearest floor_div root_step root_in root root_over over32768 round outcome refusal impossible
spread-0 = refl
