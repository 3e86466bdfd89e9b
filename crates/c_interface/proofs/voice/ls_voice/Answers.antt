-- `c_interface::voice::ls_voice` meets its contract. Assumes nothing.
use borrow.Author.Rules.{rules}
use lib.Ieee.{of_bits}
use Rattle.spec_c.specs.CResult.{status, result_or, c_result}
use Rattle.c_interface.proofs.voice.ls_voice.Goals as goal

pub returns-in-Ok-Steady : goal.returns-in-Ok-Steady
unfolding of_bits status result_or c_result
returns-in-Ok-Steady c = search rules
