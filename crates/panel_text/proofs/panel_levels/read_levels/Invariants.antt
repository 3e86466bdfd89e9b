-- What the loops of `panel_text::panel_levels::read_levels` keep. Assumes nothing.
use Rattle.panel_text.proofs.Levels.{LevelsUpto}
use Rattle.panel_text.proofs.panel_levels.read_levels.Given as goal

abbrev pub invariant-loop-level : goal.invariant-loop-level
invariant-loop-level l = LevelsUpto l.initial.numbers l.initial.levels l.levels l.numbers l.level-index
