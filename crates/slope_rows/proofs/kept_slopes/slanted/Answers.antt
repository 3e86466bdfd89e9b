-- `slope_rows::kept_slopes::slanted` meets its contract. Assumes nothing.
use mathlib.Core.Path.{sym, ◌∙◌}
use Rattle.slope_rows.proofs.Windows.{window-fits}
use Rattle.slope_rows.proofs.kept_slopes.slanted.Goals as goal

pub invariant_of-result : goal.invariant_of-result
invariant_of-result c = record { fits = window-fits c.args.inputs.now.window _ _ (sym c.is_rectangle.ensures ∙ c.if-is_rectangle.false) c.height-height.ensures c.width-width.ensures; kept = c.kept_beside-beside.ensures }
