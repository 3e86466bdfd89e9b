-- `panel_text::panel_read::count` meets its contract. Assumes nothing.
use Rattle.std.proofs.Common.{◌∙◌}
use Rattle.std.proofs.lemmas.Int.{to_z-of_z}
use Rattle.panel_text.proofs.Drawings.{counted}
use Rattle.panel_text.proofs.panel_read.count.Goals as goal

pub returns : goal.returns
returns c =
    let fits = c.ranges.n in
    c.unwrap_or.ensures ∙ counted _ c.try_from.result (simp (to_z-of_z, fits) at c.try_from.ensures) fits
