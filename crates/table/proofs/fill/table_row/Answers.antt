-- `table::fill::table_row` meets its contract. Assumes nothing.
use Rattle.std.proofs.Common.{arith, ◌∙◌, refl, sym, ap, List, get_or, ℤ, pos}
use Rattle.numbers.proofs.Grids.{get_d_tabulate}
use Rattle.spec_picture.specs.Picture.{plane_at}
use Rattle.spec_picture.specs.Checked.{checked_source}
use Rattle.plane_rows.proofs.LevelParts.{at-place}
use Rattle.plane_rows.proofs.FactorLaws.{plane-level}
use Rattle.table.proofs.TableRows.{row-as, row-of-part}
use Rattle.table.proofs.fill.table_row.Goals as goal

pub returns-in-Some : goal.returns-in-Some
returns-in-Some c =
    let levels = rw c.view_of-view.ensures at c.in-Some.ensures in
    let plane = plane-level (checked_source c.args.source.now) _ c.in-Level.ensures.values c.args.i in
    row-as c.requires.width _ _ _ _ c.next_levels.ensures (λ q q<. at-place _ _ _ _ levels q (omega (arith, levels.size, c.requires.width)) ∙ sym (plane q))

pub returns-in-None : goal.returns-in-None
returns-in-None c =
    let levels = rw c.view_of-view.ensures at c.copied.ensures in
    let plane = plane-level (checked_source c.args.source.now) _ c.in-Level.ensures.values c.args.i in
    row-as c.requires.width _ _ _ _ c.next_levels-in-None.ensures (λ q q<. ap (λ (l : List ℤ). get_or l q (pos 0)) levels ∙ get_d_tabulate _ q _ (pos 0) q< ∙ sym (plane q))

pub returns-in_default : goal.returns-in_default
returns-in_default c = row-of-part (plane_at (checked_source c.args.source.now)) c.args.i refl _ _ _ c.plane_row.ensures c.next_row.ensures
