-- `steady_search::steady_cells::first_steady_cell` meets its contract. Assumes nothing.
use borrow.Author.Rules.{rules}
use mathlib.Core.Path.{sym, ◌∙◌}
use Rattle.spec_statistics.specs.declared.Voice.TheVariants.{Steady}
use Rattle.steady_search.proofs.Places.{as-answered, other, column-passed, column-found, no-column, row-passed, row-found, no_row}
use Rattle.steady_search.proofs.steady_cells.first_steady_cell.Goals as goal

pub loop-j-preserved : goal.loop-j-preserved
loop-j-preserved c =
    let l = c.loop-j in
    let here = as-answered c.args.columns c.args.n.now c.args.s.now c.args.a.now c.search.i l.j c.voice_of_sums.result (search rules) (search rules) (search rules) c.voice_of_sums.ensures ∙ other c.voice_of_sums.result c.in_default.not-Steady in
    record {
      none_yet = l.invariant.none_yet;
      rest = sym (column-passed _ l.j c.args.columns c.loop-j-test.true here) ∙ l.invariant.rest;
    }

pub search-preserved : goal.search-preserved
search-preserved c =
    let l = c.search in
    let none-here = sym c.loop-j.invariant.rest ∙ no-column _ c.loop-j.j c.args.columns c.loop-j-test.false in
    record {
      none_yet = c.loop-j.invariant.none_yet;
      rest = sym (row-passed _ c.args.columns l.i c.args.rows c.search-test.true none-here) ∙ l.invariant.rest;
    }

pub returns-after-search : goal.returns-after-search
returns-after-search c =
    let l = c.search in
    rw l.invariant.none_yet (sym (no_row _ c.args.columns l.i c.args.rows c.search-test.false) ∙ l.invariant.rest)

pub returns-in-Steady : goal.returns-in-Steady
returns-in-Steady c =
    let l = c.loop-j in
    let here = as-answered c.args.columns c.args.n.now c.args.s.now c.args.a.now c.search.i l.j (Steady c.in-Steady.field-0) (search rules) (search rules) (search rules) c.in-Steady.ensures in
    let first-here = sym l.invariant.rest ∙ column-found _ l.j c.args.columns c.loop-j-test.true here in
    sym (row-found _ c.args.columns c.search.i c.args.rows l.j c.search-test.true first-here) ∙ c.search.invariant.rest
