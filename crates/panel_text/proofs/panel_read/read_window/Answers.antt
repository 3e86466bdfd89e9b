-- `panel_text::panel_read::read_window` meets its contract. Assumes nothing.
use Rattle.std.proofs.Common.{rules, FitsSigned, w32}
use Rattle.std.proofs.lemmas.Int.{to_z-of_z}
use Rattle.std.proofs.lemmas.Result.{err_from_is_err_and}
use Rattle.panel_text.proofs.Drawings.{no-shape, no-first, no_second, window-read}
use Rattle.panel_text.proofs.panel_read.read_window.Goals as goal

pub returns-in_err-read_number : goal.returns-in_err-read_number
returns-in_err-read_number c =
    let p = err_from_is_err_and c.from_residual.result c.from_residual.ensures.1 in
    rw (p.1, p.2) (no-shape _ _ _ c.in_err-read_number.ensures)

pub returns-in_err-first : goal.returns-in_err-first
returns-in_err-first c =
    let p = err_from_is_err_and c.from_residual-in_err-first.result c.from_residual-in_err-first.ensures.1 in
    rw (p.1, p.2) (no-first _ _ _ c.in_ok-read_number.ensures _ _ c.in_err-first.ensures)

pub returns-in_err-second : goal.returns-in_err-second
returns-in_err-second c =
    let p = err_from_is_err_and c.from_residual-in_err-second.result c.from_residual-in_err-second.ensures.1 in
    rw (p.1, p.2) (no_second _ _ _ c.in_ok-read_number.ensures _ _ c.in_ok-first.ensures _ _ c.in_err-second.ensures)

pub returns : goal.returns
returns c =
    let shape-fits : FitsSigned w32 c.in_ok-read_number.field-0 = search rules in
    let first_fits : FitsSigned w32 c.in_ok-first.first = search rules in
    let second_fits : FitsSigned w32 c.in_ok-second.second = search rules in
    simp (to_z-of_z, first_fits, second_fits)
    (window-read _ _ _ c.in_ok-read_number.ensures _ _ c.in_ok-first.ensures _ _ _ c.in_ok-second.ensures (simp (to_z-of_z, shape-fits) at c.count-shape.ensures))
