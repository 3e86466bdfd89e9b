-- `panel_text::panel_read::read_frame` meets its contract. Assumes nothing.
use Rattle.std.proofs.Common.{rules, sym, FitsSigned, w32}
use Rattle.std.proofs.lemmas.Int.{to_z-of_z}
use Rattle.std.proofs.lemmas.Result.{err_from_is_err_and}
use Rattle.panel_text.proofs.Drawings.{no_rows, no-columns, frame-beyond, frame-within}
use Rattle.panel_text.proofs.panel_read.read_frame.Goals as goal

pub returns-in_err-read_number : goal.returns-in_err-read_number
returns-in_err-read_number c =
    let p = err_from_is_err_and c.from_residual.result c.from_residual.ensures.1 in
    rw (p.1, p.2) (no_rows _ _ _ c.in_err-read_number.ensures)

pub returns-in_err-read_number-2 : goal.returns-in_err-read_number-2
returns-in_err-read_number-2 c =
    let p = err_from_is_err_and c.from_residual-in_err-read_number-2.result c.from_residual-in_err-read_number-2.ensures.1 in
    rw (p.1, p.2) (no-columns _ _ _ c.in_ok-read_number.ensures _ _ c.in_err-read_number-2.ensures)

pub returns-then-not-frame_legal : goal.returns-then-not-frame_legal
returns-then-not-frame_legal c =
    let rows_fit : FitsSigned w32 c.in_ok-read_number.field-0 = search rules in
    let columns-fit : FitsSigned w32 c.in_ok-read_number-2.field-0 = search rules in
    frame-beyond _ _ _ c.in_ok-read_number.ensures _ _ c.in_ok-read_number-2.ensures _ _
    (simp (to_z-of_z, rows_fit) at c.count-rows.ensures) (simp (to_z-of_z, columns-fit) at c.count-columns.ensures) (sym c.if-not-frame_legal.ensures)

pub returns : goal.returns
returns c =
    let rows_fit : FitsSigned w32 c.in_ok-read_number.field-0 = search rules in
    let columns-fit : FitsSigned w32 c.in_ok-read_number-2.field-0 = search rules in
    frame-within _ _ _ c.in_ok-read_number.ensures _ _ c.in_ok-read_number-2.ensures _ _
    (simp (to_z-of_z, rows_fit) at c.count-rows.ensures) (simp (to_z-of_z, columns-fit) at c.count-columns.ensures) (sym c.if-not-frame_legal.ensures)
