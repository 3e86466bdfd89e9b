-- `panel_text::panel_read::parse` meets its contract. Assumes nothing.
use Rattle.std.proofs.Common.{sym, ap, ◌∙◌, arith}
use Rattle.std.proofs.lemmas.Bool.{not-false}
use Rattle.std.proofs.lemmas.Result.{err_from_is_err_and}
use Rattle.spec_picture.specs.Refusal.{refused}
use Rattle.spec_picture.proofs.Refusals.{none-head, refused-has, answered-has}
use Rattle.spec_panel.proofs.Example.{longer}
use Rattle.panel_text.proofs.Drawings.{cells-few, cells-room, cells-part, picture-required, no_frame, no-window, no-levels, refused-beyond, window-beyond, picture-accepted}
use Rattle.panel_text.proofs.panel_read.parse.Goals as goal

pub returns-then-text-gt65536 : goal.returns-then-text-gt65536
returns-then-text-gt65536 c = longer _ c.if-text-gt65536.true

pub returns-in_err-frame : goal.returns-in_err-frame
returns-in_err-frame c =
    let p = err_from_is_err_and c.from_residual.result c.from_residual.ensures.1 in
    rw (p.1, p.2) (no_frame _ c.if-text-gt65536.false _ _ c.new-numbers.ensures _ c.in_err-frame.ensures)

pub returns-in_err-window : goal.returns-in_err-window
returns-in_err-window c =
    let p = err_from_is_err_and c.from_residual-in_err-window.result c.from_residual-in_err-window.ensures.1 in
    rw (p.1, p.2) (no-window _ c.if-text-gt65536.false _ _ c.new-numbers.ensures _ c.in_ok-frame.ensures _ _ c.in_err-window.ensures)

pub overflow_mul-frame : goal.overflow_mul-frame
overflow_mul-frame c = omega (arith, cells-few _ c.in_ok-frame.ensures.legal.0)

pub slice_bounds-read_levels-end : goal.slice_bounds-read_levels-end
slice_bounds-read_levels-end c = cells-room _ _ (picture-required c.in_ok-frame.ensures c.requires)

pub slice_bounds-read_levels-end-2 : goal.slice_bounds-read_levels-end-2
slice_bounds-read_levels-end-2 c = sym (cells-part _ _ (picture-required c.in_ok-frame.ensures c.requires))

pub returns-in_err-ok_or : goal.returns-in_err-ok_or
returns-in_err-ok_or c =
    let p = err_from_is_err_and c.from_residual-in_err-ok_or.result c.from_residual-in_err-ok_or.ensures.1 in
    rw (p.1, p.2)
    (no-levels _ c.if-text-gt65536.false _ _ c.new-numbers.ensures _ c.in_ok-frame.ensures _ _ c.in_ok-window.ensures _ (picture-required c.in_ok-frame.ensures c.requires) _ c.read_levels.result _ c.read_levels.ensures c.in_err-ok_or.ensures.value)

pub returns-in_err-check_window : goal.returns-in_err-check_window
returns-in_err-check_window c =
    let p = err_from_is_err_and c.from_residual-in_err-check_window.result c.from_residual-in_err-check_window.ensures.1 in
    let beyond = refused-beyond _ _ (refused-has _ _ _ c.in_err-check_window.ensures) in
    rw (p.1, p.2)
    (window-beyond _ c.if-text-gt65536.false _ _ c.new-numbers.ensures _ c.in_ok-frame.ensures _ _ c.in_ok-window.ensures _ (picture-required c.in_ok-frame.ensures c.requires) _ c.read_levels.result c.read_levels.ensures _ c.in_ok-ok_or.ensures.ok_part beyond.0
    ∙ ap refused (sym beyond.1))

pub returns : goal.returns
returns c =
    let legal = not-false _ (none-head _ _ _ (sym (answered-has _ _ _ c.in_ok-check_window.ensures).0)) in
    picture-accepted _ c.if-text-gt65536.false _ _ c.new-numbers.ensures _ c.in_ok-frame.ensures _ _ c.in_ok-window.ensures _ (picture-required c.in_ok-frame.ensures c.requires) _ c.read_levels.result c.read_levels.ensures _ c.in_ok-ok_or.ensures.ok_part legal _ c.read_levels.auto.levels
