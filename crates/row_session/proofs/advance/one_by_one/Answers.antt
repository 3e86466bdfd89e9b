-- `row_session::advance::one_by_one` meets its contract. Assumes nothing.
use mathlib.Core.Path.{◌≡◌, refl, sym, ap, ◌∙◌}
use Prim.Native.Nat.{ℕ, ◌+◌, ◌-◌, ◌*◌, ◌≤◌}
use native.Mathlib.Omega.{arith}
use lib.IntN.{ℤ}
use lib.ListN.{length}
use Rattle.spec_picture.proofs.Found.{limits}
use Rattle.numbers.proofs.Lines.{line-end}
use Rattle.numbers.proofs.Writes.{slice-length}
use Rattle.spec_picture.specs.Window.{shape_of}
use Rattle.spec_picture.specs.Picture.{plane_at}
use Rattle.spec_picture.specs.Checked.{given, checked_source}
use Rattle.spec_rows.specs.Rows.{output_row}
use Rattle.spec_rows.proofs.Strips.{partly_none, partly_more}
use Rattle.row_session.proofs.advance.one_by_one.Goals as goal

pub loop-k-init : goal.loop-k-init
loop-k-init c =
    let plane : ℕ → ℕ → ℤ = plane_at (checked_source c.args.inputs.now.source) in
    (omega arith, refl, c.requires.room_work, partly_none c.args.inputs.now.source.frame plane (shape_of (given c.args.inputs.now.window)) c.args.position c.args.work.now c.args.out.now)

pub loop-k-preserved : goal.loop-k-preserved
loop-k-preserved c =
    let plane : ℕ → ℕ → ℤ = plane_at (checked_source c.args.inputs.now.source) in
    let l = c.loop-k in
    let z = c.args.inputs.now.source.frame in
    let start = l.k * z.columns in
    let ends : start + z.columns ≤ length l.out = omega (arith, l.invariant.1, c.requires.room, line-end l.k c.args.n z.columns c.loop-k-test.true) in
    let call = c.next_row in
    let span : start + z.columns - start ≡ z.columns = omega arith in
    let written : length call.new.out ≡ z.columns = call.auto.out ∙ slice-length start (start + z.columns) l.out (omega arith) ends ∙ span in (
      omega (arith, c.loop-k-test.true),
      c.out-1.given.1 ∙ l.invariant.1,
      call.auto.work ∙ l.invariant.2,
      partly_more z plane (shape_of (given c.args.inputs.now.window)) c.args.position c.args.work.now l.k start l.work l.out _ call.new.out
          l.invariant.3 refl ends call.ensures.work (call.ensures.out ∙ ap (output_row z (shape_of (given c.args.inputs.now.window))) (sym call.ensures.work)) written,
    )

pub overflow_add-position : goal.overflow_add-position
overflow_add-position c =
    record { fits = omega (arith, c.requires.rows, c.loop-k-test.true, (limits c.args.inputs.now.source).few_rows) }
