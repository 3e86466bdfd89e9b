-- `row_session::advance::by_edges` meets its contract. Assumes nothing.
use mathlib.Core.Path.{◌≡◌, refl, sym, ◌∙◌, ap, subst}
use Prim.Native.Nat.{ℕ, ◌-◌, ◌≤◌}
use native.Mathlib.Omega.{arith}
use mathlib.Core.List.{◌++◌}
use lib.ListN.{length}
use lib.Seq.{length-take-le}
use borrow.Rule.Slice.PartMut.{put_mid}
use Rattle.spec_picture.specs.Checked.{given, checked_source}
use Rattle.numbers.proofs.Lines.{line-end}
use Rattle.numbers.proofs.Writes.{slice-length, part_length}
use Rattle.spec_picture.specs.Window.{shape_of}
use Rattle.spec_picture.specs.Picture.{plane_at}
use Rattle.spec_rows.specs.Rows.{strip, Advanced, output_row}
use Rattle.spec_rows.proofs.Strips.{two-parts, first-and-rest}
use Rattle.row_session.proofs.advance.by_edges.Goals as goal

pub returns-then-position-eq0 : goal.returns-then-position-eq0
returns-then-position-eq0 c =
    let fits : c.args.slanted.now.inputs.source.frame.columns ≤ length c.args.out.now = omega (arith, c.requires.many.room, line-end 0 c.args.n c.args.slanted.now.inputs.source.frame.columns c.requires.some) in
    let z = c.args.slanted.now.inputs.source.frame in
    let P = plane_at (checked_source c.args.slanted.now.inputs.source) in
    let S = shape_of (given c.args.slanted.now.inputs.window) in
    let first = c.next_row in
    let rest = c.rows_by_slopes in
    let end = length c.args.out.now in
    let at_0 : c.args.position ≡ 0 = c.if-position-eq0.true in
    let row = first.new.out in
    let after = rest.new.out in
    let work = rest.new.work in
    let none : z.columns ≡ z.columns - 0 = omega arith in
    let row_room : length row ≡ z.columns = first.auto.out ∙ length-take-le z.columns c.args.out.now fits in
    let front = put_mid 0 z.columns c.args.out.now row in
    let front_length : length front ≡ end = ap (λ (m : ℕ). length (put_mid 0 m c.args.out.now row)) none ∙ part_length 0 z.columns c.args.out.now row (omega arith) fits (row_room ∙ none) in
    let rest-room : length after ≡ end - z.columns = rest.auto.out ∙ slice-length z.columns (length front) front (omega (arith, front_length, fits)) (omega arith) ∙ ap (λ (m : ℕ). m - z.columns) front_length in
    let parts : put_mid z.columns (length front - z.columns) front after ≡ row ++ after =
    ap (λ (m : ℕ). put_mid z.columns (m - z.columns) front after) front_length
    ∙ ap (λ (m : ℕ). put_mid z.columns (end - z.columns) (put_mid 0 m c.args.out.now row) after) none
    ∙ two-parts z.columns end c.args.out.now row after fits refl row_room rest-room in
    subst (λ (p : ℕ). Advanced (strip z P S p c.args.n c.args.work.now) work (put_mid z.columns (length front - z.columns) front after)) (sym at_0)
    (subst (Advanced (strip z P S 0 c.args.n c.args.work.now) work) (sym parts)
    (first-and-rest z P S 0 (c.args.n - 1) c.args.n c.args.work.now first.new.work row work after (omega (arith, c.requires.some)) first.ensures.work (first.ensures.out ∙ ap (output_row z S) (sym first.ensures.work)) rest.ensures))
