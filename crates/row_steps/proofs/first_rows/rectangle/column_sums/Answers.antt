-- `row_steps::first_rows::rectangle::column_sums` meets its contract. Assumes nothing.
use Prim.Native.Nat.{ℕ}
use native.Mathlib.Omega.{arith}
use lib.IntN.{ℤ}
use Rattle.spec_picture.proofs.Found.{limits}
use Rattle.spec_picture.specs.Picture.{Source, plane_at}
use Rattle.spec_picture.specs.Checked.{checked_source}
use Rattle.spec_picture.proofs.Planes.{plane-bound, plane-past}
use Rattle.row_steps.proofs.Columns.{columns-none, columns-more, columns-all}
use Rattle.row_steps.proofs.first_rows.rectangle.column_sums.Goals as goal

pub high-end-requires : goal.high-end-requires
high-end-requires c = omega (arith, (limits c.args.source.now).some_rows)

pub loop-m-init : goal.loop-m-init
loop-m-init c =
    let pictures : Source = checked_source c.args.source.now in
    let plane : ℕ → ℕ → ℤ = plane_at pictures in
    (omega arith, columns-none plane c.args.source.now.frame.columns _ _ c.requires c.fill.ensures)

pub loop-m-preserved : goal.loop-m-preserved
loop-m-preserved c =
    let pictures : Source = checked_source c.args.source.now in
    let plane : ℕ → ℕ → ℤ = plane_at pictures in
    let l = c.loop-m in (
      omega arith,
      columns-more plane c.args.source.now.frame.columns l.m c.args.source.now.frame.rows _ _ (λ j. plane-past pictures _ j (omega arith)) l.invariant.1 c.enter_and_leave.ensures,
    )

pub returns : goal.returns
returns c =
    let pictures : Source = checked_source c.args.source.now in
    let plane : ℕ → ℕ → ℤ = plane_at pictures in
    let l = c.loop-m in
    columns-all c.args.source.now.frame plane (limits c.args.source.now) (plane-bound pictures c.args.source.now.levels_f c.args.source.now.levels_g) c.args.a l.m _
    (omega (arith, c.loop-m-test.false, c.high-end.ensures)) l.invariant.1
