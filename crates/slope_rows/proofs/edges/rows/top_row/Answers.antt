-- `slope_rows::edges::rows::top_row` meets its contract. Assumes nothing.
use mathlib.Core.Path.{refl, sym, ◌∙◌}
use Rattle.spec_picture.proofs.Found.{limits, checked}
use Rattle.std.proofs.Common.{rules}
use native.Mathlib.Omega.{arith}
use lib.Dec.{T}
use lib.Seq.{length-take-le}
use mir.Facts.{to_z-of_z}
use mir.Syntax.{w64}
use mir.Val.{SFits}
use Rattle.numbers.proofs.Tests.{of-not}
use Rattle.spec_picture.specs.Picture.{Inputs}
use Rattle.spec_picture.specs.Checked.{checked_inputs}
use Rattle.slope_rows.proofs.Windows.{apart-in}
use Rattle.slope_rows.proofs.BySlopes.{fresh-row, row-front, on-and-off}
use Rattle.std.proofs.Common.{ap, not}
use Rattle.slope_rows.proofs.edges.rows.top_row.Goals as goal

pub sum-sum-requires : goal.sum-sum-requires
sum-sum-requires g c =
    let z = limits c.args.slanted.now.inputs.source in
    record { row = z.some_rows; column = z.some_columns }

pub first_row-requires : goal.first_row-requires
first_row-requires g c =
    let t : T c.args.fresh = of-not c.args.fresh (ap not c.if-not-fresh.false) in (
      search rules,
      record {
        length_rises = c.requires.length_rises;
        length_falls = c.requires.length_falls;
        few = omega (arith, c.requires.room_work, (limits c.args.slanted.now.inputs.source).few_columns);
        room = length-take-le c.args.slanted.now.inputs.source.frame.columns c.args.out.now (c.requires.room t) ∙ omega (arith, c.requires.room_work);
      },
    )

pub returns : goal.returns
returns g c =
    let x : Inputs = checked_inputs c.args.slanted.now.inputs in
    let fits = c.args.slanted.now.fits in
    let columns = c.args.slanted.now.inputs.source.frame.columns in
    let t : T c.args.fresh = of-not c.args.fresh (ap not c.if-not-fresh.false) in
    let first_sum = c.sum-sum in
    let whole : SFits w64 first_sum.result = record { sfits = first_sum.type_inv } in
    let row = c.first_row in
    let written = simp (to_z-of_z, whole) at row.ensures in
    let row_room = row.auto.out ∙ length-take-le columns c.args.out.now (c.requires.room t) in
    record {
      begins = λ u. refl;
      row = λ u. fresh-row x (checked c.args.slanted.now.inputs) fits.slanted (rw fits.high at (c.requires.high t)) _ _ c.args.work.now _ _ _ _ (rw (fits.high, fits.wide) at (c.requires.slopes t)) (rw fits.wide at (apart-in c.args.slanted.now)) first_sum.ensures c.requires.room_work written.0;
      front = λ u. row-front columns c.args.out.now _ _ (c.requires.room t) row_room (written.1 ∙ sym written.0);
      none = λ u. absurd (on-and-off c.args.fresh t u);
      kept = λ u. absurd (on-and-off c.args.fresh t u);
    }
