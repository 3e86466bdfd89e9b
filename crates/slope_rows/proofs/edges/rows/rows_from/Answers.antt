-- `slope_rows::edges::rows::rows_from` meets its contract. Assumes nothing.
use mathlib.Core.Path.{refl, ◌∙◌}
use Prim.Native.Nat.{◌+◌}
use native.Mathlib.Omega.{arith}
use lib.ListN.{length}
use Rattle.spec_picture.proofs.Found.{limits}
use Rattle.numbers.proofs.Writes.{slice-length}
use Rattle.spec_picture.specs.Picture.{Inputs}
use Rattle.spec_picture.specs.Checked.{checked_inputs}
use Rattle.slope_rows.specs.Edges.{padded_in}
use Rattle.slope_rows.proofs.BySlopes.{rest-fits, rows-done}
use Rattle.slope_rows.proofs.Zeros.{blank, no-slopes}
use Rattle.slope_loops.specs.declared.padding.TheConstants.{ABOVE, ROW_LENGTH}
use Rattle.slope_rows.proofs.edges.rows.rows_from.Goals as goal

pub start_slopes-requires : goal.start_slopes-requires
start_slopes-requires g c =
    let x = c.args.slanted.now in
    let columns = x.inputs.source.frame.columns in (
      g.met.S.Value.PlaneValue.row_fits,
      (
        g.met.S.Slope.slopes_fit,
        (
          c.requires.plane,
          record {
            inside = omega (arith, c.requires.rows);
            blank_a = blank g.S.Value.PlaneValue.value ROW_LENGTH refl x.inputs.source.frame c.zero-a.result c.zero-a.ensures;
            blank_b = blank g.S.Value.PlaneValue.value ROW_LENGTH refl x.inputs.source.frame c.zero-b.result c.zero-b.ensures;
            slopes = no-slopes g.S.Slope.sum ROW_LENGTH refl (padded_in x) columns x.beside x.width (ABOVE + c.args.i) c.zero-rises.result c.zero-falls.result c.zero-rises.ensures c.zero-falls.ensures;
          },
        ),
      ),
    )

pub overflow_add-i : goal.overflow_add-i
overflow_add-i g c = omega (arith, c.requires.rows, (limits c.args.slanted.now.inputs.source).few_rows)

pub overflow_sub-i : goal.overflow_sub-i
overflow_sub-i g c = omega (arith, c.args.slanted.now.fits.low, c.args.slanted.now.fits.narrow)

pub load-requires : goal.load-requires
load-requires g c =
    (g.met.S.Value.PlaneValue.row_fits, (c.requires.plane, blank g.S.Value.PlaneValue.value ROW_LENGTH refl c.args.slanted.now.inputs.source.frame c.zero-c.result c.zero-c.ensures))

pub rows_after-requires : goal.rows_after-requires
rows_after-requires g c =
    let x = c.args.slanted.now in
    let r = c.start_slopes.ensures in
    let leaves = c.load.ensures in
    let top = c.top_row-begin in
    let columns = c.args.slanted.now.inputs.source.frame.columns in
    let end = length top.new.out in
    let kept = top.auto.out in
    let f = rest-fits _ _ _ _ _ top.ensures.begins top.ensures.none c.requires.room_fresh c.requires.room_after in (
      g.met.S.Value.PlaneValue.row_fits,
      (
        g.met.S.Slope.slopes_fit,
        record {
          plane = c.requires.plane;
          many = record {
            rows = c.requires.rows;
            room_work = top.auto.work ∙ c.requires.room_work;
            room = slice-length top.result end top.new.out (omega (arith, kept, f.0)) (omega arith) ∙ omega (arith, kept, f.1);
          };
          rows = record { blank_a = r.blank_a; blank_b = r.blank_b; blank_c = leaves.blank };
          slopes = r.slopes;
          leaving = leaves.holds;
        },
      ),
    )

pub returns : goal.returns
returns g c =
    let x : Inputs = checked_inputs c.args.slanted.now.inputs in
    let top = c.top_row-begin in
    let rest = c.rows_after in
    let end = length top.new.out in
    let f = rest-fits _ _ _ _ _ top.ensures.begins top.ensures.none c.requires.room_fresh c.requires.room_after in
    let kept = top.auto.out in
    rows-done x c.args.fresh c.args.i c.args.n top.result end c.args.work.now _ top.new.out rest.new.work rest.new.out c.args.slanted.now.fits.slanted c.requires.at_0 top.ensures (omega (arith, kept, f.0)) refl
    (rest.auto.out ∙ slice-length top.result end top.new.out (omega (arith, kept, f.0)) (omega arith)) rest.ensures
