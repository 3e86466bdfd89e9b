-- `slope_rows::seam::add_seam` meets its contract. Assumes nothing.
use native.Mathlib.Omega.{arith}
use Prim.Native.Nat.{◌+◌, ◌-◌}
use Rattle.std.proofs.lemmas.List.{map-set}
use Rattle.spec_picture.proofs.Found.{limits}
use Rattle.spec_picture.proofs.Planes.{plane-beside}
use Rattle.spec_picture.specs.Checked.{checked_source}
use Rattle.slope_loops.specs.declared.padding.TheConstants.{ABOVE}
use Rattle.slope_loops.proofs.Numbers.{read}
use Rattle.slope_rows.specs.Edges.{plane_in, padded_in}
use Rattle.slope_rows.specs.declared.places.TheConstants.{FALLING_START, RISING_START}
use Rattle.slope_rows.proofs.SeamLaws.{slopes-more, rising-none, falling-none, rising-nearer, falling-nearer}
use Rattle.slope_rows.proofs.Windows.{apart-in}
use Rattle.slope_rows.proofs.seam.add_seam.Goals as goal

pub returns-then-slanted : goal.returns-then-slanted
returns-then-slanted g c =
    let x = c.args.slanted.now in
    let z = x.inputs.source.frame in
    let m = c.args.here.moved in
    let l = c.requires.slopes in
    let few = (limits x.inputs.source).few_columns in
    let beside = plane-beside (checked_source x.inputs.source) in
    let sum = g.S.Slope.sum in
    let nearer = RISING_START + m + x.beside in
    let before = FALLING_START - m - x.beside - 1 in
    rw (map-set sum c.args.rises.now (nearer + z.columns) _, map-set sum c.args.falls.now before _)
    (slopes-more (padded_in x) z.columns x.beside x.width x.height (ABOVE + c.args.here.row) m (omega (arith, x.fits.narrow, x.kept.few)) few c.requires.turn l _ _
    (rising-nearer z (plane_in x) beside x.width x.beside x.height (ABOVE + c.args.here.row) x.fits.narrow x.fits.low x.kept (rw c.if-slanted.true tt) (apart-in x) m c.requires.turn l _ (read sum c.args.rises.now nearer c.index-rises-nearer.result (omega (arith, few, x.fits.narrow, x.kept.few, c.requires.turn))))
    (falling-nearer z (plane_in x) beside x.width x.beside x.height (ABOVE + c.args.here.row) x.fits.narrow x.fits.low x.kept (rw c.if-slanted.true tt) (apart-in x) m c.requires.turn l _ (read sum c.args.falls.now (before + z.columns) c.index-falls-before.result (omega (arith, few, x.fits.narrow, x.kept.few, c.requires.turn)))))

pub returns-else-slanted : goal.returns-else-slanted
returns-else-slanted g c =
    let x = c.args.slanted.now in
    let z = x.inputs.source.frame in
    let m = c.args.here.moved in
    let few = (limits x.inputs.source).few_columns in
    let beside = plane-beside (checked_source x.inputs.source) in
    let sum = g.S.Slope.sum in
    rw (map-set sum c.args.rises.now (RISING_START + m + x.beside + z.columns) c.zero.result, map-set sum c.args.falls.now (FALLING_START - m - x.beside - 1) c.zero-else-slanted.result)
    (slopes-more (padded_in x) z.columns x.beside x.width x.height (ABOVE + c.args.here.row) m (omega (arith, x.fits.narrow, x.kept.few)) few c.requires.turn c.requires.slopes _ _
    (rising-none z (plane_in x) beside x.width x.beside x.height (ABOVE + c.args.here.row) x.fits.narrow x.fits.low x.kept (rw c.if-slanted.false tt) _ c.zero.ensures)
    (falling-none z (plane_in x) beside x.width x.beside x.height (ABOVE + c.args.here.row) x.fits.narrow x.fits.low x.kept (rw c.if-slanted.false tt) _ c.zero-else-slanted.ensures))
