-- `row_steps::first_rows::reaching` meets its contract. Assumes nothing.
use mathlib.Core.Path.{◌≡◌, ◌∙◌, ap}
use Prim.Native.Nat.{ℕ}
use native.Mathlib.Omega.{arith}
use lib.IntN.{ℤ}
use lib.ListN.{length}
use Rattle.numbers.specs.Grid.{tabulate}
use Rattle.numbers.specs.Wrap.{wrap}
use Rattle.numbers.proofs.Writes.{tabulate-at}
use Rattle.spec_picture.specs.Window.{shape_of, reach}
use Rattle.spec_picture.specs.Picture.{plane_at}
use Rattle.spec_picture.specs.Checked.{given, checked_source}
use Rattle.spec_picture.proofs.Windows.{reach_width, apart-of}
use Rattle.row_loops.specs.SlidingSums.{neighbour_sum}
use Rattle.row_steps.proofs.NeighbourSums.{added-neighbours}
use Rattle.row_steps.proofs.first_rows.reaching.Goals as goal

pub neighbour_sums-requires : goal.neighbour_sums-requires
neighbour_sums-requires c =
    let x = c.args.inputs.now in
    let w = given x.window in
    let whole : length c.plane_row.new.out ≡ x.source.frame.columns = c.plane_row.auto.out ∙ c.requires.room in
    (omega (arith, c.requires.step.room), λ t. omega (arith, apart-of x.source.frame w x.fitting t, reach_width (shape_of w) c.args.m, c.reach-k.ensures))

pub returns : goal.returns
returns c =
    let plane : ℕ → ℕ → ℤ = plane_at (checked_source c.args.inputs.now.source) in
    let columns = c.args.inputs.now.source.frame.columns in
    let wraps = c.args.inputs.now.source.frame.columns_wrap in
    let part = c.plane_row in
    let cells = part.new.out in
    let whole : length cells ≡ columns = part.auto.out ∙ c.requires.room in
    added-neighbours wraps columns (reach (shape_of (given c.args.inputs.now.window)) c.args.m) (plane c.args.m) c.args.work.now _ cells _ whole
    (λ n n<. ap wrap (tabulate-at cells _ _ part.ensures n (omega (arith, whole))))
    (c.neighbour_sums.ensures ∙ ap (λ (k : ℕ). tabulate (length cells) (neighbour_sum wraps cells k)) c.reach-k.ensures) c.requires.step.room_work c.add.ensures
