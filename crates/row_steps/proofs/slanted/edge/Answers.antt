-- `row_steps::slanted::edge` meets its contract. Assumes nothing.
use mathlib.Core.Path.{◌≡◌, ◌∙◌, ap}
use mathlib.Core.List.{List}
use Prim.Native.Nat.{ℕ, ◌+◌, ◌-◌, ◌<◌}
use native.Mathlib.Omega.{arith}
use lib.Dec.{leb, ltb}
use lib.IntN.{ℤ, pos, ◌+ℤ◌}
use lib.ListN.{length}
use borrow.Rule.Slice.PartMut.{put_mid}
use Rattle.spec_picture.proofs.Found.{limits}
use Rattle.numbers.specs.Sum.{pick}
use Rattle.numbers.specs.Wrap.{wrap}
use Rattle.numbers.proofs.Writes.{at, tabulate-at, slice-length}
use Rattle.spec_picture.specs.Window.{shape_of, depth}
use Rattle.spec_picture.specs.Picture.{plane_at}
use Rattle.spec_picture.specs.Checked.{given, checked_source}
use Rattle.spec_picture.proofs.Windows.{depth_small}
use Rattle.spec_rows.specs.Rows.{enter_leave}
use Rattle.row_steps.proofs.EdgeRows.{Summed, summed-none, summed-left, summed-right, summed-end, summed-begin, edge-clipped, edge-round}
use Rattle.row_steps.proofs.slanted.edge.Goals.{After-add-2}
use Rattle.row_steps.proofs.slanted.edge.Goals as goal

pub step_difference-requires : goal.step_difference-requires
step_difference-requires c =
    let distance : ℕ = c.args.c in
    record {
      row = omega (arith, c.requires.step.row, (limits c.args.inputs.now.source).few_rows);
      distance = omega (arith, c.depth.ensures, depth_small (given c.args.inputs.now.window) c.args.inputs.now.window.legal c.args.c);
      room = c.requires.step.room;
    }

-- what enters less what leaves in the columns at the distance
abbrev entering : (c : After-add-2) → ℕ → ℤ
entering c = enter_leave c.args.inputs.now.source.frame (plane_at (checked_source c.args.inputs.now.source)) c.args.i (depth (shape_of (given c.args.inputs.now.window)) c.args.c)

changes-at : (c : After-add-2) (k : ℕ) → k < c.args.inputs.now.source.frame.columns → at c.step_difference.new.row k ≡ wrap (entering c k)
changes-at c k k< =
    let columns : ℕ = c.args.inputs.now.source.frame.columns in
    let length-changes : length c.step_difference.new.row ≡ columns = c.step_difference.auto.row ∙ c.requires.step.room in
    tabulate-at c.step_difference.new.row _ _ c.step_difference.ensures k (omega (arith, length-changes))
    ∙ ap (λ (d : ℕ). wrap (enter_leave c.args.inputs.now.source.frame (plane_at (checked_source c.args.inputs.now.source)) c.args.i d k)) c.depth.ensures

-- the work area after the two rows along it
abbrev along : (c : After-add-2) → List ℤ
along c =
    let columns = c.args.inputs.now.source.frame.columns in
    let d = c.args.c in
    put_mid 0 (columns - d - 0) (put_mid d (columns - d) c.args.work.now c.add.new.work) c.add-2.new.work

summed-along : (c : After-add-2) →
    Summed c.args.inputs.now.source.frame.columns c.args.work.now (along c) (λ j. (pos 0 +ℤ pick (leb c.args.c j) (entering c (j - c.args.c))) +ℤ pick (ltb (j + c.args.c) c.args.inputs.now.source.frame.columns) (entering c (j + c.args.c)))
summed-along c =
    let columns : ℕ = c.args.inputs.now.source.frame.columns in
    let d : ℕ = c.args.c in
    let few : d < columns = c.requires.few in
    let changes : List ℤ = c.step_difference.new.row in
    let after : List ℤ = c.add.new.work in
    let length-after : length after ≡ columns - d = c.add.auto.work ∙ slice-length d columns c.args.work.now (omega arith) (omega (arith, c.requires.step.room_work)) in
    let none = summed-none columns c.args.work.now c.requires.step.room_work c.requires.wrapped in
    let left = summed-left columns d few changes (entering c) (changes-at c) none _ after c.add.ensures length-after in
    let length-before : length c.add-2.new.work ≡ columns - d - 0 = c.add-2.auto.work ∙ slice-length 0 (columns - d) (put_mid d (columns - d) c.args.work.now after) (omega arith) (omega (arith, left.size)) in
    summed-right columns d few changes (entering c) (changes-at c) left _ c.add-2.new.work c.add-2.ensures length-before

pub returns-then-inputs : goal.returns-then-inputs
returns-then-inputs c =
    let before = (goal.at.returns-then-inputs c).After-add-2 in
    let columns : ℕ = c.args.inputs.now.source.frame.columns in
    let d : ℕ = c.args.c in
    let few : d < columns = c.requires.few in
    let changes : List ℤ = c.step_difference.new.row in
    let two = summed-along before in
    let length-end : length c.add-then-inputs.new.work ≡ d - 0 = c.add-then-inputs.auto.work ∙ slice-length 0 d (along before) (omega arith) (omega (arith, two.size)) in
    let three = summed-end columns d few changes (entering before) (changes-at before) two _ c.add-then-inputs.new.work c.add-then-inputs.ensures length-end in
    let length-begin : length c.add-then-inputs-2.new.work ≡ columns - (columns - d) =
    c.add-then-inputs-2.auto.work ∙ slice-length (columns - d) columns (put_mid 0 (d - 0) (along before) c.add-then-inputs.new.work) (omega arith) (omega (arith, three.size)) in
    edge-round c.args.inputs.now.source.frame d (entering before) c.requires.some c.if-inputs.true
    (summed-begin columns d few changes (entering before) (changes-at before) three _ c.add-then-inputs-2.new.work c.add-then-inputs-2.ensures length-begin)

pub returns-else-inputs : goal.returns-else-inputs
returns-else-inputs c =
    let before = (goal.at.returns-else-inputs c).After-add-2 in
    edge-clipped c.args.inputs.now.source.frame c.args.c (entering before) c.requires.some c.if-inputs.false (summed-along before)
