-- `panel_text::panel_print::field` meets its contract. Assumes nothing.
use Rattle.std.proofs.Common.{arith}
use mir.Facts.{to_z-of_z}
use Rattle.spec_panel.specs.Text.{printed}
use Rattle.panel_text.specs.Print.{Written}
use Rattle.panel_text.proofs.Bytes.{level-bytes, then_byte}
use Rattle.panel_text.proofs.panel_print.field.Goals as goal

pub bounds-out-len : goal.bounds-out-len
bounds-out-len c =
    let fits = c.ranges.v in
    let w : Written (printed c.args.v) c.args.out.now c.number-len.new.out c.number-len.result = simp (to_z-of_z, fits) at c.number-len.ensures in
    omega (arith, c.requires, level-bytes _ fits, w.counted, c.number-len.auto.out)

pub returns : goal.returns
returns c =
    let fits = c.ranges.v in
    let w : Written (printed c.args.v) c.args.out.now c.number-len.new.out c.number-len.result = simp (to_z-of_z, fits) at c.number-len.ensures in
    (then_byte _ _ _ _ w _ (omega (arith, c.requires, level-bytes _ fits, w.counted)), omega (arith, level-bytes _ fits, w.counted))
