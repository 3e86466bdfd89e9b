-- `panel_text::render` meets its contract. Assumes nothing.
use native.Mathlib.Omega.{arith}
use Rattle.panel_text.proofs.Shows.{no_room, legal-show, panel-rendered, refused-fitted}
use Rattle.panel_text.proofs.render.Goals as goal

pub returns-then-out-lt-ROOM : goal.returns-then-out-lt-ROOM
returns-then-out-lt-ROOM c =
    record { count = (no_room _ _ c.if-out-lt-ROOM.true).0; area = (no_room _ _ c.if-out-lt-ROOM.true).1 }

pub show-requires : goal.show-requires
show-requires c =
    legal-show _ _ c.if-out-lt-ROOM.false c.parse.result _ c.parse.ensures _ _ c.in-Ok.is (omega (arith, c.parse.auto.levels, c.area-levels.ensures))

pub returns-in-Ok : goal.returns-in-Ok
returns-in-Ok c =
    let r = panel-rendered _ _ c.if-out-lt-ROOM.false c.parse.result _ c.parse.ensures _ c.in-Ok.is _ _ c.show.ensures in
    record { count = r.0; area = r.1 }

pub returns-in-Err : goal.returns-in-Err
returns-in-Err c =
    let r = panel-rendered _ _ c.if-out-lt-ROOM.false c.parse.result _ c.parse.ensures _ c.in-Err.is _ _ (refused-fitted c.in-Err.refusal c.parse.new.levels _ _ _ (rw c.from.ensures at c.refused.ensures)) in
    record { count = r.0; area = r.1 }
