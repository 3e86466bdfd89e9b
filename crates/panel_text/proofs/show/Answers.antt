-- `panel_text::show` meets its contract. Assumes nothing.
use native.Mathlib.Omega.{arith}
use Rattle.panel_text.proofs.Shows.{show-cells, show-part, area-part, means-room, means-part, lines-room, show-fitted}
use Rattle.panel_text.proofs.show.Goals as goal

pub overflow_mul-n : goal.overflow_mul-n
overflow_mul-n c = omega (arith, show-cells _ _ _ _ c.requires)

pub slice_bounds-smooth-end : goal.slice_bounds-smooth-end
slice_bounds-smooth-end c = show-part _ _ _ _ c.requires

pub slice_bounds-means-end : goal.slice_bounds-means-end
slice_bounds-means-end c = omega (arith, show-cells _ _ _ _ c.requires, c.area-means.ensures)

pub slice_bounds-smooth-end-2 : goal.slice_bounds-smooth-end-2
slice_bounds-smooth-end-2 c = area-part _ _ _ _ c.requires _ c.area-means.ensures

pub slice_bounds-means-end-2 : goal.slice_bounds-means-end-2
slice_bounds-means-end-2 c =
    means-room _ _ _ _ c.requires _ _ c.area-means.ensures c.smooth.ensures.area c.smooth.auto.out _

pub slice_bounds-lines-end : goal.slice_bounds-lines-end
slice_bounds-lines-end c =
    means-part _ _ _ _ c.requires _ _ c.area-means.ensures c.smooth.ensures.area c.smooth.auto.out _

pub lines-requires : goal.lines-requires
lines-requires c =
    lines-room _ _ _ _ c.requires _ _ c.area-means.ensures c.smooth.ensures.area c.smooth.auto.out _

pub returns : goal.returns
returns c =
    show-fitted _ _ _ _ c.requires _ _ c.area-means.ensures c.smooth.ensures.area c.smooth.auto.out _ _ _ c.lines.ensures
