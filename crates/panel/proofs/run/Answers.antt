-- What render wrote is a part of the area that it was lent, and is what panel prints of all that the reader had.
use Rattle.std.proofs.Common.{sym, length, length-take-le, ◌≡◌, arith, rules, ◌≤◌}
use Rattle.panel_text.proofs.Longest.{rendered-within}
use Rattle.panel.proofs.Whole.{whole, rendered-front, prints}
use Rattle.panel.proofs.run.Goals as goal

pub slice_bounds-out-end : goal.slice_bounds-out-end
slice_bounds-out-end g c =
    let r = c.render-count in
    rendered-within _ _ _ _ r.ensures.count r.ensures.area

pub slice_bounds-write_all-end : goal.slice_bounds-write_all-end
slice_bounds-write_all-end g c =
    let r = c.render-count in
    sym (length-take-le r.result r.new.out (rendered-within _ _ _ _ r.ensures.count r.ensures.area))

pub returns : goal.returns
returns g c =
    let r = c.render-count in
    let read = c.in_ok-n in
    let full : 65537 ≡ length c.read_full.new.text = search rules in
    let room : 28672 ≤ length c.area-out.result = omega (arith, c.area-out.ensures) in
    let known = whole (g.R.Read.remaining c.args.from.now) (g.R.Read.remaining c.read_full.new.from) read.n c.read_full.new.text full read.ensures.room read.ensures.bytes read.ensures.end in
    let front = rendered-front _ _ r.new.out r.result room r.ensures.count r.ensures.area in
    prints c.write_all.result (g.R.Read.remaining c.args.from.now) (g.W.Write.contents c.args.to.now) (g.W.Write.contents c.write_all.new.self) _ _ known front c.write_all.ensures.bytes
