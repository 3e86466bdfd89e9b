-- `direct_sum::row_totals::round_sum` meets its contract. Assumes nothing.
use Rattle.std.proofs.Common.{arith, ◌∙◌, ap, w64}
use mir.Val.{SFits}
use mir.Facts.{to_z-of_z}
use Rattle.numbers.specs.Wrap.{wrap}
use Rattle.spec_picture.specs.Picture.{plane_at}
use Rattle.spec_picture.specs.Checked.{checked_source}
use Rattle.direct_sum.proofs.WindowRows.{both-wrapped, near-clipped, near-inside, near-right, near-left}
use Rattle.direct_sum.proofs.row_totals.round_sum.Goals as goal

pub returns-then-not-view : goal.returns-then-not-view
returns-then-not-view c =
    let z = c.args.view.now.source.frame in
    let t : SFits w64 c.row_sum-s.result = record { sfits = c.row_sum-s.type_inv } in
    to_z-of_z {w = w64} t ∙ c.row_sum-s.ensures
    ∙ ap wrap (near-clipped z c.args.column c.args.reach c.requires.inside c.requires.apart (plane_at (checked_source c.args.view.now.source) c.args.row) _ _ c.low-start.ensures c.high-end.ensures c.if-not-view.true)

pub returns-then-columns-past : goal.returns-then-columns-past
returns-then-columns-past c =
    let z = c.args.view.now.source.frame in
    let s : SFits w64 c.row_sum-s.result = record { sfits = c.row_sum-s.type_inv } in
    let t : SFits w64 c.row_sum.result = record { sfits = c.row_sum.type_inv } in
    let r : SFits w64 c.wrapping_add.result = record { sfits = c.wrapping_add.type_inv } in
    to_z-of_z {w = w64} r ∙ simp (to_z-of_z, s, t) at c.wrapping_add.ensures
    ∙ both-wrapped _ _ _ _ c.row_sum-s.ensures c.row_sum.ensures
    ∙ ap wrap (near-right z c.args.column c.args.reach c.requires.inside c.requires.apart (plane_at (checked_source c.args.view.now.source) c.args.row) _ _ c.low-start.ensures c.high-end.ensures _ (omega (arith, c.if-columns-past.true)) c.if-not-view.false (omega (arith, c.if-columns-past.true)))

pub returns-then-column-reach : goal.returns-then-column-reach
returns-then-column-reach c =
    let z = c.args.view.now.source.frame in
    let s : SFits w64 c.row_sum-s.result = record { sfits = c.row_sum-s.type_inv } in
    let t : SFits w64 c.row_sum-then-column-reach.result = record { sfits = c.row_sum-then-column-reach.type_inv } in
    let r : SFits w64 c.wrapping_add-then-column-reach.result = record { sfits = c.wrapping_add-then-column-reach.type_inv } in
    to_z-of_z {w = w64} r ∙ simp (to_z-of_z, s, t) at c.wrapping_add-then-column-reach.ensures
    ∙ both-wrapped _ _ _ _ c.row_sum-s.ensures c.row_sum-then-column-reach.ensures
    ∙ ap wrap (near-left z c.args.column c.args.reach c.requires.inside c.requires.apart (plane_at (checked_source c.args.view.now.source) c.args.row) _ _ c.low-start.ensures c.high-end.ensures c.if-not-view.false (omega (arith, c.if-columns-past.false)) c.if-column-reach.true)

pub returns : goal.returns
returns c =
    let z = c.args.view.now.source.frame in
    let t : SFits w64 c.row_sum-s.result = record { sfits = c.row_sum-s.type_inv } in
    to_z-of_z {w = w64} t ∙ c.row_sum-s.ensures
    ∙ ap wrap (near-inside z c.args.column c.args.reach c.requires.inside c.requires.apart (plane_at (checked_source c.args.view.now.source) c.args.row) _ _ c.low-start.ensures c.high-end.ensures c.if-not-view.false (omega (arith, c.if-columns-past.false)) c.if-column-reach.false)
