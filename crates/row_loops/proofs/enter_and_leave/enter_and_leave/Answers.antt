-- `row_loops::enter_and_leave::enter_and_leave` meets its contract. Assumes nothing.
use Rattle.std.proofs.Common.{◌≡◌, List, ℕ, ℤ, ◌+◌, ◌-◌, ◌≤◌, ◌<◌, pos, ◌+ℤ◌, ◌-ℤ◌, length, ap₂, arith}
use lib.ListN.{take, drop}
use borrow.Rule.Slice.PartMut.{put_mid}
use Rattle.numbers.specs.Grid.{tabulate}
use Rattle.numbers.specs.Wrap.{wrap}
use Rattle.numbers.proofs.Writes.{at}
use Rattle.spec_picture.specs.Picture.{Source, plane_at}
use Rattle.spec_picture.specs.Checked.{checked_source}
use Rattle.plane_rows.specs.declared.columns.Columns.{Columns}
use Rattle.plane_rows.specs.Columns.{Wrapping}
use Rattle.plane_rows.proofs.OverlapLaws.{none-among}
use Rattle.plane_rows.proofs.CountingCells.{column-outside, row-outside}
use Rattle.row_loops.specs.Added.{Numbers}
use Rattle.row_loops.proofs.Entering.{Changed, changed_none, changed-more, changed-same, sums-changed}
use Rattle.row_loops.proofs.enter_and_leave.enter_and_leave.Goals as goal

-- the columns up to the seam, and from there on
module _ (x : Source) (columns : Columns) (w : Wrapping x.frame x.shift.right columns) (enter leave : ℕ) (sums : List ℤ) (room : length sums ≡ x.frame.columns) (numbers : Numbers sums) where
  abbrev first : ℕ
  first = columns.along.first

  abbrev seam : ℕ
  seam = columns.along.end

  abbrev last : ℕ
  last = columns.round.end

  abbrev change : ℕ → ℤ
  change j = plane_at x enter j -ℤ plane_at x leave j

  seam≤ : seam ≤ last
  seam≤ = omega (arith, w.joined, columns.round.ordered)

  fits : last ≤ length sums
  fits = omega (arith, room, w.round.within)

  -- what the sums are where columns from `lo` up to `hi` are changed
  abbrev Part : (lo hi : ℕ) → (now part : List ℤ) → Type 0
  Part lo hi now part = part ≡ tabulate (length (take (hi - lo) (drop lo now))) (λ k. wrap (at (take (hi - lo) (drop lo now)) k +ℤ change (lo + k)))

  along : (part : List ℤ) → Part first seam sums part → Changed change sums (put_mid first (seam - first) sums part) first seam
  along part e = changed-more (changed_none change sums first) seam (omega arith) columns.along.ordered (omega (arith, seam≤, fits)) part e

  all : {now : List ℤ} → Changed change sums now first last → now ≡ tabulate x.frame.columns (λ j. wrap (at sums j +ℤ change j))
  all u = sums-changed u x.frame.columns room numbers (λ j j< never. ap₂ ◌-ℤ◌ (column-outside x enter j columns w j< never) (column-outside x leave j columns w j< never))

  -- nothing changes where no cell of either row counts
  without-rows : ((j : ℕ) → plane_at x enter j ≡ pos 0) → ((j : ℕ) → plane_at x leave j ≡ pos 0) → sums ≡ tabulate x.frame.columns (λ j. wrap (at sums j +ℤ change j))
  without-rows entering leaving = sums-changed (changed_none change sums first) x.frame.columns room numbers (λ j j< never. ap₂ ◌-ℤ◌ (entering j) (leaving j))

  module _ (part : List ℤ) (e : Part first seam sums part) where
    without-round : last ≤ seam → put_mid first (seam - first) sums part ≡ tabulate x.frame.columns (λ j. wrap (at sums j +ℤ change j))
    without-round l = all (changed-same (along part e) last columns.along.ordered seam≤ fits l)

    with-round : (rest : List ℤ) → Part seam last (put_mid first (seam - first) sums part) rest → put_mid seam (last - seam) (put_mid first (seam - first) sums part) rest ≡ tabulate x.frame.columns (λ j. wrap (at sums j +ℤ change j))
    with-round rest d = all (changed-more (along part e) last columns.along.ordered seam≤ fits rest d)

pub returns-then-not-has_row-2 : goal.returns-then-not-has_row-2
returns-then-not-has_row-2 c =
    let v = c.view_of-view.result in
    let x = checked_source v.source in
    rw (← c.view_of-view.ensures)
    (without-rows x v.columns v.counting.by_column c.args.enter c.args.leave c.args.sums.now (rw (← c.view_of-view.ensures) at c.requires) c.numbers_fit.ensures
    (λ j. row-outside x c.args.enter j v.rows v.counting.by_row (none-among v.rows.first v.rows.end c.args.enter _ c.has_row.ensures c.if-not-has_row.true))
    (λ j. row-outside x c.args.leave j v.rows v.counting.by_row (none-among v.rows.first v.rows.end c.args.leave _ c.has_row-then-not-has_row.ensures c.if-not-has_row-2.true)))

pub returns-then-seam-end : goal.returns-then-seam-end
returns-then-seam-end c =
    let v = c.view_of-view.result in
    let w = v.counting.by_column in
    rw (← c.view_of-view.ensures)
    (with-round (checked_source v.source) v.columns w c.args.enter c.args.leave c.args.sums.now (rw (← c.view_of-view.ensures) at c.requires) c.numbers_fit.ensures _ c.columns_that_count.ensures _ (rw w.joined at c.columns_that_count-then-seam-end.ensures))

pub returns-else-seam-end : goal.returns-else-seam-end
returns-else-seam-end c =
    let v = c.view_of-view.result in
    rw (← c.view_of-view.ensures)
    (without-round (checked_source v.source) v.columns v.counting.by_column c.args.enter c.args.leave c.args.sums.now (rw (← c.view_of-view.ensures) at c.requires) c.numbers_fit.ensures _ c.columns_that_count.ensures c.if-seam-end.false)
