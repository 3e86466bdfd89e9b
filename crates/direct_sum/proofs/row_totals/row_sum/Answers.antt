-- `direct_sum::row_totals::row_sum` meets its contract. Assumes nothing.
use Rattle.std.proofs.Common.{arith, ◌≡◌, ◌∙◌, ap, ap₂, ℕ, ℤ, ◌+◌, ◌-◌, ◌+ℤ◌, ◌≤◌, ◌<◌, pos, w64}
use Prim.Native.Nat.{min, max}
use mir.Val.{SFits}
use mir.Facts.{to_z-of_z}
use Rattle.numbers.specs.Sum.{sum_to}
use Rattle.numbers.specs.Wrap.{wrap}
use Rattle.spec_picture.specs.Picture.{Source, plane_at}
use Rattle.spec_picture.specs.Checked.{checked_source}
use Rattle.plane_rows.specs.declared.columns.Columns.{Columns}
use Rattle.plane_rows.specs.Columns.{Wrapping}
use Rattle.plane_rows.proofs.CountingCells.{column-outside}
use Rattle.direct_sum.proofs.WindowRows.{both-wrapped, sum-past, sum-before, sum-across}
use Rattle.direct_sum.proofs.row_totals.row_sum.Goals as goal

-- the columns from `lo` up to `hi` of row m, by those of the two stretches
module _ (x : Source) (columns : Columns) (w : Wrapping x.frame x.shift.right columns) (m lo hi : ℕ) (o : lo ≤ hi) (h : hi ≤ x.frame.columns) where
  abbrev first : ℕ
  first = columns.along.first

  abbrev seam : ℕ
  seam = columns.along.end

  abbrev last : ℕ
  last = columns.round.end

  abbrev row : ℕ → ℕ → ℤ
  row a b = sum_to (b - a) (λ k. plane_at x m (a + k))

  seam≤ : seam ≤ last
  seam≤ = omega (arith, w.joined, columns.round.ordered)

  none : (k : ℕ) → k < hi → (first ≤ k → k < last → ⊥) → plane_at x m k ≡ pos 0
  none k k< never = column-outside x m k columns w (omega (arith, h)) never

  at-seam : (a y : ℕ) → a ≡ min (max y columns.round.first) last → a ≡ min (max y seam) last
  at-seam a y e = e ∙ ap (λ (n : ℕ). min (max y n) last) w.joined

  past : (a b : ℕ) → a ≡ min (max lo columns.round.first) last → b ≡ min (max hi columns.round.first) last → seam ≤ lo → row a b ≡ row lo hi
  past a b ea eb l = ap₂ row (at-seam a lo ea) (at-seam b hi eb) ∙ sum-past (plane_at x m) lo hi first seam last o columns.along.ordered seam≤ none l

  module _ (a b c : ℕ) (ea : a ≡ min (max lo first) seam) (eb : b ≡ min (max hi first) seam) (ec : c ≡ min (max hi columns.round.first) last) (l : lo < seam) where
    before : c ≤ seam → row a b ≡ row lo hi
    before u = ap₂ row ea eb ∙ sum-before (plane_at x m) lo hi first seam last o columns.along.ordered seam≤ none l (rw (at-seam c hi ec) at u)

    across : seam < c → row a b +ℤ row seam c ≡ row lo hi
    across u =
        ap₂ (λ (s t : ℤ). s +ℤ t) (ap₂ row ea eb) (ap (row seam) (at-seam c hi ec))
        ∙ sum-across (plane_at x m) lo hi first seam last o columns.along.ordered seam≤ none l (rw (at-seam c hi ec) at u)

pub returns-then-seam-start : goal.returns-then-seam-start
returns-then-seam-start c =
    let v = c.args.view.now in
    let t : SFits w64 c.part_sum.result = record { sfits = c.part_sum.type_inv } in
    to_z-of_z {w = w64} t ∙ c.part_sum.ensures
    ∙ ap wrap (past (checked_source v.source) v.columns v.counting.by_column c.args.row c.args.start c.args.end c.requires.0 c.requires.1 _ _ c.clip.ensures c.clip-last.ensures c.if-seam-start.true)

pub returns-then-last-seam : goal.returns-then-last-seam
returns-then-last-seam c =
    let v = c.args.view.now in
    let t : SFits w64 c.part_sum-s.result = record { sfits = c.part_sum-s.type_inv } in
    to_z-of_z {w = w64} t ∙ c.part_sum-s.ensures
    ∙ ap wrap (before (checked_source v.source) v.columns v.counting.by_column c.args.row c.args.start c.args.end c.requires.0 c.requires.1 _ _ _ c.clip-2.ensures c.clip-3.ensures c.clip-last.ensures c.if-seam-start.false c.if-last-seam.true)

pub returns : goal.returns
returns c =
    let v = c.args.view.now in
    let s : SFits w64 c.part_sum-s.result = record { sfits = c.part_sum-s.type_inv } in
    let t : SFits w64 c.part_sum-2.result = record { sfits = c.part_sum-2.type_inv } in
    let r : SFits w64 c.wrapping_add.result = record { sfits = c.wrapping_add.type_inv } in
    to_z-of_z {w = w64} r ∙ simp (to_z-of_z, s, t) at c.wrapping_add.ensures
    ∙ both-wrapped _ _ _ _ c.part_sum-s.ensures c.part_sum-2.ensures
    ∙ ap wrap (across (checked_source v.source) v.columns v.counting.by_column c.args.row c.args.start c.args.end c.requires.0 c.requires.1 _ _ _ c.clip-2.ensures c.clip-3.ensures c.clip-last.ensures c.if-seam-start.false c.if-last-seam.false)
