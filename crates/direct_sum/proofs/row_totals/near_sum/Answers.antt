-- `direct_sum::row_totals::near_sum` meets its contract. Assumes nothing.
use mathlib.Core.Bool.{Bool}
use Rattle.std.proofs.Common.{refl, arith, ◌≡◌, ◌∙◌, ap, ap₂, ℕ, ℤ, suc, ◌+◌, ◌-◌, ◌≤◌, ◌<◌, true, false, w64}
use Prim.Native.Nat.{min, max}
use lib.Dec.{leb}
use mir.Val.{SFits}
use mir.Facts.{to_z-of_z}
use Rattle.numbers.specs.Sum.{sum_to, pick}
use Rattle.numbers.specs.Wrap.{wrap}
use Rattle.spec_picture.specs.Frame.{column_gap, Apart}
use Rattle.spec_picture.specs.Picture.{Source, plane_at}
use Rattle.spec_picture.specs.Checked.{checked_source}
use Rattle.plane_rows.specs.declared.overlaps.overlap.Overlap.{Overlap}
use Rattle.plane_rows.specs.declared.columns.Columns.{Columns}
use Rattle.plane_rows.specs.Columns.{Wrapping}
use Rattle.plane_rows.proofs.CountingCells.{column-outside}
use Rattle.direct_sum.specs.Near.{StretchOf}
use Rattle.direct_sum.proofs.WindowRows.{sum-clipped, near-clipped, near-inside}
use Rattle.direct_sum.proofs.row_totals.near_sum.Goals as goal

module _ (x : Source) (columns : Columns) (w : Wrapping x.frame x.shift.right columns) (stretch : Overlap) (m j r : ℕ) (o : StretchOf x.frame x.shift columns stretch j r) (j< : j < x.frame.columns) (apart : Apart x.frame r)
    (start end a b : ℕ) (s : start ≡ j - r) (e : end ≡ min (suc (j + r)) x.frame.columns) (ea : a ≡ min (max start stretch.first) stretch.end) (eb : b ≡ min (max end stretch.first) stretch.end) where
  abbrev row : ℕ → ℕ → ℤ
  row lo hi = sum_to (hi - lo) (λ k. plane_at x m (lo + k))

  abbrev near : ℤ
  near = sum_to x.frame.columns (λ n. pick (leb (column_gap x.frame j n) r) (plane_at x m n))

  -- where columns clip, those that count are in the one stretch
  clipped : x.frame.columns_wrap ≡ false → row a b ≡ near
  clipped t =
      let one = o.only t in
      let first = columns.along.first in
      let last = columns.along.end in
      ap₂ row (ea ∙ ap (λ (c : Overlap). min (max start c.first) c.end) one) (eb ∙ ap (λ (c : Overlap). min (max end c.first) c.end) one)
      ∙ sum-clipped (plane_at x m) start end first last (omega (arith, s, e)) columns.along.ordered
      (λ k k< never. column-outside x m k columns w (omega (arith, e)) (λ u v. never u (omega (arith, w.clipped t))))
      ∙ near-clipped x.frame j r j< apart (plane_at x m) start end s e t

  -- where they wrap, all are in this stretch, and none past an end of the row
  looped : x.frame.columns_wrap ≡ true → stretch.first + r ≤ j → j + r < stretch.end → row a b ≡ near
  looped t l u =
      let within : stretch.end ≤ x.frame.columns = o.counting.within in
      let ends : end ≡ suc (j + r) = omega (arith, e) in
      let a-is : a ≡ start = omega (arith, ea, s) in
      let b-is : b ≡ end = omega (arith, eb, ends) in
      ap₂ row a-is b-is ∙ near-inside x.frame j r j< apart (plane_at x m) start end s e t (omega (arith, within)) (omega arith)

  near-is : (v : Bool) → x.frame.columns_wrap ≡ v → row a b ≡ near
  near-is false t = clipped t
  near-is true t = looped t (o.around t).from (o.around t).upto

pub returns : goal.returns
returns c =
    let v = c.args.view.now in
    let x = checked_source v.source in
    let a = c.requires.near in
    let t : SFits w64 c.part_sum.result = record { sfits = c.part_sum.type_inv } in
    to_z-of_z {w = w64} t ∙ c.part_sum.ensures
    ∙ ap wrap (near-is x v.columns v.counting.by_column c.args.stretch c.args.row c.args.column c.args.reach c.requires.stretch a.inside a.apart _ _ _ _ c.low-start.ensures c.high-end.ensures c.clip.ensures c.clip-2.ensures x.frame.columns_wrap refl)
