-- Rows of ones and levels: parts of columns that count, as a picture has them, and whole rows written among zeros.
-- Assumes nothing.
use mathlib.Core.Path.{◌≡◌, refl, sym, ◌∙◌, ap}
use Prim.Native.Nat.{ℕ, ◌+◌, ◌-◌, ◌*◌, ◌≤◌, ◌<◌}
use native.Mathlib.Omega.{arith}
use mathlib.Core.Bool.{Bool, true, false, ◌&&◌}
use mathlib.Core.List.{List}
use lib.ListN.{length, take, drop, replicate}
use lib.Dec.{leb, ltb}
use lib.IntN.{ℤ, pos}
use mir.Val.{bool_byte}
use borrow.Rule.Slice.PartMut.{put_mid}
use Rattle.numbers.specs.Grid.{tabulate}
use Rattle.numbers.proofs.Grids.{length-tabulate, tabulate-cong}
use Rattle.numbers.proofs.Writes.{at, is-tabulate, tabulate-at, Upto, upto-none, upto-part, upto_all, slice_at, slice-length}
use Rattle.spec_picture.specs.Frame.{cells}
use Rattle.spec_picture.specs.Picture.{Source, plane_value, plane_at}
use Rattle.plane_rows.specs.declared.overlaps.overlap.Overlap.{Overlap}
use Rattle.plane_rows.specs.declared.factors.Factor.TheVariants.{One, F, G}
use Rattle.plane_rows.specs.Factors.{on_factor}
use Rattle.plane_rows.specs.LevelRows.{Cells, AllCount}
use Rattle.plane_rows.specs.declared.columns.Columns.{Columns}
use Rattle.plane_rows.specs.Overlaps.{Overlapping}
use Rattle.plane_rows.specs.Columns.{Along, Wrapping}
use Rattle.plane_rows.proofs.CountingCells.{row-end, row-outside, column-outside, value-there}
use Rattle.plane_rows.proofs.OverlapLaws.{none-among, some-among}
use Rattle.plane_rows.proofs.Filled.{filled-part}

-- ---- a part of a row, by its numbers
module _ (P : ℕ → ℕ → ℤ) (m : ℕ) (l : List ℤ) where
  pub cells-of : (start end n : ℕ) → start + n ≡ end → l ≡ tabulate n (λ k. P m (start + k)) → Cells P m start end l
  cells-of start end n e t =
      let size : length l ≡ n = ap length t ∙ length-tabulate n (λ k. P m (start + k)) in
      record { size = omega (arith, e, size); same = λ k k<. tabulate-at l n (λ k. P m (start + k)) t k k< }

  -- that of the first n columns
  pub at-place : (n : ℕ) → Cells P m 0 n l → (k : ℕ) → k < length l → at l k ≡ P m k
  at-place n c k k< = let here : 0 + k ≡ k = omega arith in c.same k k< ∙ ap (P m) here

-- ---- columns that all count, in a row that does
module _ (x : Source) (rows : Overlap) (r : Overlapping x.frame.rows x.shift.down rows) (m : ℕ) (stretch : Overlap) (start end : ℕ) (a : AllCount x.frame x.shift stretch start end) where
  abbrev width : ℕ
  width = x.frame.columns

  -- none of a row that does not
  pub zeros-there : end - start ≤ 1024 → (rows.first ≤ m → m < rows.end → ⊥) → take (end - start) (replicate 1024 (pos 0)) ≡ tabulate (end - start) (λ k. plane_at x m (start + k))
  zeros-there few no_row = filled-part (end - start) 1024 (pos 0) few ∙ tabulate-cong (end - start) (λ k. pos 0) _ (λ k k<. sym (row-outside x m (start + k) rows r no_row))

  module _ (from_row : rows.first ≤ m) (upto_row : m < rows.end) where
    pub ones-there : end - start ≤ 1024 → take (end - start) (replicate 1024 (pos 1)) ≡ tabulate (end - start) (λ k. plane_at (on_factor x One) m (start + k))
    unfolding plane_value
    ones-there few =
        filled-part (end - start) 1024 (pos 1) few
        ∙ tabulate-cong (end - start) (λ k. pos 1) _ (λ k k<. sym (value-there (on_factor x One) m (start + k) rows r stretch a.counting from_row upto_row (omega (arith, a.from)) (omega (arith, a.upto))))

    pub f-ends : length x.f ≡ cells x.frame → m * width + end ≤ length x.f
    f-ends size = omega (arith, size, a.upto, a.counting.within, row-end m x.frame.rows width (omega (arith, upto_row, r.within)))

    pub f-there : length x.f ≡ cells x.frame → take (m * width + end - (m * width + start)) (drop (m * width + start) x.f) ≡ tabulate (end - start) (λ k. plane_at (on_factor x F) m (start + k))
    unfolding plane_value
    f-there size =
        let lo = m * width + start in
        let hi = m * width + end in
        is-tabulate _ (end - start) _ (slice-length lo hi x.f (omega (arith, a.ordered)) (f-ends size) ∙ omega (arith, a.ordered))
        (λ k k<.
        let place : lo + k ≡ m * width + (start + k) = omega arith in
        slice_at lo hi x.f (omega (arith, a.ordered)) (f-ends size) k (omega (arith, a.ordered)) ∙ ap (at x.f) place
        ∙ sym (value-there (on_factor x F) m (start + k) rows r stretch a.counting from_row upto_row (omega (arith, a.from)) (omega (arith, a.upto))))

    abbrev begin : ℕ
    begin = (rows.first_in_g + (m - rows.first)) * width + stretch.first_in_g

    pub g-ends : length x.g ≡ cells x.frame → begin + (end - stretch.first) ≤ length x.g
    g-ends size =
        let row : rows.first_in_g + (m - rows.first) < x.frame.rows = omega (arith, from_row, upto_row, r.within_g) in
        omega (arith, size, a.upto, a.counting.within_g, row-end (rows.first_in_g + (m - rows.first)) x.frame.rows width row)

    pub g-there : length x.g ≡ cells x.frame → take (begin + (end - stretch.first) - (begin + (start - stretch.first))) (drop (begin + (start - stretch.first)) x.g) ≡ tabulate (end - start) (λ k. plane_at (on_factor x G) m (start + k))
    unfolding plane_value
    g-there size =
        let lo = begin + (start - stretch.first) in
        let hi = begin + (end - stretch.first) in
        let o : lo ≤ hi = omega (arith, a.ordered) in
        let n : hi - lo ≡ end - start = omega (arith, a.ordered, a.from) in
        is-tabulate _ (end - start) _ (slice-length lo hi x.g o (g-ends size) ∙ n)
        (λ k k<.
        let place : lo + k ≡ (rows.first_in_g + (m - rows.first)) * width + (stretch.first_in_g + (start + k - stretch.first)) = omega (arith, a.from) in
        slice_at lo hi x.g o (g-ends size) k (omega (arith, n)) ∙ ap (at x.g) place
        ∙ sym (value-there (on_factor x G) m (start + k) rows r stretch a.counting from_row upto_row (omega (arith, a.from)) (omega (arith, a.upto))))

-- ---- plane 0 in columns that count: one in all of them, or in none
pub plane-0 : (x : Source) (rows : Overlap) (r : Overlapping x.frame.rows x.shift.down rows) (stretch : Overlap) (a : Along x.frame x.shift.right stretch) (m n : ℕ) (b : Bool) → b ≡ (leb rows.first m && ltb m rows.end) → stretch.first ≤ n → n < stretch.end → plane_at (on_factor x One) m n ≡ pos (bool_byte b)
unfolding plane_value
plane-0 x rows r stretch a m n false e from upto = row-outside (on_factor x One) m n rows r (none-among rows.first rows.end m false e refl)
plane-0 x rows r stretch a m n true e from upto =
    let row = some-among rows.first rows.end m true e refl in
    value-there (on_factor x One) m n rows r stretch a row.0 row.1 from upto

-- ---- a whole row, written into a row of numbers: zeros, the columns that count up to the seam and from there on, and zeros
module _ (x : Source) (columns : Columns) (w : Wrapping x.frame x.shift.right columns) (m : ℕ) (out : List ℤ) (full : length out ≡ x.frame.columns)
    (before : List ℤ) (e : before ≡ tabulate (length (take (columns.along.first - 0) (drop 0 out))) (λ k. pos 0)) where
  abbrev row : ℕ → ℤ
  row = plane_at x m

  abbrev first : ℕ
  first = columns.along.first

  abbrev seam : ℕ
  seam = columns.along.end

  abbrev last : ℕ
  last = columns.round.end

  seam≤ : seam ≤ last
  seam≤ = omega (arith, w.joined, columns.round.ordered)

  h : last ≤ length out
  h = omega (arith, full, w.round.within)

  n : length (take (first - 0) (drop 0 out)) ≡ first - 0
  n = slice-length 0 first out (omega arith) (omega (arith, h, seam≤, columns.along.ordered))

  abbrev once : List ℤ
  once = put_mid 0 (first - 0) out before

  -- a column that does not count is 0
  none : (l : List ℤ) (q : ℕ) → l ≡ tabulate q (λ k. pos 0) → (lo k : ℕ) → k < length l → lo + k < x.frame.columns → (first ≤ lo + k → lo + k < last → ⊥) → at l k ≡ row (lo + k)
  none l q t lo k k< inside never = tabulate-at l q (λ k. pos 0) t k k< ∙ sym (column-outside x m (lo + k) columns w inside never)

  length_before : length before ≡ first - 0
  length_before = ap length e ∙ length-tabulate _ (λ k. pos 0) ∙ n

  first-written : Upto row out once first
  first-written =
      upto-part (upto-none row out) first before (omega arith) (omega (arith, h, seam≤, columns.along.ordered)) length_before
      (λ k k<. none before _ e 0 k (omega (arith, length_before)) (omega (arith, h, seam≤, columns.along.ordered, full)) (λ u v. omega arith))

  -- the columns up to the seam
  module _ (within : List ℤ) (p : Cells (plane_at x) m first seam within) where
    pub along-written : Upto row out (put_mid first (seam - first) once within) seam
    along-written = upto-part first-written seam within columns.along.ordered (omega (arith, h, seam≤)) (omega (arith, p.size)) (λ k k<. p.same k (omega (arith, p.size)))

  -- and from there on
  pub round-written : {now : List ℤ} → Upto row out now seam → (within : List ℤ) → Cells (plane_at x) m seam last within → Upto row out (put_mid seam (last - seam) now within) last
  round-written u within p = upto-part u last within seam≤ h (omega (arith, p.size)) (λ k k<. p.same k (omega (arith, p.size)))

  -- there are none
  pub none-round : {now : List ℤ} → Upto row out now seam → last ≤ seam → Upto row out now last
  none-round {now} u l = let s : seam ≡ last = omega (arith, seam≤) in rw (← s) u

  pub row-written : {now : List ℤ} → Upto row out now last → (after : List ℤ) → after ≡ tabulate (length (take (x.frame.columns - last) (drop last now))) (λ k. pos 0) →
      put_mid last (x.frame.columns - last) now after ≡ tabulate x.frame.columns row
  row-written {now} u after t =
      let rest : length (take (x.frame.columns - last) (drop last now)) ≡ x.frame.columns - last = slice-length last x.frame.columns now w.round.within (omega (arith, u.size, full)) in
      let long : length after ≡ x.frame.columns - last = ap length t ∙ length-tabulate _ (λ k. pos 0) ∙ rest in
      upto_all
      (upto-part u x.frame.columns after w.round.within (omega (arith, full)) long
      (λ k k<. none after _ t last k (omega (arith, long)) (omega arith) (λ u v. omega arith)))
      (omega (arith, full))
      ∙ ap (λ (n : ℕ). tabulate n row) full
