-- Which cells of a picture count, by the rows and the columns that do, and what a plane is there and elsewhere.
-- Assumes nothing.
use mathlib.Core.Path.{◌≡◌, ◌∙◌, ap}
use Prim.Native.Nat.{ℕ, suc, ◌+◌, ◌-◌, ◌*◌, ◌≤◌, ◌<◌}
use native.Mathlib.Omega.{arith}
use native.Mathlib.Nat.{mul-le-mul_right}
use mathlib.Core.Bool.{Bool, ◌&&◌, ◌||◌}
use lib.Dec.{T, ltb, ltb→lt, lt→ltb}
use lib.IntN.{pos, ◌+ℤ◌}
use Rattle.numbers.proofs.Tests.{and_left, and_right, and_both}
use Rattle.numbers.proofs.Sums.{pick_yes, pick_no}
use Rattle.numbers.proofs.Writes.{at}
use Rattle.spec_picture.specs.Frame.{in_range, inside, column_at}
use Rattle.spec_picture.specs.Picture.{Source, plane_value, counts, plane_at}
use Rattle.plane_rows.specs.declared.overlaps.overlap.Overlap.{Overlap}
use Rattle.plane_rows.specs.declared.columns.Columns.{Columns}
use Rattle.plane_rows.specs.Overlaps.{Overlapping}
use Rattle.plane_rows.specs.Columns.{Along, Wrapping}
use Rattle.plane_rows.proofs.OverlapLaws.{among, not_among}

-- a row that there is ends within the picture
pub row-end : (m rows columns : ℕ) → m < rows → m * columns + columns ≤ rows * columns
row-end m rows columns h =
    let l : suc m * columns ≤ rows * columns = mul-le-mul_right columns h in
    omega arith

module _ (x : Source) (m n : ℕ) where
  abbrev there : Bool
  there = in_range x.frame.rows (pos m +ℤ x.shift.down)

  abbrev beside : Bool
  beside = x.frame.columns_wrap || in_range x.frame.columns (pos n +ℤ x.shift.right)

  abbrev here : Bool
  here = ltb m x.frame.rows && ltb n x.frame.columns

  -- a column that does not count
  pub column-outside : (columns : Columns) → Wrapping x.frame x.shift.right columns → n < x.frame.columns → (columns.along.first ≤ n → n < columns.round.end → ⊥) → plane_at x m n ≡ pos 0
  unfolding plane_at counts
  column-outside columns w n< no_column =
      pick_no (counts x m n) _ (λ t. rw (w.others n n< no_column) at (and_right there beside (and_right (inside x.frame (pos m) (pos n)) (there && beside) t)))

  module _ (rows : Overlap) (r : Overlapping x.frame.rows x.shift.down rows) where
    -- a row that does not count
    pub row-outside : (rows.first ≤ m → m < rows.end → ⊥) → plane_at x m n ≡ pos 0
    unfolding plane_at counts in_range
    row-outside no_row =
        pick_no (counts x m n) _
        (λ t. not_among rows.first rows.end m no_row (rw (← r.counts m (ltb→lt m x.frame.rows (and_left (ltb m x.frame.rows) (ltb n x.frame.columns) (and_left here (there && beside) t)))) (and_left there beside (and_right here (there && beside) t))))

    module _ (stretch : Overlap) (a : Along x.frame x.shift.right stretch) (from_row : rows.first ≤ m) (upto_row : m < rows.end) (from : stretch.first ≤ n) (upto : n < stretch.end) where
      m< : m < x.frame.rows
      m< = omega (arith, upto_row, r.within)

      n< : n < x.frame.columns
      n< = omega (arith, upto, a.within)

      counted : T (counts x m n)
      unfolding counts in_range
      counted =
          and_both here (there && beside) (and_both (ltb m x.frame.rows) (ltb n x.frame.columns) (lt→ltb m x.frame.rows m<) (lt→ltb n x.frame.columns n<))
          (and_both there beside (rw (r.counts m m<) (among rows.first rows.end m from_row upto_row)) (a.counts n from upto))

      -- a cell that counts
      pub value-there : plane_at x m n ≡ plane_value x.plane (at x.f (m * x.frame.columns + n)) (at x.g ((rows.first_in_g + (m - rows.first)) * x.frame.columns + (stretch.first_in_g + (n - stretch.first))))
      unfolding plane_at
      value-there =
          pick_yes (counts x m n) _ counted
          ∙ ap (λ (k : ℕ). plane_value x.plane (at x.f (m * x.frame.columns + n)) (at x.g (k * x.frame.columns + column_at x.frame (pos n +ℤ x.shift.right)))) (r.place m from_row upto_row)
          ∙ ap (λ (k : ℕ). plane_value x.plane (at x.f (m * x.frame.columns + n)) (at x.g ((rows.first_in_g + (m - rows.first)) * x.frame.columns + k))) (a.place n from upto)
