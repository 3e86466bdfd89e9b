-- The columns that count, where they clip and where they wrap.
-- Assumes nothing.
use Rattle.std.specs.Prelude.{◌≡◌, ℕ, ◌+◌, ◌-◌, ◌≤◌, ◌<◌, T, false, ◌||◌, ℤ, pos, ◌+ℤ◌}
use Rattle.spec_picture.specs.declared.Frame.{Frame}
use Rattle.spec_picture.specs.declared.Shift.{Shift}
use Rattle.spec_picture.specs.Frame.{in_range, column_at}
use Rattle.plane_rows.specs.declared.overlaps.overlap.Overlap.{Overlap}
use Rattle.plane_rows.specs.declared.columns.Columns.{Columns}

-- each column of the stretch counts under a shift to the right by d, and its column of g is as far from `first_in_g` as it is from `first`
pub record Along (z : Frame) (d : ℤ) (o : Overlap) : Type 0 where
  pub within : o.end ≤ z.columns
  pub within_g : o.first_in_g + (o.end - o.first) ≤ z.columns
  pub counts : (k : ℕ) → o.first ≤ k → k < o.end → T (z.columns_wrap || in_range z.columns (pos k +ℤ d))
  pub place : (k : ℕ) → o.first ≤ k → k < o.end → column_at z (pos k +ℤ d) ≡ o.first_in_g + (k - o.first)

abbrev pub Stretch : Frame → Shift → Overlap → Type 0
Stretch z d o = Along z d.right o

-- two stretches, one after the other, and no other column counts; where columns clip the second is empty
pub record Wrapping (z : Frame) (d : ℤ) (c : Columns) : Type 0 where
  pub along : Along z d c.along
  pub round : Along z d c.round
  pub joined : c.round.first ≡ c.along.end
  pub clipped : z.columns_wrap ≡ false → c.round.end ≡ c.along.end
  pub others : (k : ℕ) → k < z.columns → (c.along.first ≤ k → k < c.round.end → ⊥) → (z.columns_wrap || in_range z.columns (pos k +ℤ d)) ≡ false
