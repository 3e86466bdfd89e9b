-- The places that count along one side of the picture.
-- Assumes nothing.
use Rattle.std.specs.Prelude.{◌≡◌, ℕ, ◌+◌, ◌-◌, ◌≤◌, ◌<◌, ◌&&◌, leb, ltb, ℤ, pos, nat_abs, ◌+ℤ◌}
use Rattle.plane_rows.specs.declared.overlaps.overlap.Overlap.{Overlap}
use Rattle.spec_picture.specs.Frame.{in_range}

-- the places from `first` up to `end` are those of the n places k for which k + d is one of them too, and k + d is as far from `first_in_g` as k is from `first`
pub record Overlapping (n : ℕ) (d : ℤ) (o : Overlap) : Type 0 where
  pub within : o.end ≤ n
  pub within_g : o.first_in_g + (o.end - o.first) ≤ n
  pub counts : (k : ℕ) → k < n → in_range n (pos k +ℤ d) ≡ (leb o.first k && ltb k o.end)
  pub place : (k : ℕ) → o.first ≤ k → k < o.end → nat_abs (pos k +ℤ d) ≡ o.first_in_g + (k - o.first)
