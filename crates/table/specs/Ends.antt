-- Rows of a window that go on at the other end of the picture's.
-- Assumes nothing.
use Rattle.std.specs.Prelude.{◌≡◌, ℕ, suc, ◌+◌, Bool, true, false, not, ◌&&◌, ◌||◌, T, ltb}
use Rattle.spec_picture.specs.declared.Frame.{Frame}

-- columns wrap, and a row of half width b on column j has columns past an end
abbrev pub beyond_an_end : Frame → (b j : ℕ) → Bool
beyond_an_end z b j = z.columns_wrap && (ltb z.columns (suc (j + b)) || ltb j b)

-- whether such a row is to be read as one that goes round: it is where it has columns past an end, and may be where columns wrap
pub record Round (z : Frame) (b j : ℕ) (round : Bool) : Type 0 where
  pub none : T (not round) → beyond_an_end z b j ≡ false
  pub wraps : T round → z.columns_wrap ≡ true
