-- The columns at one distance from a column.
-- Assumes nothing.
use Rattle.std.specs.Prelude.{ℕ, zero, suc, ℤ}
use Rattle.spec_picture.specs.declared.Frame.{Frame}
use Rattle.spec_picture.specs.Sides.{at_both}

-- the values of F at the columns at distance c from column j, as far as there are any
unfoldable pub at_distance : Frame → (ℕ → ℤ) → (c j : ℕ) → ℤ
at_distance z F zero j = F j
at_distance z F (suc c) j = at_both z.columns_wrap z.columns (suc c) j F
