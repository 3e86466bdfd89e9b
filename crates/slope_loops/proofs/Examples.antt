-- Worked examples: the slopes of a diamond and of a hexagon on a plane whose cell in row m and column n is 10 m + n, of 10 columns.
-- Assumes nothing.
use mathlib.Core.Path.{◌≡◌, refl}
use Prim.Native.Nat.{ℕ, ◌+◌, ◌*◌}
use lib.IntN.{ℤ, pos}
use Rattle.numbers.specs.Sum.{sum_to, pick}
use Rattle.spec_picture.specs.Frame.{frame, looped}
use Rattle.slope_loops.specs.Slopes.{padded, edge_slopes, rising, falling}

abbrev cells : ℕ → ℕ → ℤ
cells m n = pos (10 * m + n)

abbrev Q : ℕ → ℕ → ℤ
Q = padded (frame 12 10) cells

-- a diamond with r = 2 on the cell (4, 5): 57 and 66 enter on the right and 43 and 34 leave on the left; 53 and 64 enter on the left, 47 and 36 leave on the right
pub diamond-slopes : (rising Q 2 2 132 261 ≡ pos 46) × (falling Q 2 2 132 261 ≡ pos 34)
unfolding edge_slopes padded sum_to pick
diamond-slopes = (refl, refl)

-- a hexagon with k = 2 and h = 1 has one cell on each slope
pub hexagon-slopes : (rising Q 3 1 132 261 ≡ pos 16) × (falling Q 3 1 132 261 ≡ pos 4)
unfolding edge_slopes padded sum_to pick
hexagon-slopes = (refl, refl)

-- on the cell (0, 1) the slopes above and on the left lie outside, as far as there are any: 13, 22 and 20 enter, and 3 leaves
pub border-slopes : (rising Q 2 2 128 257 ≡ pos 35) × (falling Q 2 2 128 257 ≡ pos 17)
unfolding edge_slopes padded sum_to pick
border-slopes = (refl, refl)

-- where columns wrap, on the cell (4, 9) of the diamond: 51 and 60 enter on the right and 47 and 38 leave on the left; 57 and 68 enter on the left, 41 and 30 leave on the right
pub seam-slopes : (rising (padded (looped 12 10) cells) 2 2 132 265 ≡ pos 26) × (falling (padded (looped 12 10) cells) 2 2 132 265 ≡ pos 54)
unfolding edge_slopes padded sum_to pick
seam-slopes = (refl, refl)
