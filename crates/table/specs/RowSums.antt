-- A row of the table: the sums of the plane's row, each added to the number above it.
-- Assumes nothing.
use Rattle.std.specs.Prelude.{List, ℕ, suc, get_or, ℤ, pos, ◌+ℤ◌}
use Rattle.numbers.specs.Sum.{sum_to}
use Rattle.numbers.specs.Wrap.{wrap}

-- the number at column j, and 0 past the end
abbrev pub number : List ℤ → (j : ℕ) → ℤ
number l j = get_or l j (pos 0)

-- the table's number at column j of a row: the number above (0 where nothing is above), and the sum of the plane's row up to it
abbrev pub row_number : (above : List ℤ) (row : ℕ → ℤ) → (j : ℕ) → ℤ
row_number above row j = wrap (number above j +ℤ sum_to (suc j) row)
