-- The sums of a row's neighbours, and a sum that slides from place to place.
-- Assumes nothing.
use Rattle.std.specs.Prelude.{◌≡◌, ℕ, ◌+◌, Bool, List, leb, length, get_or, ℤ, pos, ◌+ℤ◌, ◌-ℤ◌}
use Rattle.numbers.specs.Grid.{tabulate}
use Rattle.numbers.specs.Sum.{sum_to, pick}
use Rattle.numbers.specs.Wrap.{wrap}
use Rattle.spec_picture.specs.Frame.{gap_of}

-- "the wrapped sum .. over columns j-b to j+b": of the row's numbers at most b columns from column j, where columns clip or wrap
abbrev pub neighbour_sum : Bool → List ℤ → (b j : ℕ) → ℤ
neighbour_sum wraps row b j = wrap (sum_to (length row) (λ n. pick (leb (gap_of wraps (length row) j n) b) (get_or row n (pos 0))))

-- a sum after its first n changes, wrapped
unfoldable pub running_sum : ℤ → (ℕ → ℤ) → ℕ → ℤ
running_sum sum change n = wrap (sum +ℤ sum_to n change)

-- what enters at place k less what leaves there, 0 past the end of either
abbrev pub entered_less_left : (enter leave : List ℤ) → ℕ → ℤ
entered_less_left enter leave k = get_or enter k (pos 0) -ℤ get_or leave k (pos 0)

-- `new` has at each place the sum and what entered less what left up to there, and `last` is the last of these
pub record Slid (enter leave : List ℤ) (sum : ℤ) (old new : List ℤ) (last : ℤ) : Type 0 where
  pub sums : new ≡ tabulate (length old) (λ k. running_sum sum (entered_less_left enter leave) (k + 1))
  pub ends : last ≡ running_sum sum (entered_less_left enter leave) (length old)
