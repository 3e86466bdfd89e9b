-- A slanted window's change from row to row, by the distance of the columns: how the code goes over "each q from -(k+h) to k+h".
-- Assumes nothing.
use Rattle.std.specs.Prelude.{ℕ, List, get_or, ℤ, pos, ◌+ℤ◌}
use Rattle.numbers.specs.Sum.{sum_to}
use Rattle.numbers.specs.Grid.{tabulate}
use Rattle.numbers.specs.Wrap.{wrap}
use Rattle.spec_picture.specs.declared.Frame.{Frame}
use Rattle.spec_picture.specs.Window.{Shape, depth}
use Rattle.spec_rows.specs.Rows.{enter_leave}
use Rattle.spec_rows.specs.Distances.{at_distance}

-- what column j adds from row i to i+1 at the columns at distance c
abbrev pub edge_change : Frame → (ℕ → ℕ → ℤ) → Shape → (i c j : ℕ) → ℤ
edge_change z P s i c j = at_distance z (enter_leave z P i (depth s c)) c j

-- the work area with the columns at the first n distances added
abbrev pub edges_to : Frame → (ℕ → ℕ → ℤ) → Shape → (i : ℕ) → List ℤ → (n : ℕ) → List ℤ
edges_to z P s i work n = tabulate z.columns (λ j. wrap (get_or work j (pos 0) +ℤ sum_to n (λ c. edge_change z P s i c j)))
