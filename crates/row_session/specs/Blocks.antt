-- The rows of a plane's sums, in blocks of 16.
-- Assumes nothing.
use Rattle.std.specs.Prelude.{◌≡◌, ℕ, zero, suc, ◌+◌, ◌-◌, ◌*◌, ◌<◌, min, List, take, get_or, ℤ, pos}
use Rattle.numbers.specs.Grid.{tabulate}
use Rattle.spec_picture.specs.Window.{shape_of}
use Rattle.spec_picture.specs.Picture.{Inputs, plane_at}
use Rattle.spec_picture.specs.Direct.{direct_sum}
use Rattle.spec_rows.specs.Rows.{work_value}

-- the work area before row i, if that row is there: anything before row 0, and later, at its front, what the row above left
abbrev pub ready : Inputs → ℕ → List ℤ → Type 0
ready x zero work = Unit
ready x (suc i) work = suc i < x.source.frame.rows → take x.source.frame.columns work ≡ tabulate x.source.frame.columns (work_value x.source.frame (plane_at x.source) (shape_of x.window) i)

-- how many rows the block has that begins at row b
abbrev pub rows_in : Inputs → ℕ → ℕ
rows_in x b = min (suc (b + 15)) x.source.frame.rows - b

-- the sums of m rows from row i on, one after the other from the front of an area on
abbrev pub RowSums : Inputs → (i m : ℕ) → List ℤ → Type 0
RowSums x i m block = (r j : ℕ) → r < m → j < x.source.frame.columns → get_or block (r * x.source.frame.columns + j) (pos 0) ≡ direct_sum x (i + r) j

-- the sums of that block, and the work area ready for the block after it
pub record Block (x : Inputs) (b : ℕ) (work block : List ℤ) : Type 0 where
  pub sums : RowSums x b (rows_in x b) block
  pub after : ready x (b + 16) work

-- the row of the picture that the block begins at, and what the row above it left
pub record BlockRequires (x : Inputs) (i : ℕ) (work : List ℤ) : Type 0 where
  pub row : i < x.source.frame.rows
  pub before : ready x i work
