-- The frame of a picture, its cells, how far apart its rows and its columns are, and what lies at a place past its border.
-- All that knows where a picture ends is here: "A switch per call makes columns wrap; rows still clip."
-- Assumes nothing.
use Rattle.std.specs.Prelude.{ℕ, suc, ◌+◌, ◌-◌, ◌*◌, ◌%◌, ◌<◌, ◌≤◌, min, Bool, true, false, ◌&&◌, ◌||◌, T, leb, ltb, ℤ, pos, negsuc, nat_abs}
use Rattle.numbers.specs.Sum.{dist}
use Rattle.spec_picture.specs.declared.Frame.{Frame}
use Rattle.spec_picture.specs.declared.Cell.{Cell}

-- a frame whose columns clip, as in document 01, and one whose columns wrap: "A looping pad joins its last column to its first"
abbrev pub frame : (rows columns : ℕ) → Frame
frame r c = record { rows = r; columns = c; columns_wrap = false }

abbrev pub looped : (rows columns : ℕ) → Frame
looped r c = record { rows = r; columns = c; columns_wrap = true }

abbrev pub cell : (row column : ℕ) → Cell
cell i j = record { row = i; column = j }

-- "A picture has 1 to 256 rows and 1 to 1,024 columns."
unfoldable pub frame_legal : Frame → Bool
frame_legal z = leb 1 z.rows && leb z.rows 256 && leb 1 z.columns && leb z.columns 1024

-- "rows times columns"
abbrev pub cells : Frame → ℕ
cells z = z.rows * z.columns

-- A cell of the picture. It is in contracts, since it is said of a cell and of a frame: a type that said it would hold both, or be made anew wherever the frame
-- is in another type.
pub record Within (z : Frame) (i j : ℕ) : Type 0 where
  pub row : i < z.rows
  pub column : j < z.columns

-- how far apart two rows, and two columns, of the picture are: where columns wrap, the shorter way round
abbrev pub row_gap : Frame → ℕ → ℕ → ℕ
row_gap z i m = dist i m

abbrev pub gap_of : Bool → (columns j n : ℕ) → ℕ
gap_of false c j n = dist j n
gap_of true c j n = min (dist j n) (c - dist j n)

abbrev pub column_gap : Frame → ℕ → ℕ → ℕ
column_gap z j n = gap_of z.columns_wrap z.columns j n

-- "The window may not meet itself": a row of it that goes as far as r to both sides fits the columns, where they wrap
abbrev pub Apart : Frame → ℕ → Type 0
Apart z r = T z.columns_wrap → 2 * r + 1 ≤ z.columns

-- a signed place is one of the n first
unfoldable pub in_range : ℕ → ℤ → Bool
in_range n (pos k) = ltb k n
in_range n (negsuc k) = false

-- the cell at a signed row and column is inside the picture
abbrev pub inside : Frame → (row column : ℤ) → Bool
inside z r c = in_range z.rows r && in_range z.columns c

-- a cell of g is found there: "A counting cell of g is found at the wrapped column", so where columns wrap any column is one of the picture
abbrev pub inside_g : Frame → (row column : ℤ) → Bool
inside_g z r c = in_range z.rows r && (z.columns_wrap || in_range z.columns c)

-- the remainder of a signed place by n, from 0 to n - 1: of -(k + 1) it is n - 1 less the remainder of k
unfoldable pub remainder : ℕ → ℤ → ℕ
remainder n (pos k) = k % n
remainder n (negsuc k) = n - suc (k % n)

-- the row at a signed place that is inside, and the column: where columns wrap, however often it goes round
abbrev pub row_at : Frame → ℤ → ℕ
row_at z r = nat_abs r

abbrev pub column_of : Bool → ℕ → ℤ → ℕ
column_of false columns c = nat_abs c
column_of true columns c = remainder columns c

abbrev pub column_at : Frame → ℤ → ℕ
column_at z c = column_of z.columns_wrap z.columns c
