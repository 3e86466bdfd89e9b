-- The first steady cell of some rows, from N, S and A of their cells.
-- Assumes nothing.
use Rattle.std.specs.Prelude.{◌≡◌, Bool, false, List, ℕ, ◌+◌, ◌*◌, ◌≤◌, ◌<◌, length, get_or, ℤ, pos}
use Rattle.spec_statistics.specs.declared.Sums.{Sums}
use Rattle.spec_statistics.specs.SixSums.{impossible}
use Rattle.spec_statistics.specs.Voice.{voice}
use Rattle.spec_smoothing.specs.Steady.{is_steady}

-- the six sums of f alone: those of g are 0
abbrev pub first_sums : (n s a : ℤ) → Sums
first_sums n s a = record { n = n; s = s; t = pos 0; a = a; b = pos 0; p = pos 0 }

-- those of the cell at place k of three areas
abbrev pub sums_at : (n s a : List ℤ) → ℕ → Sums
sums_at n s a k = first_sums (get_or n k (pos 0)) (get_or s k (pos 0)) (get_or a k (pos 0))

-- whether a cell is steady, of rows that are one after the other in the areas
abbrev pub steady_in : (columns : ℕ) (n s a : List ℤ) (i j : ℕ) → Bool
steady_in columns n s a i j = is_steady (voice (sums_at n s a (i * columns + j)))

-- rows within three areas, whose sums are never refused
pub record CellsRequires (rows columns : ℕ) (n s a : List ℤ) : Type 0 where
  pub few : rows * columns ≤ 16384
  pub room_n : rows * columns ≤ length n
  pub room_s : rows * columns ≤ length s
  pub room_a : rows * columns ≤ length a
  pub possible : (i j : ℕ) → i < rows → j < columns → impossible (sums_at n s a (i * columns + j)) ≡ false
