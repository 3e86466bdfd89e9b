-- What the code that prints means: bytes written to the front of an area, and how many it holds.
-- Assumes nothing.
use Rattle.std.specs.Prelude.{◌≡◌, ℕ, ◌+◌, ◌*◌, ◌≤◌, List, ◌++◌, length, drop, get_or, ℤ, pos}
use Rattle.spec_picture.specs.declared.Frame.{Frame}
use Rattle.spec_picture.specs.Frame.{cells}
use Rattle.spec_panel.specs.Panel.{line_of}

-- `new` begins with the bytes, so many, and its rest is that of `old`
pub record Written (bytes old new : List ℕ) (count : ℕ) : Type 0 where
  pub area : new ≡ bytes ++ drop count old
  pub counted : count ≡ length bytes

-- the same, within the area
pub record Fitted (bytes old new : List ℕ) (count : ℕ) : Type 0 where
  pub written : Written bytes old new count
  pub inside : count ≤ length old

-- the level in row i and column j of a picture with so many columns
abbrev pub value_at : ℕ → List ℤ → ℕ → ℕ → ℤ
value_at columns l i j = get_or l (i * columns + j) (pos 0)

-- a mean is at most 6 bytes, `-32768`, and a byte follows each
pub record LineRoom (row : List ℤ) (area : List ℕ) : Type 0 where
  pub some_column : 1 ≤ length row
  pub room : 7 * length row ≤ length area

pub record LineWritten (row : List ℤ) (old new : List ℕ) (count : ℕ) : Type 0 where
  pub written : Written (line_of (λ j. get_or row j (pos 0)) (length row)) old new count
  pub short : count ≤ 7 * length row

pub record LinesRoom (z : Frame) (means : List ℤ) (area : List ℕ) : Type 0 where
  pub some_column : 1 ≤ z.columns
  pub full : length means ≡ cells z
  pub room : 7 * cells z ≤ length area
