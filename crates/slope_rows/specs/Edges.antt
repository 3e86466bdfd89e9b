-- The slopes of a slanted window's edges as the code keeps them from row to row, and what its functions require. That the window is no rectangle, and its height
-- and width, are in the type of their inputs.
-- Lengths are required in each contract, for the reason at `row_steps/specs/RowStepRequires`.
-- Assumes nothing.
use Rattle.std.specs.Prelude.{◌≡◌, ℕ, zero, suc, ◌+◌, ◌-◌, ◌*◌, ◌≤◌, ◌<◌, Bool, not, List, T, length, get_or, take, ℤ, pos, ◌+ℤ◌, ◌-ℤ◌}
use Rattle.numbers.specs.Grid.{tabulate}
use Rattle.numbers.specs.Wrap.{wrap}
use Rattle.spec_picture.specs.declared.Frame.{Frame}
use Rattle.spec_picture.specs.Window.{shape_of}
use Rattle.spec_picture.specs.Picture.{Inputs, plane_at}
use Rattle.spec_picture.specs.Plane.{plane_number}
use Rattle.spec_picture.specs.Checked.{checked_source}
use Rattle.spec_rows.specs.Rows.{work_after, strip, Advanced}
use Rattle.slope_loops.specs.Slopes.{padded, rising, falling, edges_change}
use Rattle.slope_loops.specs.Loops.{Blank, Holds, Loaded}
use Rattle.slope_loops.specs.declared.padding.TheConstants.{ABOVE, ROW_LENGTH}
use Rattle.slope_rows.specs.declared.edges.rows.RowsAfter.{RowsAfter}
use Rattle.slope_rows.specs.declared.kept_slopes.SlantedInputs.{SlantedInputs}
use Rattle.slope_rows.specs.declared.places.CallRow.{CallRow}
use Rattle.slope_rows.specs.declared.places.TheConstants.{FALLING_START, RISING_START, SLOPE_SHIFT}

-- n cells of each slope of row y, which have moved by m places since a call began: the slopes of column j are kept at RISING_START + m + j and at FALLING_START - m + j.
-- They are kept of the picture's columns, those that rise of so many more on the right, and those that fall of so many more on the left.
pub record Slopes (Q : ℕ → ℕ → ℤ) (columns more w n y m : ℕ) (rises falls : List ℤ) : Type 0 where
  pub length_rises : length rises ≡ ROW_LENGTH
  pub length_falls : length falls ≡ ROW_LENGTH
  pub rising_at : (s : ℕ) → RISING_START + m ≤ s → s < RISING_START + m + columns + more → get_or rises s (pos 0) ≡ rising Q w n y (s + SLOPE_SHIFT - m)
  pub falling_at : (s : ℕ) → FALLING_START ≤ s + m + more → s + m < FALLING_START + columns → get_or falls s (pos 0) ≡ falling Q w n y (s + m - SLOPE_SHIFT)

-- the plane of such inputs
abbrev pub plane_in : SlantedInputs → ℕ → ℕ → ℤ
plane_in x = plane_at (checked_source x.inputs.source)

-- the same among zeros or wrapped cells
abbrev pub padded_in : SlantedInputs → ℕ → ℕ → ℤ
padded_in x = padded x.inputs.source.frame (plane_in x)

-- how far beside the picture's columns the loops reach: from the last column of which slopes are kept as far as the window is wide, and a column farther when they move on
abbrev pub side : SlantedInputs → ℕ
side x = x.width + x.beside + 1

-- a row of it, as far as the loops reach
abbrev pub PlaneRow : SlantedInputs → (y : ℕ) → List ℤ → Type 0
PlaneRow x y buf = Loaded x.inputs.source.frame (side x) (plane_in x) y buf

abbrev pub HoldsRow : SlantedInputs → (y : ℕ) → List ℤ → Type 0
HoldsRow x y buf = Holds x.inputs.source.frame (side x) (padded_in x y) buf

-- its slopes, kept of so many columns more than the picture's
abbrev pub KeptSlopes : SlantedInputs → (more n y m : ℕ) → (rises falls : List ℤ) → Type 0
KeptSlopes x more n y m rises falls = Slopes (padded_in x) x.inputs.source.frame.columns more x.width n y m rises falls

-- three rows that have zeros around the picture's columns, where columns clip
pub record Rows (z : Frame) (a b c : List ℤ) : Type 0 where
  pub blank_a : Blank z a
  pub blank_b : Blank z b
  pub blank_c : Blank z c

-- a row of the picture, and no slopes yet
pub record StartRequires (x : SlantedInputs) (i : ℕ) (a b rises falls : List ℤ) : Type 0 where
  pub inside : i < x.inputs.source.frame.rows
  pub blank_a : Blank x.inputs.source.frame a
  pub blank_b : Blank x.inputs.source.frame b
  pub slopes : KeptSlopes x x.beside 0 (ABOVE + i) 0 rises falls

-- the slopes of row i
pub record Started (x : SlantedInputs) (i : ℕ) (a b rises falls : List ℤ) : Type 0 where
  pub blank_a : Blank x.inputs.source.frame a
  pub blank_b : Blank x.inputs.source.frame b
  pub slopes : KeptSlopes x x.beside x.height (ABOVE + i) 0 rises falls

-- the sum at column j of a row that begins with `first_sum`: from a column to the next its rising slopes are added and the falling ones of the next subtracted
unfoldable pub sum_by_slopes : (first_sum : ℤ) → (rises falls : List ℤ) → (j : ℕ) → ℤ
sum_by_slopes first_sum rises falls zero = first_sum
sum_by_slopes first_sum rises falls (suc j) = wrap (sum_by_slopes first_sum rises falls j +ℤ (get_or rises (j + RISING_START) (pos 0) -ℤ get_or falls (j + FALLING_START + 1) (pos 0)))

-- slopes, a work area, and an output area for a row
pub record FirstRowRequires (rises falls work out : List ℤ) : Type 0 where
  pub length_rises : length rises ≡ ROW_LENGTH
  pub length_falls : length falls ≡ ROW_LENGTH
  pub few : length work ≤ 1024
  pub room : length out ≡ length work

-- a row of a call, with its slopes, a work area, and an output area for a row
pub record SlopeRowRequires (x : SlantedInputs) (here : CallRow) (a b c rises falls work out : List ℤ) : Type 0 where
  pub inside : here.row < x.inputs.source.frame.rows
  pub turn : here.moved ≤ 254
  pub rows : Rows x.inputs.source.frame a b c
  pub slopes : KeptSlopes x x.beside x.height (ABOVE + here.row) here.moved rises falls
  pub room_work : length work ≡ x.inputs.source.frame.columns
  pub room : length out ≡ x.inputs.source.frame.columns

-- the slopes of a row of a call, of which one more of each kind is to come in
pub record SeamRequires (x : SlantedInputs) (here : CallRow) (rises falls : List ℤ) : Type 0 where
  pub turn : here.moved ≤ 254
  pub slopes : KeptSlopes x x.beside x.height (ABOVE + here.row) here.moved rises falls

-- it has come in
abbrev pub SeamDone : SlantedInputs → CallRow → (rises falls : List ℤ) → Type 0
SeamDone x here rises falls = KeptSlopes x (x.beside + 1) x.height (ABOVE + here.row) here.moved rises falls

-- the work area with what each column adds from row i to i+1
abbrev pub edged : SlantedInputs → (i : ℕ) → List ℤ → List ℤ
edged x i work = tabulate x.inputs.source.frame.columns (λ j. wrap (get_or work j (pos 0) +ℤ edges_change x.inputs.source.frame (plane_in x) x.height x.width i j))

-- the work area and the output row have moved on, and so have the slopes
pub record RowDone (x : SlantedInputs) (here : CallRow) (before a b c rises falls work out : List ℤ) : Type 0 where
  pub rows : Rows x.inputs.source.frame a b c
  pub slopes : KeptSlopes x x.beside x.height (ABOVE + here.row + 1) (here.moved + 1) rises falls
  pub work_is : work ≡ edged x here.row before
  pub output_is : out ≡ edged x here.row before

-- ---- the rows that enter and leave in the middle are kept too
pub record AddEdgesRequires (x : SlantedInputs) (here : CallRow) (a c rises falls work out : List ℤ) : Type 0 where
  pub inside : here.row < x.inputs.source.frame.rows
  pub turn : here.moved ≤ 254
  pub entering : HoldsRow x (ABOVE + here.row + 1 + x.height) a
  pub leaving : HoldsRow x (ABOVE + here.row - x.height) c
  pub slopes : KeptSlopes x x.beside x.height (ABOVE + here.row) here.moved rises falls
  pub room_work : length work ≡ x.inputs.source.frame.columns
  pub room : length out ≡ x.inputs.source.frame.columns

-- of a plane whose values the rows hold
pub record LeavingRequires (holds : ℕ → Type 0) (x : SlantedInputs) (here : CallRow) (a b c rises falls work out : List ℤ) : Type 0 where
  pub plane : holds (plane_number x.inputs.source.plane)
  pub row : SlopeRowRequires x here a b c rises falls work out
  pub leaving : HoldsRow x (ABOVE + here.row - x.height) c

pub record LeavingDone (x : SlantedInputs) (here : CallRow) (before a b c rises falls work out : List ℤ) : Type 0 where
  pub row : RowDone x here before a b c rises falls work out
  pub leaving : HoldsRow x (ABOVE + here.row + 1 - x.height) c

-- rows of the picture after row i, a work area, and an output area for those rows
pub record SlopeRowsRequires (x : SlantedInputs) (i n : ℕ) (work out : List ℤ) : Type 0 where
  pub rows : i + n < x.inputs.source.frame.rows
  pub room_work : length work ≡ x.inputs.source.frame.columns
  pub room : length out ≡ n * x.inputs.source.frame.columns

-- ---- many rows, of a plane whose values the rows hold
-- the same with the slopes of the row before them, and the row that leaves in the middle
pub record AfterRequires (holds : ℕ → Type 0) (x : SlantedInputs) (rows_after : RowsAfter) (a b c rises falls work out : List ℤ) : Type 0 where
  pub plane : holds (plane_number x.inputs.source.plane)
  pub many : SlopeRowsRequires x rows_after.row rows_after.count work out
  pub rows : Rows x.inputs.source.frame a b c
  pub slopes : KeptSlopes x x.beside x.height (ABOVE + rows_after.row) 0 rises falls
  pub leaving : HoldsRow x (ABOVE + rows_after.row - x.height) c

-- A window that has slopes: its height is 1 at least, which is not so of every slanted window; the first rows of the picture, one at least, a work area, and an output area for those rows
pub record FreshRequires (x : SlantedInputs) (n : ℕ) (work out : List ℤ) : Type 0 where
  pub plane : plane_number x.inputs.source.plane ≤ 2
  pub high : 1 ≤ x.height
  pub some : 1 ≤ n
  pub rows : n ≤ x.inputs.source.frame.rows
  pub room_work : length work ≡ x.inputs.source.frame.columns
  pub room : length out ≡ n * x.inputs.source.frame.columns

-- the slopes of row 0, a work area and an output area for a row, where row 0 is to be computed by its slopes
pub record TopRequires (x : SlantedInputs) (fresh : Bool) (rises falls work out : List ℤ) : Type 0 where
  pub high : T fresh → 1 ≤ x.height
  pub slopes : T fresh → KeptSlopes x x.beside x.height ABOVE 0 rises falls
  pub length_rises : length rises ≡ ROW_LENGTH
  pub length_falls : length falls ≡ ROW_LENGTH
  pub room_work : length work ≡ x.inputs.source.frame.columns
  pub room : T fresh → x.inputs.source.frame.columns ≤ length out

-- the work area of row 0, and its row at the front of the output area; or nothing, and the other rows begin at the front
pub record TopDone (x : Inputs) (fresh : Bool) (before work out : List ℤ) (begin : ℕ) : Type 0 where
  pub begins : T fresh → begin ≡ x.source.frame.columns
  pub row : T fresh → work ≡ work_after x.source.frame (plane_at x.source) (shape_of x.window) 0 before
  pub front : T fresh → take x.source.frame.columns out ≡ work
  pub none : T (not fresh) → begin ≡ 0
  pub kept : T (not fresh) → work ≡ before

-- n rows after row i, and row 0 before them where they are fresh
pub record FromRequires (holds : ℕ → Type 0) (x : SlantedInputs) (fresh : Bool) (i n : ℕ) (work out : List ℤ) : Type 0 where
  pub plane : holds (plane_number x.inputs.source.plane)
  pub high : T fresh → 1 ≤ x.height
  pub at_0 : T fresh → i ≡ 0
  pub rows : i + n < x.inputs.source.frame.rows
  pub room_work : length work ≡ x.inputs.source.frame.columns
  pub room_fresh : T fresh → length out ≡ suc n * x.inputs.source.frame.columns
  pub room_after : T (not fresh) → length out ≡ n * x.inputs.source.frame.columns

pub record FromDone (x : Inputs) (fresh : Bool) (i n : ℕ) (before work out : List ℤ) : Type 0 where
  pub from_0 : T fresh → Advanced (strip x.source.frame (plane_at x.source) (shape_of x.window) 0 (suc n) before) work out
  pub after : T (not fresh) → Advanced (strip x.source.frame (plane_at x.source) (shape_of x.window) (suc i) n before) work out
