-- "Words of demand 3": one claim about every list of row calls.
--
-- It is a claim about the code, because each contract gives the function's answer and areas by the very definition that is used here:
--   row_session: rows, rows_plain; in C ls_rows         answer, position, work and output area of `row_call`
--   direct_sum: direct_sum; ls_direct_sum             the answer of `direct_call`
--   table: build, read; ls_build, ls_read             answer and area of `build_call`; the answer of `read_call`
--   statistics: mean, variance, deviation; ls_mean, ..  the answers of `mean_call`, `variance_call`, `deviation_call`
--   statistics: voice_answer; ls_voice                the answer of `voice_call`
--   statistics: coefficient; ls_coefficient           the answer of `coefficient_call`
-- A list of calls of `rows` on one session leaves, call by call, what `next` says of `Progress`; the session's position and work area
-- after one call are those before the next. The pictures are slices of i16, so `Levels` holds of their contents. The table's area is
-- what `build` left in it, untouched since.
-- Assumes nothing.
use Rattle.std.specs.Prelude.{◌≡◌, ℕ, suc, ◌+◌, ◌*◌, ◌≤◌, ◌<◌, List, [], ◌∷◌, ◌++◌, length, get_or, ℤ, pos, nat_abs}
use Rattle.std.proofs.Math.Option.{Option, none, some}
use Rattle.spec_picture.specs.Refusal.{answered, refusal, outcome}
use Rattle.spec_picture.specs.Window.{Slanted, rectangle, slanted, shape_of}
use Rattle.spec_picture.specs.Picture.{Levels, Inputs, plane_at}
use Rattle.spec_picture.specs.Frame.{cells}
use Rattle.spec_picture.specs.Conditions.{accepted}
use Rattle.spec_picture.specs.Direct.{direct_sum, direct_call}
use Rattle.spec_table.specs.Table.{build_call, read_call}
use Rattle.spec_rows.specs.Rows.{RowOutcome, column_sum, row_call, row_checks}
use Rattle.spec_statistics.specs.SixSums.{six_sums}
use Rattle.spec_statistics.specs.Moments.{unless_empty, mean, variance, deviation, mean_call, variance_call, deviation_call}
use Rattle.spec_statistics.specs.Voice.{voice, voice_call}
use Rattle.spec_statistics.specs.Coefficient.{coefficient, coefficient_call, value}

-- "its request and its output area are its own"
pub record Call : Type 0 where
  pub request : ℕ
  pub output : List ℤ

-- a session after some calls: its position and work area, the sum of the granted counts, and the joined rows
pub record Progress : Type 0 where
  pub position : ℕ
  pub work : List ℤ
  pub granted : ℕ
  pub joined : List ℤ

-- "A fresh session has position 0, and its work area holds anything."
abbrev pub fresh : List ℤ → Progress
fresh work = record { position = 0; work = work; granted = 0; joined = [] }

-- "A call is granted when no numbered condition holds, the position in 7 being the sum of the granted counts before it"
abbrev pub verdict : Inputs → Progress → Call → Option ℕ
verdict x s c = refusal (row_checks x s.granted c.request s.work c.output)

-- "its granted count is its request"; one that is turned down "adds nothing"
unfoldable pub count_of : Option ℕ → Call → ℕ
count_of none c = c.request
count_of (some k) c = 0

-- "Joined rows are the output areas of the granted calls, each as its call left it"
unfoldable pub rows_of : Option ℕ → RowOutcome → List ℤ
rows_of none r = r.output
rows_of (some k) r = []

-- one call more
unfoldable pub next : Inputs → Progress → Call → Progress
next x s c =
    let v = verdict x s c in
    let r = row_call x s.position c.request s.work c.output in
    record { position = r.position; work = r.work; granted = s.granted + count_of v c; joined = s.joined ++ rows_of v r }

-- all calls of the list, in their order
unfoldable pub after : Inputs → Progress → List Call → Progress
after x s [] = s
after x s (c ∷ cs) = after x (next x s c) cs

-- the claim, for inputs x and a session s after a list of calls, R being `s.granted`; `area` is the lent area that a table is built in
pub record Agreement (x : Inputs) (area : List ℤ) (s : Progress) : Type 0 where
  -- "the position is R"
  pub position_is : s.position ≡ s.granted
  -- R rows are rows of the picture
  pub within : s.granted ≤ x.source.frame.rows
  -- "the joined rows are R times columns numbers"
  pub joined_length : length s.joined ≡ s.granted * x.source.frame.columns
  -- "for each i below R and each column j the number at i times columns plus j is the direct sum at (i, j), by call and by definition"
  pub joined_direct : (i j : ℕ) → i < s.granted → j < x.source.frame.columns → get_or s.joined (i * x.source.frame.columns + j) (pos 0) ≡ direct_sum x i j
  pub joined_call : (i j : ℕ) → i < s.granted → j < x.source.frame.columns → direct_call x i j ≡ answered (get_or s.joined (i * x.source.frame.columns + j) (pos 0))
  -- "and also what reading gives there with this window from a table built of these inputs and untouched since"
  pub joined_read : (i j : ℕ) → i < s.granted → j < x.source.frame.columns →
      read_call x.source.frame (build_call x.source area).area x.window i j ≡ answered (get_or s.joined (i * x.source.frame.columns + j) (pos 0))
  -- "After a granted row i of a session begun fresh .. the work area holds", of one number a column, "for a rectangle, the column sums over rows i-a to i+a;
  -- for the others, the window sums of row i", which are the direct sums: i is R - 1
  pub work_length : (i : ℕ) → s.granted ≡ suc i → length s.work ≡ x.source.frame.columns
  pub work_rectangle : (i j a b : ℕ) → s.granted ≡ suc i → j < x.source.frame.columns → shape_of x.window ≡ rectangle a b → get_or s.work j (pos 0) ≡ column_sum x.source.frame (plane_at x.source) a i j
  pub work_slanted : (i j : ℕ) (o : Slanted) → s.granted ≡ suc i → j < x.source.frame.columns → shape_of x.window ≡ slanted o → get_or s.work j (pos 0) ≡ direct_sum x i j
  -- what the next call answers, whatever it is: "its granted count is its request", and one that is turned down has the number of the first condition that holds
  pub next_answer : (c : Call) → (row_call x s.position c.request s.work c.output).answer ≡ outcome (verdict x s c) c.request
  -- at every cell of the picture direct sum and table reading are equal
  pub table_direct : (i j : ℕ) → i < x.source.frame.rows → j < x.source.frame.columns → read_call x.source.frame (build_call x.source area).area x.window i j ≡ direct_call x i j
  -- "Never refused as impossible means that no statistic answers 9 to the six direct sums"
  pub mean_answers : (i j : ℕ) → i < x.source.frame.rows → j < x.source.frame.columns → mean_call (six_sums x i j) ≡ answered (unless_empty (six_sums x i j) (mean (six_sums x i j)))
  pub variance_answers : (i j : ℕ) → i < x.source.frame.rows → j < x.source.frame.columns → variance_call (six_sums x i j) ≡ answered (unless_empty (six_sums x i j) (variance (six_sums x i j)))
  pub deviation_answers : (i j : ℕ) → i < x.source.frame.rows → j < x.source.frame.columns → deviation_call (six_sums x i j) ≡ answered (unless_empty (six_sums x i j) (pos (deviation (six_sums x i j))))
  pub voice_answers : (i j : ℕ) → i < x.source.frame.rows → j < x.source.frame.columns → voice_call (six_sums x i j) ≡ answered (voice (six_sums x i j))
  pub coefficient_answers : (i j : ℕ) → i < x.source.frame.rows → j < x.source.frame.columns → coefficient_call (six_sums x i j) ≡ answered (coefficient (six_sums x i j))
  -- the coefficient lies from -1000 to 1000 where there is one
  pub coefficient_range : (i j : ℕ) (c : ℤ) → i < x.source.frame.rows → j < x.source.frame.columns → coefficient_call (six_sums x i j) ≡ answered (value c) → nat_abs c ≤ 1000

-- demand 3
abbrev pub Demand3 : Type 0
Demand3 =
    (x : Inputs) (work area : List ℤ) (calls : List Call) → accepted x → Levels x.source.f → Levels x.source.g → length area ≡ cells x.source.frame →
    Agreement x area (after x (fresh work) calls)
