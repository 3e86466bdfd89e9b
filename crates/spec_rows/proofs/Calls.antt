-- What a reader of the row call's definition may expect.
-- Assumes nothing.
use mathlib.Core.Path.{◌≡◌, refl, sym, ◌∙◌, ap}
use Prim.Native.Nat.{ℕ, zero, suc, ◌+◌, ◌-◌, ◌*◌, ◌≤◌}
use native.Mathlib.Omega.{arith}
use mathlib.Core.Bool.{Bool, true, false, not, ◌||◌, true≢false}
use mathlib.Core.List.{List, [], ◌∷◌, ◌++◌, append_assoc, append-nil}
use mathlib.Core.Option.{Option, none, some}
use lib.Dec.{ltb, eqb, eqb→eq, nltb→le}
use lib.ListN.{length}
use lib.IntN.{ℤ}
use Rattle.numbers.proofs.Grids.{length-tabulate}
use Rattle.spec_picture.specs.Refusal.{◌when◌, refused, answered, refusal, outcome, numbers_of}
use Rattle.spec_picture.specs.declared.Frame.{Frame}
use Rattle.spec_picture.specs.Window.{Shape}
use Rattle.spec_picture.specs.Picture.{Inputs}
use Rattle.spec_picture.specs.Conditions.{input_checks, accepted}
use Rattle.numbers.proofs.Tests.{of-not}
use Rattle.spec_picture.proofs.Refusals.{none-head, none_rest, none_after}
use Rattle.spec_rows.specs.Rows.{work_value, work_after, output_row, strip, row_checks, row_result, row_call}

-- what a call answers: its whole request where no numbered condition holds, "and answers n"; otherwise the number of the first one that does
pub row-answers : (x : Inputs) (position request : ℕ) (work output : List ℤ) →
    (row_call x position request work output).answer ≡ outcome (refusal (row_checks x position request work output)) request
unfolding row_call row_result outcome
row-answers x position request work output = go (refusal (row_checks x position request work output))
  where
    go : (v : Option ℕ) → (row_result x v position request work output).answer ≡ outcome v request
    go none = refl
    go (some k) = refl

-- "Only the number comes back; every lent buffer and the position keep their bytes."
pub refused-keeps : (x : Inputs) (position request : ℕ) (work output : List ℤ) (k : ℕ) → refusal (row_checks x position request work output) ≡ some k →
    row_call x position request work output ≡ record { answer = refused k; position = position; work = work; output = output }
unfolding row_call row_result
refused-keeps x position request work output k e = rw (e, row_result)

-- ---- what a call that is granted has
-- what 7 leaves: the request fits below the last row
fits_below : (rows position request : ℕ) → (ltb rows position || ltb (rows - position) request) ≡ false → position + request ≤ rows
fits_below rows position request e = go (ltb rows position) refl e
  where
    go : (b : Bool) → ltb rows position ≡ b → (b || ltb (rows - position) request) ≡ false → position + request ≤ rows
    go true eb e = absurd (true≢false e)
    go false eb e =
        let h : position ≤ rows = nltb→le rows position (rw eb tt) in
        let k : request ≤ rows - position = nltb→le (rows - position) request (rw e tt) in
        omega arith

-- the rows that are asked for are rows of the picture, and both areas have the lengths that document 01 gives them
pub record RowsGranted (x : Inputs) (position request : ℕ) (work output : List ℤ) : Type 0 where
  pub within : position + request ≤ x.source.frame.rows
  pub room_work : length work ≡ x.source.frame.columns
  pub room : length output ≡ request * x.source.frame.columns

pub granted-has : (x : Inputs) (position request : ℕ) (work output : List ℤ) → refusal (row_checks x position request work output) ≡ none → RowsGranted x position request work output
granted-has x position request work output e =
    let z = x.source.frame in
    let c7 = ltb z.rows position || ltb (z.rows - position) request in
    let c8 = not (eqb (length work) z.columns) in
    let last = not (eqb (length output) (request * z.columns)) in
    let r8 = (8 when last) ∷ [] in
    let r7 = (8 when c8) ∷ r8 in
    let e7 = none_after (input_checks x) ((7 when c7) ∷ r7) e in
    let e8 = none_rest 7 c7 r7 e7 in
    record {
      within = fits_below z.rows position request (none-head 7 c7 r7 e7);
      room_work = eqb→eq (length work) z.columns (of-not (eqb (length work) z.columns) (none-head 8 c8 r8 e8));
      room = eqb→eq (length output) (request * z.columns) (of-not (eqb (length output) (request * z.columns)) (none-head 8 last [] (none_rest 8 c8 r8 e8)));
    }

empty-list : (l : List ℤ) → length l ≡ 0 → l ≡ []
empty-list [] e = refl
empty-list (a ∷ l) e = absurd (omega arith)

-- "n = 0 changes nothing at all"
pub zero-keeps : (x : Inputs) (position : ℕ) (work output : List ℤ) → accepted x → refusal (row_checks x position 0 work output) ≡ none →
    row_call x position 0 work output ≡ record { answer = answered 0; position = position; work = work; output = output }
unfolding row_call row_result strip
zero-keeps x position work output ok e =
    let z : position + 0 ≡ position = omega arith in
    rw (e, row_result, z) (ap (λ (l : List ℤ). record { answer = answered 0; position = position; work = work; output = l }) (sym nothing))
  where
    nothing : output ≡ []
    nothing =
        let g = granted-has x position 0 work output e in
        empty-list output (omega (arith, g.room))

-- "Checks run in number order, each where the call has that input": 8 for the work area and for the output area
pub row-order : (x : Inputs) (position request : ℕ) (work output : List ℤ) → numbers_of (row_checks x position request work output) ≡ 1 ∷ 2 ∷ 2 ∷ 3 ∷ 4 ∷ 5 ∷ 11 ∷ 7 ∷ 8 ∷ 8 ∷ []
unfolding numbers_of
row-order x position request work output = refl

-- "At position 0 the work area is not read."
pub start-unread : (z : Frame) (P : ℕ → ℕ → ℤ) (s : Shape) (work work' : List ℤ) → work_after z P s 0 work ≡ work_after z P s 0 work'
unfolding work_after
start-unread z P s work work' = refl

-- the work area keeps its length
pub work-length : (z : Frame) (P : ℕ → ℕ → ℤ) (s : Shape) (position : ℕ) (work : List ℤ) → length (work_after z P s position work) ≡ z.columns
unfolding work_after
work-length z P s zero work = length-tabulate z.columns (work_value z P s 0)
work-length z P s (suc i) work = length-tabulate z.columns _

-- ---- n rows and then m rows are n + m rows
module _ (z : Frame) (P : ℕ → ℕ → ℤ) (s : Shape) where
  pub strip-join : (p n m : ℕ) (work : List ℤ) →
      strip z P s p (n + m) work ≡
      record { work = (strip z P s (p + n) m (strip z P s p n work).work).work; output = (strip z P s p n work).output ++ (strip z P s (p + n) m (strip z P s p n work).work).output }
  unfolding strip
  strip-join p zero m work =
      let e : 0 + m ≡ m = omega arith in
      let f : p + 0 ≡ p = omega arith in
      rw (e, f)
  strip-join p (suc n) m work =
      let e : suc n + m ≡ suc (n + m) = omega arith in
      let f : p + suc n ≡ suc p + n = omega arith in
      rw (e, f, strip-join (suc p) n m (work_after z P s p work), append_assoc)

  -- one row more, as a loop makes it
  pub strip-more : (p n : ℕ) (work : List ℤ) →
      strip z P s p (suc n) work ≡
      record {
        work = work_after z P s (p + n) (strip z P s p n work).work;
        output = (strip z P s p n work).output ++ output_row z s (work_after z P s (p + n) (strip z P s p n work).work);
      }
  unfolding strip
  strip-more p n work =
      let e : suc n ≡ n + 1 = omega arith in
      ap (λ (k : ℕ). strip z P s p k work) e ∙ strip-join p n 1 work ∙ ap (λ (l : List ℤ). record { work = work_after z P s (p + n) (strip z P s p n work).work; output = (strip z P s p n work).output ++ l }) (append-nil (output_row z s (work_after z P s (p + n) (strip z P s p n work).work)))
