-- Lines of numbers, written one number after the other.
-- Assumes nothing.
use mathlib.Core.Path.{◌≡◌, refl, sym, ◌∙◌, ap, subst}
use Prim.Native.Nat.{ℕ, zero, suc, ◌+◌, ◌-◌, ◌*◌, ◌≤◌, ◌<◌}
use native.Mathlib.Nat.{mul-le-mul_right}
use native.Mathlib.Numerals.{add-one}
use native.Mathlib.Omega.{arith}
use mathlib.Core.List.{List, [], ◌∷◌, ◌++◌, append-nil, append_assoc}
use lib.ListN.{length, take, drop, get_or-append}
use lib.IntN.{ℤ, pos}
use lib.Seq.{get_or-append_seam}
use borrow.Rule.Slice.PartMut.{put_mid}
use Rattle.numbers.proofs.Lines.{line-end, line-next}
use Rattle.numbers.proofs.Writes.{at, slice_at, slice-length}
use Rattle.spec_picture.specs.declared.Frame.{Frame}
use Rattle.spec_panel.specs.Text.{space, line_feed, printed}
use Rattle.spec_panel.specs.Panel.{line_of, lines_of}
use Rattle.panel_text.specs.Print.{Written, Fitted, value_at, LineRoom, LineWritten, LinesRoom}
use Rattle.panel_text.proofs.Bytes.{nothing, written-length, room-after, then_bytes, written_is}

-- ---- bytes of which the first are written, `rest` is still to write
pub record Remaining (bytes old rest new : List ℕ) (count : ℕ) : Type 0 where
  pub done : List ℕ
  pub written : Written done old new count
  pub split : bytes ≡ done ++ rest

remaining-first : (bytes old : List ℕ) → Remaining bytes old bytes old 0
remaining-first bytes old = record { done = []; written = nothing old; split = refl }

module _ (bytes old rest new : List ℕ) (count : ℕ) (r : Remaining bytes old rest new count) where
  remaining-more : (xs more part : List ℕ) (n : ℕ) → rest ≡ xs ++ more → Written xs (take (length new - count) (drop count new)) part n → Remaining bytes old more (put_mid count (length new - count) new part) (count + n)
  remaining-more xs more part n e w =
      record {
        done = r.done ++ xs;
        written = then_bytes _ _ _ _ r.written xs part n w;
        split = r.split ∙ ap (λ l. r.done ++ l) e ∙ sym (append_assoc r.done xs more);
      }

  remaining-none : rest ≡ [] → Written bytes old new count
  remaining-none e = written_is _ _ _ _ _ (sym (r.split ∙ ap (λ l. r.done ++ l) e ∙ append-nil r.done)) r.written

-- ---- one line
line-cong : (f g : ℕ → ℤ) (n : ℕ) → ((j : ℕ) → j < n → f j ≡ g j) → line_of f n ≡ line_of g n
unfolding line_of
line-cong f g zero h = refl
line-cong f g (suc zero) h = ap (λ (v : ℤ). printed v ++ (line_feed ∷ [])) (h 0 (omega arith))
line-cong f g (suc (suc n)) h =
    ap (λ (v : ℤ). printed v ++ (space ∷ line_of (λ j. f (suc j)) (suc n))) (h 0 (omega arith)) ∙
    ap (λ (l : List ℕ). printed (g 0) ++ (space ∷ l)) (line-cong (λ j. f (suc j)) (λ j. g (suc j)) (suc n) (λ j l. h (suc j) (omega arith)))

line-split : (g : ℕ → ℤ) (m : ℕ) → line_of g (suc (suc m)) ≡ (printed (g 0) ++ (space ∷ [])) ++ line_of (λ j. g (suc j)) (suc m)
unfolding line_of
line-split g m = sym (append_assoc (printed (g 0)) (space ∷ []) (line_of (λ j. g (suc j)) (suc m)))

line-one : (g : ℕ → ℤ) → line_of g 1 ≡ (printed (g 0) ++ (line_feed ∷ [])) ++ []
unfolding line_of
line-one g = sym (append-nil (printed (g 0) ++ (line_feed ∷ [])))

-- the line from its k-th number on
unfoldable pub later : (ℕ → ℤ) → ℕ → ℕ → List ℕ
later f k n = line_of (λ j. f (k + j)) (n - k)

first-later : (f : ℕ → ℤ) (n : ℕ) → line_of f n ≡ later f 0 n
unfolding later
first-later f n =
    let e : n - 0 ≡ n = omega arith in
    rw e (line-cong f (λ j. f (0 + j)) n (λ j h. let z : 0 + j ≡ j = omega arith in ap f (sym z)))

more-later : (f : ℕ → ℤ) (k n : ℕ) → k + 1 < n → later f k n ≡ (printed (f k) ++ (space ∷ [])) ++ later f (k + 1) n
unfolding later
more-later f k n h =
    let m : ℕ = n - k - 2 in
    let e : n - k ≡ suc (suc (n - k - 2)) = omega arith in
    let d : n - (k + 1) ≡ suc (n - k - 2) = omega arith in
    let z : k + 0 ≡ k = omega arith in
    rw (e, d)
    (line-split (λ j. f (k + j)) m ∙ ap (λ (i : ℕ). (printed (f i) ++ (space ∷ [])) ++ line_of (λ j. f (k + suc j)) (suc m)) z ∙
    ap (λ (l : List ℕ). (printed (f k) ++ (space ∷ [])) ++ l) (line-cong (λ j. f (k + suc j)) (λ j. f (k + 1 + j)) (suc m) (λ j l. let s : k + suc j ≡ k + 1 + j = omega arith in ap f s)))

last-later : (f : ℕ → ℤ) (k n : ℕ) → k + 1 ≡ n → later f k n ≡ (printed (f k) ++ (line_feed ∷ [])) ++ []
unfolding later
last-later f k n h =
    let e : n - k ≡ 1 = omega arith in
    let z : k + 0 ≡ k = omega arith in
    rw e (line-one (λ j. f (k + j)) ∙ ap (λ (i : ℕ). (printed (f i) ++ (line_feed ∷ [])) ++ []) z)

-- the last number of a row, and those before it
module _ (row before : List ℤ) (last : ℤ) (parts : row ≡ before ++ (last ∷ [])) where
  pub at-front : (k : ℕ) → k < length before → at before k ≡ at row k
  at-front k h = sym (ap (λ l. at l k) parts ∙ get_or-append before (last ∷ []) (pos 0) k h)

  pub at-last : (k : ℕ) → k ≡ length before → last ≡ at row k
  at-last k e = sym (ap (λ l. at l k) parts ∙ ap (λ j. at (before ++ (last ∷ [])) j) e ∙ get_or-append_seam before last [] (pos 0))

-- k numbers of the line are written
pub record LineUpto (row : List ℤ) (old new : List ℕ) (count k : ℕ) : Type 0 where
  pub inside : k + 1 ≤ length row
  pub room : count ≤ 7 * k
  pub rest : Remaining (line_of (at row) (length row)) old (later (at row) k (length row)) new count

pub line_first : (row : List ℤ) (old : List ℕ) → 1 ≤ length row → LineUpto row old old 0 0
line_first row old h =
    record {
      inside = omega arith;
      room = omega arith;
      rest = subst (λ (l : List ℕ). Remaining (line_of (at row) (length row)) old l old 0) (first-later (at row) (length row)) (remaining-first (line_of (at row) (length row)) old);
    }

module _ (row : List ℤ) (old new : List ℕ) (count k : ℕ) (u : LineUpto row old new count k) where
  module _ (part : List ℕ) (n : ℕ) where
    pub line-more : k + 1 < length row → Written (printed (at row k) ++ (space ∷ [])) (take (length new - count) (drop count new)) part n → n ≤ 7
        → LineUpto row old (put_mid count (length new - count) new part) (count + n) (k + 1)
    line-more h w s =
        record {
          inside = omega arith;
          room = omega (arith, u.room);
          rest = remaining-more _ _ _ _ _ u.rest _ _ _ _ (more-later (at row) k (length row) h) w;
        }

    pub line-done : k + 1 ≡ length row → Written (printed (at row k) ++ (line_feed ∷ [])) (take (length new - count) (drop count new)) part n → n ≤ 7
        → LineWritten row old (put_mid count (length new - count) new part) (count + n)
    line-done h w s =
        record {
          written = remaining-none _ _ _ _ _ (remaining-more _ _ _ _ _ u.rest _ [] _ _ (last-later (at row) k (length row) h) w) refl;
          short = omega (arith, u.room);
        }

-- ---- all lines
lines_more : (f : ℕ → ℕ → ℤ) (i n c : ℕ) → i < n → lines_of f i (n - i) c ≡ line_of (f i) c ++ lines_of f (i + 1) (n - (i + 1)) c
unfolding lines_of
lines_more f i n c h =
    let e : n - i ≡ suc (n - (i + 1)) = omega arith in
    rw (e, add-one)

lines_none : (f : ℕ → ℕ → ℤ) (i n c : ℕ) → n ≤ i → lines_of f i (n - i) c ≡ []
unfolding lines_of
lines_none f i n c h = let e : n - i ≡ 0 = omega arith in rw e

-- a row of the picture
row_is : (means : List ℤ) (lo i c : ℕ) → lo ≡ i * c → lo + c ≤ length means → line_of (at (take (lo + c - lo) (drop lo means))) (length (take (lo + c - lo) (drop lo means))) ≡ line_of (value_at c means i) c
row_is means lo i c e h =
    let n : length (take (lo + c - lo) (drop lo means)) ≡ c = slice-length lo (lo + c) means (omega arith) h ∙ omega arith in
    rw n (line-cong (at (take (lo + c - lo) (drop lo means))) (value_at c means i) c (λ j l. slice_at lo (lo + c) means (omega arith) h j (omega arith) ∙ ap (λ (m : ℕ). at means (m + j)) e))

-- the lines of the first i rows are written
pub record LinesUpto (z : Frame) (means : List ℤ) (old new : List ℕ) (count i : ℕ) : Type 0 where
  pub inside : i ≤ z.rows
  pub room : count ≤ 7 * (i * z.columns)
  pub rest : Remaining (lines_of (value_at z.columns means) 0 z.rows z.columns) old (lines_of (value_at z.columns means) i (z.rows - i) z.columns) new count

module _ (z : Frame) (means : List ℤ) (old new : List ℕ) (count i : ℕ) (asked : LinesRoom z means old) (u : LinesUpto z means old new count i) where
  pub count-inside : count ≤ length old
  count-inside = omega (arith, u.room, asked.room, mul-le-mul_right z.columns u.inside)

  module _ (h : i < z.rows) where
    row_inside : i * z.columns + z.columns ≤ z.rows * z.columns
    row_inside = line-end i z.rows z.columns h

    pub row-part : i * z.columns + z.columns ≤ length means
    row-part = omega (arith, row_inside, asked.full)

    row-length : length (take (i * z.columns + z.columns - i * z.columns) (drop (i * z.columns) means)) ≡ z.columns
    row-length = slice-length (i * z.columns) (i * z.columns + z.columns) means (omega arith) row-part ∙ omega arith

    pub row_room : LineRoom (take (i * z.columns + z.columns - i * z.columns) (drop (i * z.columns) means)) (take (length new - count) (drop count new))
    row_room =
        let w = u.rest.written in
        record {
          some_column = omega (arith, row-length, asked.some_column);
          room = omega (arith, row-length, room-after _ _ _ _ w, written-length _ _ _ _ w count-inside, u.room, row_inside, asked.room);
        }

    pub lines_next : (part : List ℕ) (n : ℕ) → LineWritten (take (i * z.columns + z.columns - i * z.columns) (drop (i * z.columns) means)) (take (length new - count) (drop count new)) part n
        → LinesUpto z means old (put_mid count (length new - count) new part) (count + n) (i + 1)
    lines_next part n w =
        record {
          inside = omega arith;
          room = omega (arith, w.short, row-length, u.room, line-next i z.columns);
          rest = remaining-more _ _ _ _ _ u.rest _ _ _ _ (lines_more (value_at z.columns means) i z.rows z.columns h) (written_is _ _ _ _ _ (row_is means (i * z.columns) i z.columns refl row-part) w.written);
        }

  pub lines-done : z.rows ≤ i → Fitted (lines_of (value_at z.columns means) 0 z.rows z.columns) old new count
  lines-done h =
      record {
        written = remaining-none _ _ _ _ _ u.rest (lines_none (value_at z.columns means) i z.rows z.columns h);
        inside = count-inside;
      }
