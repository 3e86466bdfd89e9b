-- From numbers to a drawing, one number after the other: what is missing or malformed, the frame, the window, the levels.
-- Assumes nothing.
use Rattle.std.proofs.Common.{◌≡◌, refl, sym, ◌∙◌, ap, ℕ, ◌≤◌, Bool, true, false, ◌&&◌, leb, List, [], ◌∷◌, ◌++◌, length, take, map, Option, None, Some, Result, Ok, Err, ℤ, pos, negsuc, unsigned_abs, arith}
use mir.Syntax.{w32}
use mir.Val.{SFits}
use Rattle.std.specs.Int.{FitsUnsignedBits}
use Rattle.std.specs.Result.{OkIff, result_unwrap_or}
use Rattle.std.specs.Option.{ok_or}
use native.Mathlib.Nat.{mul-le-mul}
use mathlib.Core.Option.{some}
use mathlib.Core.Bool.{not}
use lib.Dec.{T, leb→le}
use lib.Seq.{take_at, length-take-le}
use borrow.Author.Tests.{le-ltb}
use Rattle.spec_picture.specs.Answers.{number}
use Rattle.spec_picture.specs.Refusal.{◌when◌, refusal, refused, answered}
use Rattle.spec_picture.specs.Conditions.{check3}
use Rattle.spec_picture.specs.declared.Refusal.{Refusal}
use Rattle.spec_picture.specs.declared.Refusal.TheVariants as line
use Rattle.spec_picture.specs.declared.Frame.{Frame}
use Rattle.spec_picture.specs.declared.Window.{Window}
use Rattle.spec_picture.specs.Frame.{frame, frame_legal, cells}
use Rattle.spec_picture.specs.Window.{window, window_legal}
use Rattle.spec_picture.proofs.Refusals.{in-limits}
use Rattle.numbers.proofs.Tests.{and_right}
use Rattle.spec_panel.specs.Text.{runs, number as number_of}
use Rattle.spec_panel.specs.Panel.{count_of, panel_frame, levels_of, windowed, filled, sized, parsed}
use Rattle.panel_text.specs.Levels.{levels_if_read}
use Rattle.panel_text.specs.Read.{no_number, NumberIs, FrameIs, WindowIs, PictureRequires}

-- ---- the frame
sized-no-rows : (ns : List (Option ℤ)) → T (no_number ns) → sized ns ≡ refused 10
unfolding sized
sized-no-rows [] t = refl
sized-no-rows (None ∷ ns) t = refl
sized-no-rows (Some n ∷ ns) t = absurd t

sized-no-columns : (r : ℤ) (ns : List (Option ℤ)) → T (no_number ns) → sized (Some r ∷ ns) ≡ refused 10
unfolding sized
sized-no-columns r [] t = refl
sized-no-columns r (None ∷ ns) t = refl
sized-no-columns r (Some n ∷ ns) t = absurd t

by_frame : (r c : ℤ) (ns : List (Option ℤ)) (b : Bool) → panel_frame (frame (count_of r) (count_of c)) ≡ b
    → sized (Some r ∷ Some c ∷ ns) ≡ elim b [ true ↦ filled (frame (count_of r) (count_of c)) ns | false ↦ refused 1 ]
unfolding sized
by_frame r c ns b e = ap (λ (b : Bool). elim b [ true ↦ filled (frame (count_of r) (count_of c)) ns | false ↦ refused 1 ]) e

-- what reading the frame says
module _ (ns after : List (Option ℤ)) where
  pub no_rows : (e : Refusal) → NumberIs ns (Err e) after → FrameIs ns (Err e) after
  no_rows e n = record { same = sized-no-rows ns n.1 ∙ ap (λ r. refused (number r)) (sym n.0); legal = tt }

  module _ (r : ℤ) (rows-read : NumberIs ns (Ok r) after) (left : List (Option ℤ)) where
    pub no-columns : (e : Refusal) → NumberIs after (Err e) left → FrameIs ns (Err e) left
    no-columns e n = record { same = ap sized rows-read ∙ sized-no-columns r after n.1 ∙ ap (λ r. refused (number r)) (sym n.0); legal = tt }

    module _ (c : ℤ) (columns-read : NumberIs after (Ok c) left) (rows columns : ℕ) (is-rows : rows ≡ count_of r) (is-columns : columns ≡ count_of c) where
      both_read : (b : Bool) → panel_frame (frame rows columns) ≡ b → sized ns ≡ elim b [ true ↦ filled (frame rows columns) left | false ↦ refused 1 ]
      both_read b e =
          let z : frame (count_of r) (count_of c) ≡ frame rows columns = cc in
          ap sized (rows-read ∙ ap (λ l. Some r ∷ l) columns-read) ∙ by_frame r c left b (ap panel_frame z ∙ e) ∙ ap (λ (y : Frame). elim b [ true ↦ filled y left | false ↦ refused 1 ]) z

      pub frame-beyond : panel_frame (frame rows columns) ≡ false → FrameIs ns (Err line.Size) left
      frame-beyond e = record { same = both_read false e; legal = tt }

      pub frame-within : panel_frame (frame rows columns) ≡ true → FrameIs ns (Ok (frame rows columns)) left
      frame-within e = record { same = both_read true e; legal = (rw e tt, refl) }

-- ---- the window
module _ (z : Frame) where
  filled-no-shape : (ns : List (Option ℤ)) → T (no_number ns) → filled z ns ≡ refused 10
  unfolding filled
  filled-no-shape [] t = refl
  filled-no-shape (None ∷ ns) t = refl
  filled-no-shape (Some n ∷ ns) t = absurd t

  filled-no-first : (s : ℤ) (ns : List (Option ℤ)) → T (no_number ns) → filled z (Some s ∷ ns) ≡ refused 10
  unfolding filled
  filled-no-first s [] t = refl
  filled-no-first s (None ∷ ns) t = refl
  filled-no-first s (Some n ∷ ns) t = absurd t

  filled-no-second : (s a : ℤ) (ns : List (Option ℤ)) → T (no_number ns) → filled z (Some s ∷ Some a ∷ ns) ≡ refused 10
  unfolding filled
  filled-no-second s a [] t = refl
  filled-no-second s a (None ∷ ns) t = refl
  filled-no-second s a (Some n ∷ ns) t = absurd t

  filled-window : (s a b : ℤ) (ns : List (Option ℤ)) → filled z (Some s ∷ Some a ∷ Some b ∷ ns) ≡ windowed z (window (count_of s) a b) (levels_of (cells z) ns)
  unfolding filled
  filled-window s a b ns = refl

-- what reading the window says
module _ (ns after : List (Option ℤ)) where
  pub no-shape : (e : Refusal) → NumberIs ns (Err e) after → WindowIs ns (Err e) after
  no-shape e n = record { same = λ z. filled-no-shape z ns n.1 ∙ ap (λ r. refused (number r)) (sym n.0) }

  module _ (s : ℤ) (shape-read : NumberIs ns (Ok s) after) (next : List (Option ℤ)) where
    pub no-first : (e : Refusal) → NumberIs after (Err e) next → WindowIs ns (Err e) next
    no-first e n = record { same = λ z. ap (filled z) shape-read ∙ filled-no-first z s after n.1 ∙ ap (λ r. refused (number r)) (sym n.0) }

    module _ (a : ℤ) (first_read : NumberIs after (Ok a) next) (left : List (Option ℤ)) where
      both : ns ≡ Some s ∷ Some a ∷ next
      both = shape-read ∙ ap (λ l. Some s ∷ l) first_read

      pub no_second : (e : Refusal) → NumberIs next (Err e) left → WindowIs ns (Err e) left
      no_second e n = record { same = λ z. ap (filled z) both ∙ filled-no-second z s a next n.1 ∙ ap (λ r. refused (number r)) (sym n.0) }

      pub window-read : (b : ℤ) (shape : ℕ) → NumberIs next (Ok b) left → shape ≡ count_of s → WindowIs ns (Ok (window shape a b)) left
      window-read b shape n is =
          record {
            same = λ z. rw is (ap (filled z) (both ∙ ap (λ l. Some s ∷ Some a ∷ l) n) ∙ filled-window z s a b left);
          }

-- ---- the outcome
windowed-none : (z : Frame) (w : Window) → windowed z w None ≡ refused 10
unfolding windowed
windowed-none z w = refl

by-window : (z : Frame) (w : Window) (l : List ℤ) (b : Bool) → window_legal w ≡ b → windowed z w (Some l) ≡ elim b [ true ↦ answered (record { frame = z; window = w; levels = l }) | false ↦ refused 3 ]
unfolding windowed
by-window z w l b e = ap (λ (b : Bool). elim b [ true ↦ answered (record { frame = z; window = w; levels = l }) | false ↦ refused 3 ]) e

-- a window that check 3 refuses
pub refused-beyond : (w : Window) (m : ℕ) → some m ≡ refusal (check3 w ∷ []) → (window_legal w ≡ false) × (m ≡ 3)
unfolding refusal
refused-beyond w m = go (window_legal w)
  where
    go : (b : Bool) → some m ≡ refusal ((3 when not b) ∷ []) → (b ≡ false) × (m ≡ 3)
    go true h = cc
    go false h = (refl, cc)

-- ---- a legal frame
pub small-cells : (z : Frame) → frame_legal z ≡ true → cells z ≤ 262144
small-cells z e =
    let l = in-limits z (rw e tt) in
    omega (arith, mul-le-mul l.few_rows l.few_columns)

pub cells-few : (z : Frame) → T (panel_frame z) → cells z ≤ 4096
unfolding panel_frame
cells-few z t = leb→le (cells z) 4096 (and_right (frame_legal z) (leb (cells z) 4096) t)

pub picture-required : {ns after : List (Option ℤ)} {z : Frame} {area : List ℤ} → FrameIs ns (Ok z) after → 4096 ≤ length area → PictureRequires z area
picture-required s h = record { legal = s.legal.0; clips = s.legal.1; room = h }

pub cells-room : (z : Frame) (area : List ℤ) → PictureRequires z area → cells z ≤ length area
cells-room z area r = omega (arith, cells-few z r.legal, r.room)

pub cells-part : (z : Frame) (area : List ℤ) → PictureRequires z area → length (take (cells z) area) ≡ cells z
cells-part z area r = length-take-le (cells z) area (cells-room z area r)

-- ---- a number that counts
pub counted : {E : Type 0} (n : ℤ) (r : Result ℕ E) → OkIff r (FitsUnsignedBits 32 n) (unsigned_abs n) → SFits w32 n → result_unwrap_or r 0 ≡ count_of n
unfolding count_of
counted (pos n) (Ok k) o f = o.1
counted (negsuc n) (Ok k) o f = absurd o.0
counted (pos n) (Err e) o f = absurd (o (omega (arith, f.sfits)))
counted (negsuc n) (Err e) o f = refl

pub frame-inside : (z : Frame) → frame_legal z ≡ true → leb (cells z) 4096 ≡ panel_frame z
unfolding panel_frame
frame-inside z e = sym (ap (λ b. b && leb (cells z) 4096) e)

pub frame-outside : (z : Frame) → frame_legal z ≡ false → false ≡ panel_frame z
unfolding panel_frame
frame-outside z e = sym (ap (λ b. b && leb (cells z) 4096) e)

-- ---- the whole text
text-short : (text : List ℕ) → length text ≤ 65536 → parsed text ≡ sized (map number_of (runs text))
unfolding parsed
text-short text h = ap (λ (b : Bool). elim b [ true ↦ refused 10 | false ↦ sized (map number_of (runs text)) ]) (le-ltb 65536 (length text) h)

module _ (text : List ℕ) (h : length text ≤ 65536) (ns after : List (Option ℤ)) (is : ns ≡ map number_of (runs text)) where
  pub no_frame : (e : Refusal) → FrameIs ns (Err e) after → parsed text ≡ refused (number e)
  no_frame e s = text-short text h ∙ ap sized (sym is) ∙ s.same

  module _ (z : Frame) (s : FrameIs ns (Ok z) after) (left : List (Option ℤ)) where
    frame-read : parsed text ≡ filled z after
    frame-read = text-short text h ∙ ap sized (sym is) ∙ s.same

    pub no-window : (e : Refusal) → WindowIs after (Err e) left → parsed text ≡ refused (number e)
    no-window e w = frame-read ∙ w.same z

    module _ (w : Window) (seen : WindowIs after (Ok w) left) (area : List ℤ) (room : PictureRequires z area) (read : List ℤ) where
      -- what reading the levels answers
      windowed-read : (r : Option Unit) → levels_of (length (take (cells z) area)) left ≡ levels_if_read r read → parsed text ≡ windowed z w (levels_if_read r read)
      windowed-read r e = frame-read ∙ seen.same z ∙ ap (windowed z w) (ap (λ n. levels_of n left) (sym (cells-part z area room)) ∙ e)

      pub no-levels : (r : Option Unit) (e : Refusal) → levels_of (length (take (cells z) area)) left ≡ levels_if_read r read → Err e ≡ ok_or r line.Text → parsed text ≡ refused (number e)
      no-levels None e l i = windowed-read None l ∙ windowed-none z w ∙ ap (λ x. refused (number x)) (text-is e i)
        where
          text-is : (e : Refusal) → ◌≡◌ {A = Result Unit Refusal} (Err e) (Err line.Text) → line.Text ≡ e
          text-is e i = cc
      no-levels (Some u) e l i = absurd cc

      module _ (r : Option Unit) (l : levels_of (length (take (cells z) area)) left ≡ levels_if_read r read) (u : Unit) (some : r ≡ Some u) where
        levels-read : parsed text ≡ windowed z w (Some read)
        levels-read = windowed-read r l ∙ ap (λ x. windowed z w (levels_if_read x read)) some

        pub window-beyond : window_legal w ≡ false → parsed text ≡ refused 3
        window-beyond e = levels-read ∙ by-window z w read false e

        pub picture-accepted : window_legal w ≡ true → (rest : List ℤ) → length read ≡ length (take (cells z) area) → parsed text ≡ answered (record { frame = z; window = w; levels = take (cells z) (read ++ rest) })
        picture-accepted e rest size =
            levels-read ∙ by-window z w read true e ∙
            ap (λ (m : List ℤ). answered (record { frame = z; window = w; levels = m })) (sym (take_at read rest (cells z) (size ∙ cells-part z area room)))
