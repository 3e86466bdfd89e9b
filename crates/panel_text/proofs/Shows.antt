-- A picture that was accepted is not refused by smoothing, and its lines are what panel prints; an output at the front of its area.
-- Assumes nothing.
use mathlib.Core.Path.{◌≡◌, sym, ◌∙◌, ap, subst}
use Prim.Native.Nat.{ℕ, ◌≤◌, ◌<◌}
use native.Mathlib.Omega.{arith}
use borrow.Author.Tests.{lt-ltb, le-ltb}
use mathlib.Core.Bool.{Bool, true, false}
use mathlib.Core.List.{List, ◌++◌}
use mathlib.Core.Option.{none}
use lib.Dec.{T, leb, ltb}
use lib.ListN.{length, take, drop, length-append}
use lib.Seq.{take_at, length-take-le}
use lib.IntN.{ℤ}
use Rattle.numbers.proofs.Tests.{and_left, not-of}
use Rattle.spec_picture.specs.Refusal.{Filling, refusal}
use Rattle.spec_picture.specs.declared.Frame.{Frame}
use Rattle.spec_picture.specs.Frame.{frame_legal, cells}
use Rattle.spec_picture.specs.declared.Window.{Window}
use Rattle.spec_picture.specs.Window.{window_legal}
use Rattle.spec_picture.proofs.Borders.{fits-clipped}
use Rattle.spec_picture.proofs.Refusals.{pass, no-checks, length-passes, in-limits}
use Rattle.spec_smoothing.specs.Smoothing.{smoothed, smooth_checks, smooth_call}
use Rattle.spec_smoothing.proofs.Means.{smooth-writes}
use Rattle.std.specs.Prelude.{Result, Ok, Err}
use Rattle.spec_picture.specs.Answers.{number}
use Rattle.spec_picture.specs.declared.Refusal.{Refusal}
use Rattle.spec_panel.specs.Panel.{panel_frame, lines_of, refused_line, parsed, output_of, panel}
use Rattle.panel_text.specs.Read.{parse_outcome}
use Rattle.panel_text.specs.Print.{Fitted, value_at, LinesRoom}
use Rattle.panel_text.specs.Requires.{ShowRequires}
use Rattle.panel_text.specs.Rendered.{Rendering, rendered}
use Rattle.spec_panel.proofs.Legal.{parsed-legal}
use Rattle.panel_text.proofs.Drawings.{cells-few, cells-part}

pub in_frame : (z : Frame) → T (panel_frame z) → T (frame_legal z)
unfolding panel_frame
in_frame z t = and_left (frame_legal z) (leb (cells z) 4096) t

module _ (z : Frame) (w : Window) (levels : List ℤ) (out : List ℕ) (s : ShowRequires z w levels out) where
  pub show-cells : cells z ≤ 4096
  show-cells = cells-few z s.picture.legal

  pub show-part : cells z ≡ length (take (cells z) levels)
  show-part = sym (cells-part z levels s.picture)

  pub area-part : (area : List ℤ) → 4096 ≡ length area → cells z ≡ length (take (cells z) area)
  area-part area full = sym (length-take-le (cells z) area (omega (arith, show-cells)))

  smooth-passes : (old : List ℤ) → length old ≡ cells z → refusal (smooth_checks z (take (cells z) levels) w old) ≡ none
  smooth-passes old e =
      pass 1 _ _ (not-of (frame_legal z) (in_frame z s.picture.legal)) ∙
      pass 2 _ _ (length-passes (length (take (cells z) levels)) (cells z) (sym show-part)) ∙
      pass 3 _ _ (not-of (window_legal w) s.window) ∙ fits-clipped z s.picture.clips w _ ∙ pass 8 _ _ (length-passes (length old) (cells z) e) ∙ no-checks

  -- the means, in an area of which they are the first, and the lines of them
  module _ (area new : List ℤ) (full : 4096 ≡ length area) (e : new ≡ (smooth_call z (take (cells z) levels) w (take (cells z) area)).area) (size : length new ≡ length (take (cells z) area)) (rest : List ℤ) where
    new-full : length new ≡ cells z
    new-full = size ∙ sym (area-part area full)

    pub means-room : cells z ≤ length (new ++ rest)
    means-room = omega (arith, new-full, length-append new rest)

    pub means-part : cells z ≡ length (take (cells z) (new ++ rest))
    means-part = sym (ap length (take_at new rest (cells z) new-full) ∙ new-full)

    pub lines-room : LinesRoom z (take (cells z) (new ++ rest)) out
    lines-room = record {
      some_column = (in-limits z (in_frame z s.picture.legal)).some_columns;
      full = sym means-part;
      room = omega (arith, show-cells, s.room);
    }

    means-are : take (cells z) (new ++ rest) ≡ smoothed z (take (cells z) levels) w
    means-are = take_at new rest (cells z) new-full ∙ e ∙ ap (λ (f : Filling). f.area) (smooth-writes z (take (cells z) levels) w (take (cells z) area) (smooth-passes (take (cells z) area) (sym (area-part area full))))

    lines-output : lines_of (value_at z.columns (take (cells z) (new ++ rest))) 0 z.rows z.columns ≡ output_of (parse_outcome (Ok (z, w)) levels)
    unfolding output_of
    lines-output = ap (λ (m : List ℤ). lines_of (value_at z.columns m) 0 z.rows z.columns) means-are

    pub show-fitted : (newer : List ℕ) (end : ℕ) → Fitted (lines_of (value_at z.columns (take (cells z) (new ++ rest))) 0 z.rows z.columns) out newer end → Fitted (output_of (parse_outcome (Ok (z, w)) levels)) out newer end
    show-fitted newer end f = subst (λ (b : List ℕ). Fitted b out newer end) lines-output f

-- ---- the whole
module _ (text old : List ℕ) where
  by-room : (b : Bool) → ltb (length old) 28672 ≡ b → rendered text old ≡ elim b [ true ↦ record { count = 0; area = old } | false ↦ record { count = length (panel text); area = panel text ++ drop (length (panel text)) old } ]
  unfolding rendered
  by-room b e =
      ap (λ (b : Bool). elim b [ true ↦ record { count = 0; area = old } | false ↦ record { count = length (panel text); area = panel text ++ drop (length (panel text)) old } ]) e

  pub no_room : length old < 28672 → (0 ≡ (rendered text old).count) × (old ≡ (rendered text old).area)
  no_room h =
      let e = by-room true (lt-ltb (length old) 28672 h) in
      (sym (ap (λ (r : Rendering). r.count) e), sym (ap (λ (r : Rendering). r.area) e))

  module _ (h : 28672 ≤ length old) (r : Result (Frame × Window) Refusal) (levels : List ℤ) (p : parsed text ≡ parse_outcome r levels) where
    pub legal-show : (z : Frame) (w : Window) → r ≡ Ok (z, w) → 4096 ≤ length levels → ShowRequires z w levels old
    legal-show z w is full =
        let l = parsed-legal text (record { frame = z; window = w; levels = take (cells z) levels }) (p ∙ ap (λ (x : Result (Frame × Window) Refusal). parse_outcome x levels) is) in
        record { picture = record { legal = l.frame; clips = l.clips; room = full }; window = l.window; room = h }

    panel-is : panel text ≡ output_of (parse_outcome r levels)
    unfolding panel
    panel-is = ap output_of p

    pub panel-rendered : (x : Result (Frame × Window) Refusal) → r ≡ x → (new : List ℕ) (end : ℕ) → Fitted (output_of (parse_outcome x levels)) old new end → (end ≡ (rendered text old).count) × (new ≡ (rendered text old).area)
    panel-rendered x is new end f =
        let e = by-room false (le-ltb (length old) 28672 h) in
        let b : output_of (parse_outcome x levels) ≡ panel text = ap (λ (y : Result (Frame × Window) Refusal). output_of (parse_outcome y levels)) (sym is) ∙ sym panel-is in
        let g : Fitted (panel text) old new end = subst (λ (l : List ℕ). Fitted l old new end) b f in
        let a : new ≡ (rendered text old).area = g.written.area ∙ ap (λ (k : ℕ). panel text ++ drop k old) g.written.counted ∙ sym (ap (λ (r : Rendering). r.area) e) in
        (g.written.counted ∙ sym (ap (λ (r : Rendering). r.count) e), a)

pub refused-fitted : (e : Refusal) (levels : List ℤ) (old new : List ℕ) (end : ℕ) → Fitted (refused_line (number e)) old new end → Fitted (output_of (parse_outcome (Err e) levels)) old new end
unfolding output_of
refused-fitted e levels old new end f = f
