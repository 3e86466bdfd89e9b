-- The longest output: 28,672 bytes hold what panel prints of any text, so a rendering lies within its area.
-- Assumes nothing.
use mathlib.Core.Path.{◌≡◌, refl, ◌∙◌}
use Prim.Native.Nat.{ℕ, zero, suc, ◌+◌, ◌*◌, ◌≤◌, ◌<◌}
use native.Mathlib.Nat.{suc-mul}
use native.Mathlib.Omega.{arith}
use borrow.Author.Tests.{ltb-false}
use mathlib.Core.Bool.{Bool, true, false}
use mathlib.Core.List.{List, [], ◌∷◌, ◌++◌, map}
use Rattle.std.specs.Prelude.{Option, None, Some}
use lib.Dec.{ltb}
use lib.ListN.{length, drop, length-append, length-drop}
use lib.IntN.{ℤ}
use mir.Syntax.{w16}
use mir.Val.{SFits}
use Rattle.spec_picture.specs.Refusal.{Outcome, refused, answered}
use Rattle.spec_picture.specs.declared.Frame.{Frame}
use Rattle.spec_picture.specs.Frame.{frame, cells}
use Rattle.spec_picture.specs.declared.Window.{Window}
use Rattle.spec_picture.specs.Window.{window, window_legal}
use Rattle.spec_picture.proofs.Refusals.{in-limits}
use Rattle.spec_smoothing.specs.Smoothing.{smoothed}
use Rattle.spec_smoothing.proofs.Means.{mean-level, smoothed-at}
use Rattle.spec_panel.specs.Text.{space, line_feed, runs, number, decimal, printed}
use Rattle.spec_panel.specs.Panel.{Drawing, count_of, panel_frame, levels_of, windowed, filled, sized, parsed, line_of, lines_of, output_of, panel}
use Rattle.panel_text.specs.Print.{value_at}
use Rattle.panel_text.specs.Rendered.{Rendering, rendered}
use Rattle.spec_panel.proofs.Legal.{Legal, parsed-legal}
use Rattle.panel_text.proofs.Bytes.{few-digits, level-bytes}
use Rattle.panel_text.proofs.Drawings.{cells-few}
use Rattle.panel_text.proofs.Shows.{in_frame}

-- ---- a refusal's number has at most two digits
abbrev Small : Outcome Drawing → Type 0
Small (refused n) = n ≤ 10
Small (answered d) = Unit

windowed-small : (z : Frame) (w : Window) (o : Option (List ℤ)) → Small (windowed z w o)
unfolding windowed
windowed-small z w None = omega arith
windowed-small z w (Some l) = go (window_legal w)
  where
    go : (b : Bool) → Small (elim b [ true ↦ answered (record { frame = z; window = w; levels = l }) | false ↦ refused 3 ])
    go true = tt
    go false = omega arith

filled-small : (z : Frame) (ns : List (Option ℤ)) → Small (filled z ns)
unfolding filled
filled-small z [] = omega arith
filled-small z (None ∷ ns) = omega arith
filled-small z (Some s ∷ []) = omega arith
filled-small z (Some s ∷ None ∷ ns) = omega arith
filled-small z (Some s ∷ Some a ∷ []) = omega arith
filled-small z (Some s ∷ Some a ∷ None ∷ ns) = omega arith
filled-small z (Some s ∷ Some a ∷ Some b ∷ ns) = windowed-small z (window (count_of s) a b) (levels_of (cells z) ns)

sized-small : (ns : List (Option ℤ)) → Small (sized ns)
unfolding sized
sized-small [] = omega arith
sized-small (None ∷ ns) = omega arith
sized-small (Some r ∷ []) = omega arith
sized-small (Some r ∷ None ∷ ns) = omega arith
sized-small (Some r ∷ Some c ∷ ns) = go (panel_frame (frame (count_of r) (count_of c)))
  where
    go : (b : Bool) → Small (elim b [ true ↦ filled (frame (count_of r) (count_of c)) ns | false ↦ refused 1 ])
    go true = filled-small (frame (count_of r) (count_of c)) ns
    go false = omega arith

parsed-small : (text : List ℕ) → Small (parsed text)
unfolding parsed
parsed-small text = go (ltb 65536 (length text))
  where
    go : (b : Bool) → Small (elim b [ true ↦ refused 10 | false ↦ sized (map number (runs text)) ])
    go true = omega arith
    go false = sized-small (map number (runs text))

-- ---- at most 7 bytes a cell
line-length : (f : ℕ → ℤ) (n : ℕ) → 1 ≤ n → ((j : ℕ) → j < n → length (printed (f j)) ≤ 6) → length (line_of f n) ≤ 7 * n
unfolding line_of
line-length f zero h s = absurd (omega arith)
line-length f (suc zero) h s = omega (arith, length-append (printed (f 0)) (line_feed ∷ []), s 0 (omega arith))
line-length f (suc (suc n)) h s =
    omega (arith, length-append (printed (f 0)) (space ∷ line_of (λ j. f (suc j)) (suc n)), s 0 (omega arith), line-length (λ j. f (suc j)) (suc n) (omega arith) (λ j l. s (suc j) (omega arith)))

lines-length : (f : ℕ → ℕ → ℤ) (i n c : ℕ) → ((k : ℕ) → k < n → length (line_of (f (i + k)) c) ≤ 7 * c) → length (lines_of f i n c) ≤ 7 * (n * c)
unfolding lines_of
lines-length f i zero c s = omega arith
lines-length f i (suc n) c s =
    let z : i + 0 ≡ i = omega arith in
    let first : length (line_of (f i) c) ≤ 7 * c = rw z at (s 0 (omega arith)) in
    let rest = lines-length f (suc i) n c (λ k l. let e : suc i + k ≡ i + suc k = omega arith in rw e (s (suc k) (omega arith))) in
    omega (arith, length-append (line_of (f i) c) (lines_of f (suc i) n c), first, rest, suc-mul n c)

refused-length : (n : ℕ) → n ≤ 10 → length (output_of (refused n)) ≤ 28672
unfolding output_of
refused-length n h = omega (arith, length-append (decimal n) (line_feed ∷ []), few-digits 1 n (omega arith) (omega arith))

module _ (d : Drawing) (l : Legal d) where
  abbrev means : List ℤ
  means = smoothed d.frame d.levels d.window

  mean-bytes : (i j : ℕ) → i < d.frame.rows → j < d.frame.columns → length (printed (value_at d.frame.columns means i j)) ≤ 6
  mean-bytes i j hi hj =
      let e = smoothed-at d.frame d.levels d.window i j hi hj in
      let f : SFits w16 (value_at d.frame.columns means i j) = record { sfits = rw e (mean-level d.frame d.levels d.window l.levels i j hi hj) } in
      level-bytes (value_at d.frame.columns means i j) f

  output-length : length (output_of (answered d)) ≤ 28672
  unfolding output_of
  output-length =
      let c = d.frame.columns in
      let few = cells-few d.frame l.frame in
      let some_columns = (in-limits d.frame (in_frame d.frame l.frame)).some_columns in
      omega (
        arith,
        lines-length (value_at c means) 0 d.frame.rows c
            (λ k h. let e : 0 + k ≡ k = omega arith in rw e (line-length (value_at c means k) c some_columns (λ j g. mean-bytes k j h g))),
      )

outcome-length : (o : Outcome Drawing) → Small o → ((d : Drawing) → o ≡ answered d → Legal d) → length (output_of o) ≤ 28672
outcome-length (refused n) s h = refused-length n s
outcome-length (answered d) s h = output-length d (h d refl)

pub panel-length : (text : List ℕ) → length (panel text) ≤ 28672
unfolding panel
panel-length text = outcome-length (parsed text) (parsed-small text) (parsed-legal text)

-- ---- an area keeps its length, and the output lies within it
unfoldable laid : (text out : List ℕ) → Bool → Rendering
laid text out b = elim b [ true ↦ record { count = 0; area = out } | false ↦ record { count = length (panel text); area = panel text ++ drop (length (panel text)) out } ]

pub rendered-length : (text out : List ℕ) → length (rendered text out).area ≡ length out
unfolding rendered laid
rendered-length text out = go (ltb (length out) 28672) refl
  where
    go : (b : Bool) → ltb (length out) 28672 ≡ b → length (laid text out b).area ≡ length out
    go true e = refl
    go false e =
        length-append (panel text) (drop (length (panel text)) out) ∙ omega (arith, length-drop (length (panel text)) out, panel-length text, ltb-false (length out) 28672 e)

pub rendered-within : (text out new : List ℕ) (count : ℕ) → count ≡ (rendered text out).count → new ≡ (rendered text out).area → count ≤ length new
unfolding rendered laid
rendered-within text out new count e a = rw (e, a) (go (ltb (length out) 28672))
  where
    go : (b : Bool) → (laid text out b).count ≤ length (laid text out b).area
    go true = omega arith
    go false = omega (arith, length-append (panel text) (drop (length (panel text)) out))
