-- What the code that reads the numbers means: what is left to ask once the frame, the window, the levels are read.
-- Assumes nothing.
use Rattle.std.specs.Prelude.{◌≡◌, ◌≤◌, Bool, true, false, List, [], ◌∷◌, T, length, take, ℤ, Option, None, Some, Result, Ok, Err}
use Rattle.spec_picture.specs.Refusal.{Outcome, refused, answered}
use Rattle.spec_picture.specs.declared.Refusal.{Refusal}
use Rattle.spec_picture.specs.declared.Refusal.TheVariants as line
use Rattle.spec_picture.specs.Answers.{number}
use Rattle.spec_picture.specs.declared.Frame.{Frame}
use Rattle.spec_picture.specs.Frame.{cells}
use Rattle.spec_picture.specs.declared.Window.{Window}
use Rattle.spec_panel.specs.Panel.{Drawing, panel_frame, levels_of, windowed, filled, sized}

-- no number is first
abbrev pub no_number : List (Option ℤ) → Bool
no_number [] = true
no_number (None ∷ ns) = true
no_number (Some n ∷ ns) = false

-- the first number, and the numbers left after it, or its refusal
abbrev pub NumberIs : List (Option ℤ) → Result ℤ Refusal → List (Option ℤ) → Type 0
NumberIs ns (Ok n) left = ns ≡ Some n ∷ left
NumberIs ns (Err e) left = (e ≡ line.Text) × T (no_number ns)

-- the outcome after the frame was read
abbrev pub frame_outcome : Result Frame Refusal → List (Option ℤ) → Outcome Drawing
frame_outcome (Err e) left = refused (number e)
frame_outcome (Ok z) left = filled z left

-- a frame that was accepted is legal, and its columns clip: "*panel* never wraps"
abbrev pub FrameLegal : Result Frame Refusal → Type 0
FrameLegal (Err e) = Unit
FrameLegal (Ok z) = T (panel_frame z) × (z.columns_wrap ≡ false)

pub record FrameIs (ns : List (Option ℤ)) (r : Result Frame Refusal) (left : List (Option ℤ)) : Type 0 where
  pub same : sized ns ≡ frame_outcome r left
  pub legal : FrameLegal r

-- the outcome of a picture of frame z after its window was read
abbrev pub window_outcome : Frame → Result Window Refusal → List (Option ℤ) → Outcome Drawing
window_outcome z (Err e) left = refused (number e)
window_outcome z (Ok w) left = windowed z w (levels_of (cells z) left)

pub record WindowIs (ns : List (Option ℤ)) (r : Result Window Refusal) (left : List (Option ℤ)) : Type 0 where
  pub same : (z : Frame) → filled z ns ≡ window_outcome z r left

-- a legal frame whose columns clip, and an area that has room for its levels
pub record PictureRequires (z : Frame) (area : List ℤ) : Type 0 where
  pub legal : T (panel_frame z)
  pub clips : z.columns_wrap ≡ false
  pub room : 4096 ≤ length area

-- what a text that was accepted asks for, its levels being the first of an area
abbrev pub parse_outcome : Result (Frame × Window) Refusal → List ℤ → Outcome Drawing
parse_outcome (Err e) l = refused (number e)
parse_outcome (Ok p) l = answered (record { frame = p.0; window = p.1; levels = take (cells p.0) l })
