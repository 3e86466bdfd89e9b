-- What showing a picture requires of its caller.
-- Assumes nothing.
use Rattle.std.specs.Prelude.{ℕ, ◌≤◌, List, T, length, ℤ}
use Rattle.spec_picture.specs.declared.Frame.{Frame}
use Rattle.spec_picture.specs.declared.Window.{Window}
use Rattle.spec_picture.specs.Window.{window_legal}
use Rattle.panel_text.specs.Read.{PictureRequires}

-- a picture and a window that are legal, an area that begins with its levels, and an output area for all lines
pub record ShowRequires (z : Frame) (w : Window) (levels : List ℤ) (area : List ℕ) : Type 0 where
  pub picture : PictureRequires z levels
  pub window : T (window_legal w)
  pub room : 28672 ≤ length area
