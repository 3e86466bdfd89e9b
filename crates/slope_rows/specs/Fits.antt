-- Shapes that are no rectangles, with their height and width.
-- Assumes nothing.
use Rattle.std.specs.Prelude.{◌≡◌, ℕ, ◌≤◌, false, not, T}
use Rattle.spec_picture.specs.declared.Frame.{Frame}
use Rattle.spec_picture.specs.Window.{Shape, is_rectangle, height, width}

-- a slanted shape of a legal window, of height h and width w
pub record Fits (s : Shape) (h w : ℕ) : Type 0 where
  pub slanted : is_rectangle s ≡ false
  pub high : h ≡ height s
  pub wide : w ≡ width s
  pub low : h ≤ w
  pub narrow : w ≤ 127

-- slopes of a window of width w are kept of so many columns beside the picture's
pub record KeptBeside (z : Frame) (w beside : ℕ) : Type 0 where
  pub few : beside ≤ w
  pub clipped : T (not z.columns_wrap) → beside ≡ w
