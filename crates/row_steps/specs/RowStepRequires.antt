-- What the output row requires.
-- Assumes nothing.
use Rattle.std.specs.Prelude.{◌≡◌, List, length, ℤ}
use Rattle.spec_picture.specs.declared.Frame.{Frame}
use Rattle.spec_picture.specs.Frame.{Apart}
use Rattle.spec_picture.specs.Window.{Shape, width}

-- A work area, and a buffer for a row, and a window that fits the columns where they wrap. The lengths are in each contract, here and below: callers lend the slices one by one, most of them as `&mut`, and no ghost
-- field of a type can tie two of those to a frame.
pub record OutputRequires (z : Frame) (s : Shape) (work out : List ℤ) : Type 0 where
  pub room_work : length work ≡ z.columns
  pub room : length out ≡ z.columns
  pub apart : Apart z (width s)
