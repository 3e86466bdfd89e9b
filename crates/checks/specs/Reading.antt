-- What reading goes on with, once it is checked.
-- Assumes nothing.
use Rattle.std.specs.Prelude.{List, ℤ}
use Rattle.spec_picture.specs.declared.Frame.{Frame}
use Rattle.spec_picture.specs.declared.Window.{Window}
use Rattle.spec_picture.specs.declared.checked.CheckedTable.{CheckedTable}
use Rattle.spec_picture.specs.declared.checked.CheckedWindow.{CheckedWindow}
use Rattle.spec_picture.specs.Checked.{given}

-- a table with its frame, and a window
pub record Reading : Type 0 where
  pub frame : Frame
  pub numbers : List ℤ
  pub window : Window

abbrev pub reading : Frame → List ℤ → Window → Reading
reading z t w = record { frame = z; numbers = t; window = w }

abbrev pub reading_of : CheckedTable × CheckedWindow → Reading
reading_of x = reading x.0.frame x.0.numbers.now (given x.1)
