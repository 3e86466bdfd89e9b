-- The inputs that checks have passed, as the records of `Picture`.
-- Assumes nothing.
use Rattle.spec_picture.specs.declared.checked.CheckedWindow.{CheckedWindow}
use Rattle.spec_picture.specs.declared.checked.CheckedPictures.{CheckedPictures}
use Rattle.spec_picture.specs.declared.checked.CheckedSource.{CheckedSource}
use Rattle.spec_picture.specs.declared.checked.CheckedInputs.{CheckedInputs}
use Rattle.std.specs.Prelude.{List, ℤ}
use Rattle.spec_picture.specs.declared.Frame.{Frame}
use Rattle.spec_picture.specs.declared.Window.{Window}
use Rattle.spec_picture.specs.Window.{window}
use Rattle.spec_picture.specs.Picture.{Source, Inputs, source, no_shift}
use Rattle.spec_picture.specs.Shape.{shape_number}
use Rattle.spec_picture.specs.Plane.{plane_number}

abbrev pub given : CheckedWindow → Window
given w = window (shape_number w.shape) w.first w.second

-- two pictures, with no shift and plane 0 for want of others
abbrev pub pictures : Frame → List ℤ → List ℤ → Source
pictures z f g = source z f g no_shift 0

abbrev pub checked_pictures : CheckedPictures → Source
checked_pictures x = pictures x.frame x.f.now x.g.now

abbrev pub checked_source : CheckedSource → Source
checked_source x = source x.frame x.f.now x.g.now x.shift (plane_number x.plane)

abbrev pub checked_inputs : CheckedInputs → Inputs
checked_inputs x = record { source = checked_source x.source; window = given x.window }
