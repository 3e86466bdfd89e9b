-- What smoothing asks.
-- Assumes nothing.
use Rattle.std.specs.Prelude.{◌≡◌, List, length, ℤ}
use Rattle.spec_picture.specs.Frame.{cells}
use Rattle.spec_picture.specs.Picture.{Inputs}
use Rattle.spec_smoothing.specs.Smoothing.{alone}

-- a picture alone, and an output area with a place for each cell
pub record SmoothRequires (x : Inputs) (out : List ℤ) : Type 0 where
  pub alone : x ≡ alone x.source.frame x.source.f x.window
  pub full : length out ≡ cells x.source.frame
