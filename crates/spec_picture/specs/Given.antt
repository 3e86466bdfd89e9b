-- The inputs that code is given, as the records of `Picture`.
-- Assumes nothing.
use Rattle.spec_picture.specs.declared.Source as given
use Rattle.spec_picture.specs.declared.Inputs as asked
use Rattle.spec_picture.specs.Picture.{Source, Inputs, source}

abbrev pub source_of : given.Source → Source
source_of x = source x.frame x.f.now x.g.now x.shift x.plane

abbrev pub inputs_of : asked.Inputs → Inputs
inputs_of x = record { source = source_of x.source; window = x.window }
