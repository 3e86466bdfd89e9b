-- What the code that reads the levels means.
-- Assumes nothing.
use Rattle.std.specs.Prelude.{List, ℤ, Option, None, Some}

-- the levels that an area holds, where they were read
abbrev pub levels_if_read : Option Unit → List ℤ → Option (List ℤ)
levels_if_read (Some u) l = Some l
levels_if_read None l = None
