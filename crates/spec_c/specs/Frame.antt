-- The frame of a picture as a call of the C interface gives it.
-- Assumes nothing.
use Rattle.std.specs.Prelude.{ℕ, not, eqb}
use Rattle.spec_picture.specs.declared.Frame.{Frame}

-- "A switch per call makes columns wrap": 0 clips, and any other number wraps
abbrev pub frame_from : (rows columns columns_wrap : ℕ) → Frame
frame_from r c w = record { rows = r; columns = c; columns_wrap = not (eqb w 0) }
