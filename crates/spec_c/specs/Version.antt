-- The version of the library, by semantic versioning: an answer that changes is a major version.
-- Assumes nothing.
use Rattle.std.specs.Prelude.{ℕ, ◌+◌, ◌*◌}

abbrev pub version_number : (major minor patch : ℕ) → ℕ
version_number major minor patch = major * 1000000 + minor * 1000 + patch

-- 1.0.0 is what document 01 asks for; 2.0.0 has columns that wrap, so its calls take a number more
abbrev pub version : ℕ
version = version_number 2 0 0
