-- The version of the library (CHANGELOG.md).
use Rattle.std.specs.Prelude.{ℕ}

-- It goes up by one at each change of what a function of the C interface answers for some input, and at each change of what the
-- C header declares, a new function included: one number names one interface with its answers.
abbrev pub library_version : ℕ
library_version = 8
