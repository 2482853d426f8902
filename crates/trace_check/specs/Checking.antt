-- What is said of a checker.
use Rattle.std.specs.Prelude.{◌≡◌, ℕ, Bool, false, List, length}
use Rattle.trace_check.specs.Reading.{Stands}
use Rattle.trace_check.specs.Verdicts.{standing_of}
use Rattle.trace_check.specs.declared.checker.Checker.{Checker}

-- how many bytes it was fed
abbrev pub bytes_read : Checker → ℕ
bytes_read checker = checker.read

-- it ran out of memory
abbrev pub has_failed : Checker → Bool
has_failed checker = checker.failed

-- it was fed these bytes, in whatever pieces, and stands where the check of the whole does
pub record HasRead (checker : Checker) (bytes : List ℕ) : Type 0 where
  pub whole : checker.failed ≡ false
  pub count : checker.read ≡ length bytes
  pub stands : Stands (standing_of bytes) checker.verdict checker.reading
