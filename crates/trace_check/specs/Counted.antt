-- The counts of a check in pieces stay below the number of its bytes.
use Rattle.std.specs.Prelude.{ℕ, ◌+◌, ◌≤◌, length}
use Rattle.trace_check.specs.declared.reading.Reading.{Reading}

pub record IsCounted (reading : Reading) (bytes : ℕ) : Type 0 where
  pub steps : reading.steps ≤ reading.lines
  pub lines : reading.lines ≤ reading.place
  pub place : reading.place + length reading.text.items ≤ bytes

-- at most one more step, line and byte
abbrev pub CountsOn : Reading → Reading → Type 0
CountsOn old new = (bytes : ℕ) → IsCounted old bytes → IsCounted new (bytes + 1)
