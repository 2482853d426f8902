-- The line that is being written.
use Rattle.std.specs.Prelude.{◌≡◌, ℕ, List, take, ◌++◌}
use Rattle.access_log.specs.declared.buffer.LineBuffer.{LineBuffer}
use Rattle.access_log.specs.Line.{line_limit}

-- what was written so far
abbrev pub written : LineBuffer → List ℕ
written buffer = take buffer.end buffer.bytes

-- the text was put behind what was written, as far as the line has room
abbrev pub Appends : List ℕ → LineBuffer → LineBuffer → Type 0
Appends text old new = written new ≡ take line_limit (written old ++ text)
