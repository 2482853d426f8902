use Rattle.std.proofs.Common.{◌≡◌, ◌++◌}
use Rattle.path_normal.specs.Text.{text_left}
use Rattle.path_normal.proofs.text.TextBytes.to_bytes.Given as goal

abbrev pub invariant-loop-byte : goal.invariant-loop-byte
invariant-loop-byte l = l.bytes.items ++ text_left l.byte-iterator ≡ text_left l.fn.self
