use Rattle.std.proofs.Common.{◌≡◌, ◌++◌, drop, take}
use Rattle.access_log.specs.Buffer.{written}
use Rattle.access_log.specs.Line.{line_limit, logged_bytes}
use Rattle.access_log.proofs.values.append_bytes.Given as goal

abbrev pub invariant-loop-byte : goal.invariant-loop-byte
invariant-loop-byte l =
    take line_limit (written l.buffer ++ logged_bytes (drop l.byte-index l.text))
    ≡ take line_limit (written l.fn.buffer ++ logged_bytes l.text)
