use Rattle.std.proofs.Common.{◌≡◌, ◌++◌, take}
use Rattle.path_normal.specs.Value.{value_left}
use Rattle.access_log.specs.Buffer.{written}
use Rattle.access_log.specs.Line.{line_limit, logged_bytes}
use Rattle.access_log.proofs.values.append_rest.Given as goal

abbrev pub invariant-loop-byte : goal.invariant-loop-byte
invariant-loop-byte l =
    take line_limit (written l.buffer ++ logged_bytes (value_left l.byte-iterator))
    ≡ take line_limit (written l.fn.buffer ++ logged_bytes (value_left l.fn.rest))
