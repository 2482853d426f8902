use Rattle.std.proofs.Common.{◌≡◌, ◌+◌, ◌-◌, ◌≤◌, length, drop}
use Rattle.std.specs.Option.{option_map}
use Rattle.http_front.specs.Front.{block_in}
use Rattle.http_front.specs.Head.{lines_in}
use Rattle.http_front.proofs.lines.block_len.Given as goal

-- no line that is passed is empty
abbrev pub invariant-loop-len : goal.invariant-loop-len
invariant-loop-len l = record {
  fits : l.at ≤ length l.bytes;
  passed : block_in (lines_in l.bytes) ≡ option_map (λ n. l.at + n) (block_in (lines_in (drop l.at l.bytes)));
}

abbrev pub decreases-loop-len : goal.decreases-loop-len
decreases-loop-len l = length l.bytes - l.at
