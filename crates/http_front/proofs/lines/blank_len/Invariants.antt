use Rattle.std.proofs.Common.{◌≡◌, ◌+◌, ◌-◌, ◌≤◌, length, drop}
use Rattle.http_front.specs.Front as spec
use Rattle.http_front.proofs.lines.blank_len.Given as goal

-- what is passed is empty lines
abbrev pub invariant-loop-at : goal.invariant-loop-at
invariant-loop-at l = record {
  fits : l.at ≤ length l.bytes;
  passed : spec.blank_len l.bytes ≡ l.at + spec.blank_len (drop l.at l.bytes);
}

abbrev pub decreases-loop-at : goal.decreases-loop-at
decreases-loop-at l = length l.bytes - l.at
