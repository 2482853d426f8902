use Rattle.std.proofs.Common.{◌≡◌, ◌+◌, ◌-◌, ◌≤◌, length, drop}
use Rattle.http_front.specs.Head.{lines_in}
use Rattle.http_front.proofs.lines.count_feeds.Given as goal

-- the lines so far, and those that are left
abbrev pub invariant-loop-len : goal.invariant-loop-len
invariant-loop-len l = record {
  fits : l.at ≤ length l.bytes;
  few : l.lines ≤ l.at;
  passed : length (lines_in l.bytes) ≡ l.lines + length (lines_in (drop l.at l.bytes));
}

abbrev pub decreases-loop-len : goal.decreases-loop-len
decreases-loop-len l = length l.bytes - l.at
