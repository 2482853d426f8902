use Rattle.std.proofs.Common.{◌≡◌, ◌-◌, ◌≤◌, length, drop}
use Rattle.http_front.specs.Message.{lists_close}
use Rattle.http_front.proofs.closing.lists_close.Given as goal

-- no element that is passed is `close`
abbrev pub invariant-loop-len : goal.invariant-loop-len
invariant-loop-len l = record {
  fits : l.start ≤ length l.value;
  passed : lists_close l.value ≡ lists_close (drop l.start l.value);
}

abbrev pub decreases-loop-len : goal.decreases-loop-len
decreases-loop-len l = length l.value - l.start
