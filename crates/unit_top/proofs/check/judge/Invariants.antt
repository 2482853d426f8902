use Rattle.std.proofs.Common.{length, ◌≡◌, ◌+◌, ℕ, List, false}
use Rattle.trace_check.specs.Checking.{HasRead}
use Rattle.trace_check.specs.Verdicts.{is_decided, standing_of}
use Rattle.unit_io.specs.Status.{input_limit}
use Rattle.unit_io.specs.Told.{Takes}
use Rattle.unit_top.proofs.check.judge.Given as goal

abbrev pub invariant-loop-n : goal.invariant-loop-n
invariant-loop-n g l = record {
  bytes : List ℕ;
  has_read : HasRead l.checker bytes;
  undecided : is_decided (standing_of bytes) ≡ false;
  count : length bytes + l.left ≡ input_limit;
  room : length l.buffer.items ≡ 65536;
  faults : g.S.Source.faults l.src ≡ g.S.Source.faults l.fn.src;
  told : Takes (g.S.Source.left l.fn.src) (g.S.Source.left l.src) bytes;
}

abbrev pub decreases-loop-n : goal.decreases-loop-n
decreases-loop-n g l = l.left
