use Rattle.std.proofs.Common.{length, ◌-◌, ◌≡◌, ◌≤◌, take}
use Rattle.unit_io.specs.Told.{Adds}
use Rattle.unit_io.proofs.output.write_all.Given as goal

abbrev pub invariant-loop-at : goal.invariant-loop-at
invariant-loop-at g l = record {
  within : l.at ≤ length l.bytes;
  faults : g.K.Sink.faults l.out ≡ g.K.Sink.faults l.fn.out;
  told : Adds (g.K.Sink.written l.fn.out) (g.K.Sink.written l.out) (take l.at l.bytes);
}

abbrev pub decreases-loop-at : goal.decreases-loop-at
decreases-loop-at g l = length l.bytes - l.at
