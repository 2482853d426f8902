use Rattle.std.proofs.Common.{length, ◌≡◌, ◌≤◌}
use Rattle.script_frames.specs.Frames.{broken_at, broken_at_rest, framed}
use Rattle.script_frames.proofs.frame.broken_at.Given as goal

abbrev pub invariant-loop-rest : goal.invariant-loop-rest
invariant-loop-rest l = record {
  within : length l.rest ≤ length l.input;
  same : broken_at_rest l.input (framed l.rest).rest ≡ broken_at l.input;
}

abbrev pub decreases-loop-rest : goal.decreases-loop-rest
decreases-loop-rest l = length l.rest
