use Rattle.std.proofs.Common.{◌-◌, ◌≤◌}
use Rattle.chunk_map.specs.Search.{NoneSet}
use Rattle.chunk_map.proofs.run_bits.first_from.Given as goal

abbrev pub invariant-loop-at : goal.invariant-loop-at
invariant-loop-at l = (l.from ≤ l.at) × NoneSet l.words l.from l.at

abbrev pub decreases-loop-at : goal.decreases-loop-at
decreases-loop-at l = 640 - l.at
