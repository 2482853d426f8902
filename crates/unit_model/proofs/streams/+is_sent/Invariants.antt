use Rattle.std.proofs.Common.{length}
use Rattle.unit_model.proofs.streams.+is_sent.Given as goal

abbrev pub decreases-is_sent : goal.decreases-is_sent
decreases-is_sent l = length l.seats.now
