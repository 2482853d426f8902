use Rattle.chunk_map.specs.Seats.{BelongsTo}
use Rattle.fabric_bench.proofs.segments.claim_rounds.Given as goal

abbrev pub invariant-loop-round : goal.invariant-loop-round
invariant-loop-round l = BelongsTo l.seat l.map
