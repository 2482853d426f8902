use Rattle.chunk_map.specs.Seats.{BelongsTo}
use Rattle.chunk_map.proofs.tests.claim_some.Given as goal

abbrev pub invariant-loop : goal.invariant-loop
invariant-loop l = BelongsTo l.seat l.map
