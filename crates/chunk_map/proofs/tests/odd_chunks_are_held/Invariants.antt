use Rattle.chunk_map.specs.Seats.{BelongsTo}
use Rattle.chunk_map.proofs.tests.odd_chunks_are_held.Given as goal

abbrev pub invariant-loop : goal.invariant-loop
invariant-loop g l = BelongsTo l.seat l.map
