use Rattle.chunk_map.specs.Seats.{BelongsTo}
use Rattle.fabric_bench.proofs.maps.fill_half.Given as goal

abbrev pub invariant-loop : goal.invariant-loop
invariant-loop l = BelongsTo l.seat l.map
