use Rattle.segment_table.specs.Owning.{BelongsTo}
use Rattle.segment_table.proofs.tests.odd_chunks_are_held_with_contents.Given as goal

abbrev pub invariant-loop : goal.invariant-loop
invariant-loop g l = BelongsTo l.seat l.segments
