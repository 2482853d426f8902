use Rattle.std.proofs.Common.{◌≡◌, length}
use Rattle.segment_table.specs.Owning.{BelongsTo}
use Rattle.fabric_bench.proofs.segments.chunk_rounds.Given as goal

abbrev pub invariant-loop-round : goal.invariant-loop-round
invariant-loop-round l = record {
  own : BelongsTo l.seat l.segments;
  one : length l.pieces.parcels ≡ 1;
}
