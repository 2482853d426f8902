use Rattle.std.proofs.Common.{◌≡◌, ◌+◌}
use Rattle.unit_model.specs.Runs.{chunks_for}
use Rattle.segment_table.specs.Owning.{BelongsTo, first_of}
use Rattle.segment_table.proofs.Filling.{Reading}
use Rattle.segment_table.proofs.contents.SlotTable+Parcel+H.read.Given as goal

abbrev pub invariant-loop-i : goal.invariant-loop-i
invariant-loop-i g l = record {
  own : BelongsTo l.seat l.self;
  view : l.seat.seat.me.0 ≡ l.fn.seat.seat.me.0;
  reading : Reading (first_of l.fn.run) (chunks_for l.fn.run.size) l.i l.into.parcels l.fn.seat.seat.me.1 l.seat.seat.me.1;
  spare : l.into.spare + l.i ≡ l.fn.into.spare;
}
