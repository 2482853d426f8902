use Rattle.std.proofs.Common.{◌≡◌, ◌+◌, length}
use Rattle.segment_table.specs.Owning.{BelongsTo, first_of}
use Rattle.segment_table.proofs.Filling.{Filling}
use Rattle.segment_table.proofs.contents.SlotTable+Parcel+H.fill.Given as goal

abbrev pub invariant-loop-parcel : goal.invariant-loop-parcel
invariant-loop-parcel g l = record {
  own : BelongsTo l.seat l.self;
  view : l.seat.seat.me.0 ≡ l.fn.seat.seat.me.0;
  filling : Filling (first_of l.fn.run) l.chunk l.fn.pieces.parcels l.pieces.parcels l.fn.seat.seat.me.1 l.seat.seat.me.1;
  spare : l.pieces.spare + length l.pieces.parcels ≡ l.fn.pieces.spare + length l.fn.pieces.parcels;
}

abbrev pub decreases-loop-parcel : goal.decreases-loop-parcel
decreases-loop-parcel g l = length l.pieces.parcels
