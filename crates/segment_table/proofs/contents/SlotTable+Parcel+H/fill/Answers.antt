use Rattle.std.proofs.Common.{◌*◌, ◌<◌, ◌∙◌, refl, ap, arith, length}
use Rattle.unit_model.specs.Runs.{chunks_for}
use Rattle.segment_table.specs.Owning.{first_of}
use Rattle.segment_table.proofs.SeatFacts.{holds_empty}
use Rattle.segment_table.proofs.Filling.{filling_starts, filling_goes, next_is_empty}
use Rattle.segment_table.proofs.contents.SlotTable+Parcel+H.fill.Goals as goal

pub put-requires-clause-empty : goal.put-requires-clause-empty
put-requires-clause-empty g c =
    next_is_empty (first_of c.args.run) c.loop-parcel.chunk c.args.pieces.now.parcels c.loop-parcel.pieces.parcels c.pop.new.self.parcels c.in-Some.parcel c.args.seat.now.seat.me.1 c.loop-parcel.seat.seat.me.1 c.in-Some.ensures.0 c.loop-parcel.invariant.filling

pub overflow_add-chunk : goal.overflow_add-chunk
overflow_add-chunk g c =
    let me = c.loop-parcel.seat.seat.me in
    let sound = c.loop-parcel.seat.sound in
    let empty = next_is_empty (first_of c.args.run) c.loop-parcel.chunk c.args.pieces.now.parcels c.loop-parcel.pieces.parcels c.pop.new.self.parcels c.in-Some.parcel c.args.seat.now.seat.me.1 me.1 c.in-Some.ensures.0 c.loop-parcel.invariant.filling in
    let lt : c.loop-parcel.chunk < 640 * me.0.segments = sound.within c.loop-parcel.chunk (holds_empty me sound c.loop-parcel.chunk empty) in
    omega (arith, lt, c.loop-parcel.invariant.own.1, c.args.self.now.sized.3)

pub loop-parcel-init : goal.loop-parcel-init
loop-parcel-init g c = record {
  own = c.requires.own;
  view = refl;
  filling = filling_starts (first_of c.args.run) (chunks_for c.args.run.size) c.args.pieces.now.parcels c.args.seat.now.seat.me.1 c.requires.many c.requires.empty;
  spare = refl;
}

pub loop-parcel-preserved : goal.loop-parcel-preserved
loop-parcel-preserved g c =
    let now = c.loop-parcel.invariant in
    record {
      own = c.put.ensures.own;
      view = c.put.ensures.view ∙ now.view;
      filling = filling_goes (first_of c.args.run) c.loop-parcel.chunk c.args.pieces.now.parcels c.loop-parcel.pieces.parcels c.pop.new.self.parcels c.in-Some.parcel c.args.seat.now.seat.me.1 c.loop-parcel.seat.seat.me.1 c.put.new.seat.seat.me.1
          c.in-Some.ensures.0 c.put.ensures.here c.put.ensures.others now.filling;
      spare = omega (arith, c.in-Some.ensures.1, ap length c.in-Some.ensures.0, now.spare);
    }
