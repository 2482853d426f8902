use Rattle.std.proofs.Common.{ℕ, ◌≡◌, ◌<◌, ◌∙◌, refl, subst, arith}
use Rattle.carried_slots.specs.RunSlots.{HasEmpty}
use Rattle.unit_model.specs.Runs.{chunks_for}
use Rattle.segment_table.specs.Owning.{first_of}
use Rattle.segment_table.proofs.Filling.{reading_starts, reading_goes}
use Rattle.segment_table.proofs.contents.SlotTable+Parcel+H.read.Goals as goal

pub take_out-requires-clause-full : goal.take_out-requires-clause-full
take_out-requires-clause-full g c =
    let i : ℕ = c.loop-i.i in
    let there = c.requires.full i (omega (arith, c.loop-i-test.true, c.chunk_count-count.ensures)) in
    (there.0, c.loop-i.invariant.reading.left i (omega arith) ∙ there.1)

pub push-requires : goal.push-requires
push-requires g c = omega (arith, c.loop-i.invariant.spare, c.requires.room.1, c.loop-i-test.true, c.chunk_count-count.ensures)

pub loop-i-init : goal.loop-i-init
loop-i-init g c = record {
  own = c.requires.own;
  view = refl;
  reading = reading_starts (first_of c.args.run) (chunks_for c.args.run.size) c.args.seat.now.seat.me.1 c.args.into.now.parcels c.requires.room.0;
  spare = omega arith;
}

pub loop-i-preserved : goal.loop-i-preserved
loop-i-preserved g c =
    let now = c.loop-i.invariant in
    let i : ℕ = c.loop-i.i in
    let lt : i < chunks_for c.args.run.size = omega (arith, c.loop-i-test.true, c.chunk_count-count.ensures) in
    record {
      own = c.take_out.ensures.own;
      view = c.take_out.ensures.view ∙ now.view;
      reading = reading_goes (first_of c.args.run) (chunks_for c.args.run.size) i c.loop-i.into.parcels c.push.new.self.parcels c.take_out.result c.args.seat.now.seat.me.1 c.loop-i.seat.seat.me.1 c.take_out.new.seat.seat.me.1
          lt c.push.ensures.parcels c.take_out.ensures.was c.take_out.ensures.here c.take_out.ensures.others now.reading;
      spare = omega (arith, c.push.ensures.spare, now.spare);
    }

pub returns-clause-count : goal.returns-clause-count
returns-clause-count g c = omega (arith, c.loop-i.invariant.reading.long, c.loop-i-test.false, c.loop-i.auto.i-end, c.chunk_count-count.ensures)

pub returns-clause-read : goal.returns-clause-read
returns-clause-read g c = c.loop-i.invariant.reading.read

pub returns-clause-emptied : goal.returns-clause-emptied
returns-clause-emptied g c =
    let stop : c.loop-i.i ≡ chunks_for c.args.run.size = omega (arith, c.loop-i-test.false, c.loop-i.auto.i-end, c.chunk_count-count.ensures) in
    subst (λ (n : ℕ). HasEmpty (first_of c.args.run) n c.loop-i.seat.seat.me.1) stop c.loop-i.invariant.reading.emptied

pub returns-clause-elsewhere : goal.returns-clause-elsewhere
returns-clause-elsewhere g c = c.loop-i.invariant.reading.elsewhere

pub returns-clause-spare : goal.returns-clause-spare
returns-clause-spare g c = omega (arith, c.loop-i.invariant.spare, c.loop-i-test.false, c.loop-i.auto.i-end, c.chunk_count-count.ensures)
