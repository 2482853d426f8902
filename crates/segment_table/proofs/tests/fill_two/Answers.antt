use Rattle.unit_model.specs.Runs.{chunks_for}
use Rattle.segment_table.specs.Owning.{first_of}
use Rattle.segment_table.proofs.Filling.{filled_is_full}
use Rattle.segment_table.proofs.RunSlots.{apart_either, stays_empty}
use Rattle.segment_table.proofs.tests.fill_two.Goals as goal

pub fill_beside-requires-clause-full : goal.fill_beside-requires-clause-full
fill_beside-requires-clause-full c = filled_is_full (first_of c.args.first) (chunks_for c.args.first.size) c.args.pieces.now.parcels c.fill.new.seat.seat.me.1 c.requires.many c.fill.ensures.filled

pub fill_beside-requires-clause-empty : goal.fill_beside-requires-clause-empty
fill_beside-requires-clause-empty c =
    let apart = apart_either (first_of c.args.first) (chunks_for c.args.first.size) (first_of c.args.second) (chunks_for c.args.second.size) c.requires.apart in
    stays_empty (first_of c.args.second) (chunks_for c.args.second.size) (first_of c.args.first) (chunks_for c.args.first.size) c.args.seat.now.seat.me.1 c.fill.new.seat.seat.me.1 apart c.fill.ensures.elsewhere c.requires.empty.1
