use Rattle.unit_model.specs.Runs.{chunks_for}
use Rattle.segment_table.specs.Owning.{first_of}
use Rattle.segment_table.proofs.Filling.{filled_is_full}
use Rattle.segment_table.proofs.RunSlots.{stays_full}
use Rattle.segment_table.proofs.tests.fill_beside.Goals as goal

pub returns-clause-full : goal.returns-clause-full
returns-clause-full c = (
  stays_full (first_of c.args.first) (chunks_for c.args.first.size) (first_of c.args.second) (chunks_for c.args.second.size) c.args.seat.now.seat.me.1 c.fill.new.seat.seat.me.1 c.requires.apart c.fill.ensures.elsewhere c.requires.full,
  filled_is_full (first_of c.args.second) (chunks_for c.args.second.size) c.args.pieces.now.parcels c.fill.new.seat.seat.me.1 c.requires.many c.fill.ensures.filled,
)
