use Rattle.unit_model.specs.Runs.{chunks_for}
use Rattle.segment_table.specs.Owning.{first_of}
use Rattle.segment_table.proofs.RunSlots.{apart_either, stays_full}
use Rattle.segment_table.proofs.tests.read_first.Goals as goal

pub returns-clause-full : goal.returns-clause-full
returns-clause-full c =
    let apart = apart_either (first_of c.args.first) (chunks_for c.args.first.size) (first_of c.args.second) (chunks_for c.args.second.size) c.requires.apart in
    stays_full (first_of c.args.second) (chunks_for c.args.second.size) (first_of c.args.first) (chunks_for c.args.first.size) c.args.seat.now.seat.me.1 c.read.new.seat.seat.me.1 apart c.read.ensures.elsewhere c.requires.full.1
