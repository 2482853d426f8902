use Rattle.std.proofs.Common.{◌∙◌, sym}
use Rattle.carried_slots.proofs.Contents.{same_values}
use Rattle.unit_model.specs.Runs.{chunks_for}
use Rattle.segment_table.specs.Owning.{first_of}
use Rattle.segment_table.proofs.Filling.{filled_is_full}
use Rattle.segment_table.proofs.tests.fill_and_read.Goals as goal

pub read-requires-clause-full : goal.read-requires-clause-full
read-requires-clause-full c = filled_is_full (first_of c.args.run) (chunks_for c.args.run.size) c.args.pieces.now.parcels c.fill.new.seat.seat.me.1 c.requires.many c.fill.ensures.filled

pub returns-clause-same : goal.returns-clause-same
returns-clause-same c = same_values (first_of c.args.run) c.read.new.into.parcels c.args.pieces.now.parcels c.fill.new.seat.seat.me.1 c.read.ensures.read c.fill.ensures.filled (c.read.ensures.count ∙ sym c.requires.many)
