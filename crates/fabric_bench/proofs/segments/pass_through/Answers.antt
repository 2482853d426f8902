use Rattle.unit_model.specs.Runs.{chunks_for}
use Rattle.segment_table.specs.Owning.{first_of}
use Rattle.segment_table.proofs.Filling.{filled_is_full}
use Rattle.std.proofs.Common.{◌∙◌, sym}
use Rattle.fabric_bench.proofs.segments.pass_through.Goals as goal

pub read-requires-clause-full : goal.read-requires-clause-full
read-requires-clause-full c = filled_is_full (first_of c.args.run) (chunks_for c.args.run.size) c.args.pieces.now.parcels c.fill.new.seat.seat.me.1 (c.requires.one.1 ∙ sym c.requires.one.0) c.fill.ensures.filled
