use Rattle.unit_model.proofs.OpenedCounts.{parts_at_first, streams_at_first}
use Rattle.unit_model.proofs.laws.the_counts_hold_at_first.Goals as goal

pub returns : goal.returns
returns c shape = (streams_at_first shape, parts_at_first shape)
