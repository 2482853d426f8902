use Rattle.carried_slots.proofs.Contents.{same_values}
use Rattle.segment_table.proofs.laws.what_was_filled_is_read.Goals as goal

pub returns : goal.returns
returns g c first filled read slots one two long = same_values first filled read slots one two long
