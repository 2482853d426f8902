use Rattle.unit_model.proofs.Rooms.{at_rest}
use Rattle.unit_model.proofs.laws.lists_are_whole_at_rest.Goals as goal

pub returns : goal.returns
returns c = at_rest
