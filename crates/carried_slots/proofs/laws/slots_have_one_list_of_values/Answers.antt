use Rattle.carried_slots.proofs.Contents.{same_values}
use Rattle.carried_slots.proofs.laws.slots_have_one_list_of_values.Goals as goal

pub returns : goal.returns
returns g c = same_values
