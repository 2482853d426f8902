use Rattle.carried_slots.proofs.Moving.{slots_taken}
use Rattle.carried_slots.proofs.laws.slots_are_taken.Goals as goal

pub returns : goal.returns
returns g c = slots_taken
