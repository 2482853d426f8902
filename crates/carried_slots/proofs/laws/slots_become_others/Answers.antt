use Rattle.carried_slots.proofs.Moving.{slots_become}
use Rattle.carried_slots.proofs.laws.slots_become_others.Goals as goal

pub returns : goal.returns
returns g c = slots_become
