use Rattle.carried_slots.proofs.EmptySlots.{slot_known}
use Rattle.carried_slots.proofs.laws.a_slot_is_known.Goals as goal

pub returns : goal.returns
returns g c slots k once = slot_known k slots once
