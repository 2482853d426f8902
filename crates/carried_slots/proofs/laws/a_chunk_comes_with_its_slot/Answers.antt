use Rattle.carried_slots.proofs.FreeSlots.{slot_gained}
use Rattle.carried_slots.proofs.laws.a_chunk_comes_with_its_slot.Goals as goal

pub returns : goal.returns
returns g c = slot_gained
