use Rattle.carried_slots.proofs.Lookups.{content_some, some_content}
use Rattle.carried_slots.proofs.laws.a_carried_slot_has_a_value.Goals as goal

pub returns : goal.returns
returns g c slots k = (content_some slots k, some_content slots k)
