use Rattle.carried_slots.proofs.EmptySlots.{empty_freed, full_stay, empty_is_but}
use Rattle.carried_slots.proofs.laws.an_empty_slot_goes.Goals as goal

pub returns : goal.returns
returns g c slots k = record {
  weighs = λ f some_empty. empty_freed f k slots some_empty;
  full = full_stay k slots;
  gone = λ is. empty_is_but k slots is;
}
