use Rattle.carried_slots.proofs.Lookups.{none_content, but_weighs, but_other, but_gone, among_but, among_itself}
use Rattle.carried_slots.specs.Carried.{but}
use Rattle.carried_slots.proofs.laws.a_slot_is_without.Goals as goal

pub returns : goal.returns
returns g c slots k carried = record {
  weighs = λ f. but_weighs f slots k carried;
  others = λ j ne. but_other slots k j ne;
  gone = λ once. none_content (but k slots) k (but_gone slots k once carried);
  among = λ once. among_but slots slots k (among_itself slots once);
}
