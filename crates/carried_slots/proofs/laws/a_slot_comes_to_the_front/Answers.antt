use Rattle.carried_slots.proofs.Lookups.{front_weighs, front_same, front_is, front_among}
use Rattle.carried_slots.proofs.laws.a_slot_comes_to_the_front.Goals as goal

pub returns : goal.returns
returns g c slots k = record {
  weighs = λ f. front_weighs f slots k;
  same = λ j. front_same slots k j;
  first = λ y is. front_is slots k y is;
  among = λ once. front_among slots k once;
}
