-- A seat whose slots and chunks stay carries the slots of exactly its chunks still.
use Rattle.std.proofs.Common.{◌≡◌, ◌∙◌, sym, ap}
use Rattle.std.specs.Prelude.{Option}
use Rattle.atomic_table.specs.Table.{Me}
use Rattle.carried_slots.specs.Carried.{numbers}
use Rattle.unit_model.specs.Weights.{weigh}
use Rattle.fabric_rule.specs.Contents.{CarriesSlots}
use Rattle.fabric_rule.specs.declared.view.FabricView.{FabricView}

pub still_carries : {T : Type 0} (me me' : Me (Option T) FabricView) → me'.1 ≡ me.1 → me'.0.chunks ≡ me.0.chunks → CarriesSlots me → CarriesSlots me'
still_carries me me' slots chunks carries f = ap (λ l. weigh f (numbers l)) slots ∙ carries f ∙ sym (ap (weigh f) chunks)
