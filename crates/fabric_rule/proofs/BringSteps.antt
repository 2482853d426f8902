-- A slot comes to the front of what a seat carries.
use Rattle.std.proofs.Common.{ℕ, ◌*◌, ◌≡◌, List, length, slice_index, set, refl, sym, ap, ◌∙◌, subst, arith}
use Rattle.std.specs.Prelude.{Option}
use Rattle.std.proofs.lemmas.List.{set-get_or}
use mathlib.Core.Option.{some}
use lib.ListN.{get_elem?}
use Rattle.atomic_table.specs.Table.{Act, State, homes_after, stepped}
use Rattle.atomic_table.proofs.Lists.{set_again}
use Rattle.carried_slots.specs.Acts.{becomes}
use Rattle.carried_slots.specs.Carried.{IsDistinct, front, numbers}
use Rattle.carried_slots.specs.FreeSlots.{FreeUncarried}
use Rattle.carried_slots.specs.SlotLaws.{Becomes}
use Rattle.carried_slots.proofs.FreeSlots.{free_become}
use Rattle.carried_slots.proofs.Lookups.{front_among, front_weighs}
use Rattle.carried_slots.proofs.Moving.{slots_become}
use Rattle.request_context.specs.declared.piece.Parcel.{Parcel}
use Rattle.unit_model.specs.Limits.{segment_chunks}
use Rattle.unit_model.specs.Weights.{is_number, weigh}
use Rattle.unit_model.specs.declared.shape.Shape.{Shape}
use Rattle.unit_types.specs.declared.message.Reply.{Reply}
use Rattle.unit_types.specs.declared.message.Request.{Request}
use Rattle.fabric_words.specs.Offsets.{word_in}
use Rattle.fabric_words.specs.Places.{map_of, segments_of}
use Rattle.fabric_rule.specs.Contents.{CarriesSlots}
use Rattle.fabric_rule.specs.Reordering.{BringLaw, SlotToFront}
use Rattle.fabric_rule.specs.Rule.{FabricHolds}
use Rattle.fabric_rule.specs.Steps.{IsNoStep}
use Rattle.fabric_rule.specs.declared.view.FabricView.{FabricView}
use Rattle.fabric_rule.proofs.CarriedSlots.{carried_once, filled_become, free_uncarried, mine_of}

module _ {H : Type 0} (reply_of : List ℕ → Request → Reply) (shape : Shape) (s : State (Option (Parcel H)) FabricView) (holds : FabricHolds reply_of shape s) (id : ℕ) (v : FabricView) (carried : List (ℕ × Option (Parcel H)))
    (homes_are : length s.homes ≡ segment_chunks * segments_of shape) (at : get_elem? s.views id ≡ some v) (carries : CarriesSlots (v, carried)) (index chunk : ℕ) where
  abbrev turned_list : List (ℕ × Option (Parcel H))
  turned_list = front chunk carried

  abbrev act : Act (Option (Parcel H))
  act = becomes carried turned_list

  once : IsDistinct carried
  once = carried_once holds.core s.views id v at holds.views.chunks carried carries

  same_weight : (f : ℕ → ℕ) → weigh f (numbers turned_list) ≡ weigh f (numbers carried)
  same_weight f = front_weighs f carried chunk

  turned : Becomes s.homes carried turned_list
  turned = slots_become s.homes carried turned_list once (λ k. omega (arith, same_weight (is_number k), once k)) (front_among carried chunk once)
      (λ k some_there. omega (arith, homes_are, ap segments_of holds.shaped, (mine_of holds.core s.views id v at holds.views.chunks carried carries k some_there).within))

  -- the rule, where homes alone are other ones
  rehomed : FabricHolds reply_of shape (record { words = s.words; homes = homes_after s.homes carried act; views = s.views })
  rehomed = record {
    wide = holds.wide;
    core = holds.core;
    popped = holds.popped;
    armed = holds.armed;
    records = holds.records;
    shaped = holds.shaped;
    keeps = holds.keeps;
    shows = holds.shows;
    notes = holds.notes;
    views = holds.views;
    free = free_become (segment_chunks * segments_of shape) (map_of (word_in shape s.words)) s.homes carried turned_list
        (subst (λ (sh : Shape). FreeUncarried (segment_chunks * segments_of sh) (map_of (word_in shape s.words)) carried) holds.shaped (free_uncarried holds.core s.views id v at holds.views.chunks carried carries (word_in shape s.words) holds.shows))
        (λ k. omega (arith, same_weight (is_number k))) turned holds.free;
    filled = filled_become reply_of holds.records holds.core holds.core s.views id v at holds.views.chunks holds.keeps.sound refl (λ q i. refl) s.homes carried turned_list carries (λ k. omega (arith, same_weight (is_number k))) turned holds.filled;
  }

  no_step : IsNoStep reply_of shape s holds (stepped s index (slice_index s.words index) id carried v act)
  unfolding rehomed
  no_step =
      subst (λ (vs : List FabricView). IsNoStep reply_of shape s holds (record { words = set s.words index (slice_index s.words index); homes = homes_after s.homes carried act; views = vs })) (sym (set_again s.views id v at))
      (subst (λ (ws : List ℕ). IsNoStep reply_of shape s holds (record { words = ws; homes = homes_after s.homes carried act; views = s.views })) (sym (set-get_or s.words index 0)) (record { after = rehomed; is = refl }))

  pub to_front : SlotToFront reply_of shape s holds id v carried index chunk
  to_front = record { valid = turned.valid; turned = turned.carried; carries = λ f. same_weight f ∙ carries f; none = no_step }

pub bring : (H : Type 0) → BringLaw H
bring H reply_of shape s holds id v carried homes_are at carries index chunk = to_front reply_of shape s holds id v carried homes_are at carries index chunk
