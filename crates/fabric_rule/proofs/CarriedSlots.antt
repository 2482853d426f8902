-- The slots that a seat carries are those of its chunks: each is carried once, and none is of a
-- free chunk or of a message.
use Rattle.std.proofs.Common.{ℕ, ◌*◌, ◌≡◌, ◌≢◌, ◌≤◌, ◌<◌, inl, inr, List, refl, sym, ap, ◌∙◌, arith}
use Rattle.std.specs.Prelude.{Option}
use Rattle.std.proofs.lemmas.Bool.{cases_lt}
use mathlib.Core.Option.{some}
use lib.ListN.{get_elem?}
use Rattle.atomic_table.specs.Table.{homes_after}
use Rattle.carried_slots.specs.Acts.{becomes}
use Rattle.carried_slots.specs.Carried.{IsDistinct, numbers}
use Rattle.carried_slots.specs.FreeSlots.{FreeUncarried}
use Rattle.carried_slots.specs.SlotLaws.{Becomes}
use Rattle.request_context.specs.declared.piece.Parcel.{Parcel}
use Rattle.unit_model.specs.Core.{item_of, owner_of}
use Rattle.unit_model.specs.Limits.{segment_chunks}
use Rattle.unit_model.specs.Soundness.{IsSound}
use Rattle.unit_model.specs.Weights.{is_number, times}
use Rattle.unit_model.specs.declared.machine.Core.{Core}
use Rattle.unit_model.specs.declared.machine.Item.{Item}
use Rattle.unit_model.specs.declared.machine.Owner.TheVariants.{Seat, Message}
use Rattle.unit_model.proofs.Views.{sum_at}
use Rattle.unit_types.specs.declared.message.Reply.{Reply}
use Rattle.unit_types.specs.declared.message.Request.{Request}
use Rattle.fabric_words.specs.Places.{map_of, segments_of}
use Rattle.fabric_words.specs.Shown.{Shows, is_owned_by_none}
use Rattle.fabric_words.specs.declared.place.Place.{Place}
use Rattle.fabric_rule.specs.Contents.{ArmedFilled, CarriesSlots}
use Rattle.fabric_rule.specs.Hands.{IsChunkInHand}
use Rattle.fabric_rule.specs.Parts.{ChunksHeld}
use Rattle.fabric_rule.specs.declared.view.FabricView.{FabricView}
use Rattle.fabric_rule.proofs.Contents.{filled_stay}
use Rattle.fabric_rule.proofs.Hands.{chunk_in_hand}

module _ {T : Type 0} (core : Core) (views : List FabricView) (id : ℕ) (v : FabricView) (at : get_elem? views id ≡ some v) (held : ChunksHeld core views) (carried : List (ℕ × Option T)) (carries : CarriesSlots (v, carried)) where
  pub mine_of : (chunk : ℕ) → 0 < times chunk (numbers carried) → IsChunkInHand core views v chunk
  mine_of chunk some_there = chunk_in_hand core views id v at held chunk (omega (arith, some_there, carries (is_number chunk)))

  pub carried_once : IsDistinct carried
  carried_once chunk =
      elim (cases_lt 0 (times chunk (numbers carried))) [
        | inl some_there ↦ omega (arith, carries (is_number chunk), (mine_of chunk some_there).once, sum_at (λ (y : FabricView). times chunk y.chunks) views id v at)
        | inr none ↦ omega (arith, none)
      ]

  -- a chunk that has another owner isn't carried
  pub not_carried : (chunk : ℕ) → (owner_of core chunk ≡ Seat v.seat → ⊥) → times chunk (numbers carried) ≡ 0
  not_carried chunk other =
      elim (cases_lt 0 (times chunk (numbers carried))) [
        | inl some_there ↦ absurd (other (mine_of chunk some_there).owner)
        | inr none ↦ omega (arith, none)
      ]

  pub free_uncarried : (word : Place → ℕ) → Shows word core → FreeUncarried (segment_chunks * segments_of core.shape) (map_of word) carried
  free_uncarried word shows chunk lt free = not_carried chunk (λ is. absurd (cc (ap is_owned_by_none is, sym (shows.chunks chunk lt) ∙ free)))

-- Messages stay where they are, where what is carried becomes some of it.
pub filled_become : {H : Type 0} (reply_of : List ℕ → Request → Reply) (records : ℕ → List ℕ) (core core' : Core) (views : List FabricView) (id : ℕ) (v : FabricView) → get_elem? views id ≡ some v → ChunksHeld core views → IsSound core
    → core'.shape ≡ core.shape → ((q i : ℕ) → item_of core' q i ≡ item_of core q i)
    → (homes : List (mathlib.Core.Option.Option (Option (Parcel H)))) (carried t : List (ℕ × Option (Parcel H))) → CarriesSlots (v, carried) → ((k : ℕ) → times k (numbers t) ≤ times k (numbers carried)) → Becomes homes carried t
    → ArmedFilled reply_of records core homes → ArmedFilled reply_of records core' (homes_after homes carried (becomes carried t))
filled_become {H} reply_of records core core' views id v at held sound shape items homes carried t carries fewer turned filled =
    filled_stay H reply_of records records core core' homes (homes_after homes carried (becomes carried t)) shape
    (λ q i has armed.
    let is = items q i in
    let was_armed : (item_of core q i).tag ≢ 0 = λ none. armed (ap (λ (y : Item). y.tag) is ∙ none) in (
      ap (λ (y : Item). y.tag) is,
      ap (λ (y : Item). y.run) is,
      ap (λ (y : Item). y.part) is,
      refl,
      λ chunk within.
          let message : owner_of core chunk ≡ Message q i = sound.held.owners.runs chunk q i was_armed within in
          let none : times chunk (numbers carried) ≡ 0 = not_carried core views id v at held carried carries chunk (λ seat. let both : Message q i ≡ Seat v.seat = sym message ∙ seat in absurd (cc both)) in
          turned.others chunk (omega (arith, fewer chunk, none)) none,
    ))
    filled
