-- The load that brings a slot to the front, and the exchange of what the slot in front has.
use Rattle.std.proofs.Common.{ℕ, ◌*◌, ◌≡◌, List, ◌∷◌, length, set, slice_index, refl, sym, ap, ◌∙◌, subst}
use Rattle.std.specs.Prelude.{Option}
use Rattle.std.proofs.lemmas.List.{set-get_or}
use mathlib.Core.Option.{some}
use lib.ListN.{get_elem?}
use Rattle.atomic_table.specs.Table.{Act, Me, State, Valid, carried_after, keeps, rest, stepped}
use Rattle.atomic_table.proofs.Lists.{set_again, set_else, set_here}
use Rattle.app_queue.proofs.ArmFrames.{is_there}
use Rattle.carried_slots.specs.Acts.{becomes}
use Rattle.carried_slots.specs.Carried.{IsDistinct, front, numbers}
use Rattle.request_context.specs.declared.piece.Parcel.{Parcel}
use Rattle.unit_model.specs.Limits.{segment_chunks}
use Rattle.unit_model.specs.Weights.{weigh}
use Rattle.unit_model.specs.declared.shape.Shape.{Shape}
use Rattle.unit_types.specs.declared.message.Reply.{Reply}
use Rattle.unit_types.specs.declared.message.Request.{Request}
use Rattle.fabric_words.specs.Places.{segments_of}
use Rattle.fabric_rule.specs.Contents.{CarriesSlots}
use Rattle.fabric_rule.specs.Reordering.{Brings, SlotToFront}
use Rattle.fabric_rule.specs.Rule.{FabricHolds}
use Rattle.fabric_rule.specs.declared.view.FabricView.{FabricView}
use Rattle.fabric_rule.proofs.BringSteps.{bring}
use Rattle.fabric_rule.proofs.CarriedSlots.{carried_once}

pub brings : {H : Type 0} (reply_of : List ℕ → Request → Reply) (shape : Shape) (id : ℕ) (v : FabricView) (carried : List (ℕ × Option (Parcel H))) (s : State (Option (Parcel H)) FabricView) (holds : FabricHolds reply_of shape s)
    → length s.homes ≡ segment_chunks * segments_of shape → get_elem? s.views id ≡ some v → CarriesSlots (v, carried) → (index chunk : ℕ)
    → (u : FabricView) × (a : Act (Option (Parcel H))) × Valid s.homes carried a × FabricHolds reply_of shape (stepped s index (slice_index s.words index) id carried u a)
    × (CarriesSlots (u, carried_after carried a) × Brings H reply_of shape id chunk (v, carried) (u, carried_after carried a))
brings {H} reply_of shape id v carried s holds homes_are at carries index chunk =
    let to_front : SlotToFront reply_of shape s holds id v carried index chunk = bring H reply_of shape s holds id v carried homes_are at carries index chunk in
    let a : Act (Option (Parcel H)) = becomes carried (front chunk carried) in (
      v,
      a,
      to_front.valid,
      to_front.none.after,
      (
        subst (λ (l : List (ℕ × Option (Parcel H))). CarriesSlots (v, l)) (sym to_front.turned) to_front.carries,
        record {
          view = refl;
          slots = to_front.turned;
          quiet = record {
            moment = record { before = s; holds = holds; was = at; after = stepped s index (slice_index s.words index) id carried v a; is = set_here s.views id v (is_there s.views id v at); others = λ k ne. set_else s.views id k v ne };
            none = to_front.none;
          };
        },
      ),
    )

-- a load that tells only that no slot is carried twice
pub knows_once : {H : Type 0} (reply_of : List ℕ → Request → Reply) (shape : Shape) (id : ℕ) (v : FabricView) (carried : List (ℕ × Option (Parcel H))) (s : State (Option (Parcel H)) FabricView) (holds : FabricHolds reply_of shape s)
    → get_elem? s.views id ≡ some v → CarriesSlots (v, carried) → (index : ℕ)
    → (u : FabricView) × (a : Act (Option (Parcel H))) × Valid s.homes carried a × FabricHolds reply_of shape (stepped s index (slice_index s.words index) id carried u a)
    × ((carried_after carried a ≡ carried) × (u ≡ v) × IsDistinct carried)
knows_once {H} reply_of shape id v carried s holds at carries index = (
  v,
  keeps,
  tt,
  subst (λ (vs : List FabricView). FabricHolds reply_of shape (record { words = set s.words index (slice_index s.words index); homes = s.homes; views = vs })) (sym (set_again s.views id v at))
      (subst (λ (ws : List ℕ). FabricHolds reply_of shape (record { words = ws; homes = s.homes; views = s.views })) (sym (set-get_or s.words index 0)) holds),
  (refl, refl, carried_once holds.core s.views id v at holds.views.chunks carried carries),
)

-- another content in the slot in front
pub other_content : {T : Type 0} (me me' : Me (Option T) FabricView) (chunk : ℕ) (old new : Option T) → CarriesSlots me → me.1 ≡ (chunk, old) ∷ rest me.1 → me' ≡ (me.0, (chunk, new) ∷ rest me.1) → CarriesSlots me'
other_content {T} me me' chunk old new carries front_is is f =
    ap (λ (m : Me (Option T) FabricView). weigh f (numbers m.1)) is
    ∙ sym (ap (λ (l : List (ℕ × Option T)). weigh f (numbers l)) front_is)
    ∙ carries f
    ∙ sym (ap (λ (m : Me (Option T) FabricView). weigh f m.0.chunks) is)
