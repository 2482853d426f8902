-- The store of a back item's tag by the worker that got the item.
use Rattle.std.proofs.Common.{ℕ, ◌*◌, ◌≡◌, List, [], ◌∷◌, length, sym, ap, subst}
use Rattle.std.specs.Prelude.{Option}
use mathlib.Core.Option.{some}
use lib.ListN.{get_elem?}
use Rattle.atomic_table.specs.Table.{State, Act, stepped, Valid, carried_after}
use Rattle.atomic_table.proofs.Lists.{set_else, set_here}
use Rattle.app_queue.proofs.ArmFrames.{is_there}
use Rattle.carried_slots.specs.Acts.{becomes}
use Rattle.carried_slots.specs.Carried.{numbers}
use Rattle.port_message.specs.Words.{numbers_of}
use Rattle.request_context.specs.declared.piece.Parcel.{Parcel}
use Rattle.unit_model.specs.Holding.{FitsQueue}
use Rattle.unit_model.specs.Limits.{segment_chunks}
use Rattle.unit_model.specs.Shapes.{role_in}
use Rattle.unit_model.specs.Sharing.{Holds}
use Rattle.unit_model.specs.declared.shape.Shape.{Shape}
use Rattle.unit_types.specs.declared.message.Reply.{Reply}
use Rattle.unit_types.specs.declared.message.Request.{Request}
use Rattle.fabric_words.specs.Offsets.{offset_of}
use Rattle.fabric_words.specs.Places.{HasItem, segments_of}
use Rattle.fabric_words.specs.declared.place.Place.TheVariants.{Tag}
use Rattle.fabric_rule.specs.Contents.{CarriesSlots}
use Rattle.fabric_rule.specs.Opening.{ledger_of}
use Rattle.fabric_rule.specs.Rule.{FabricHolds}
use Rattle.fabric_rule.specs.Sending.{CarriesPart, PartGoes, Sends, queue_to, with_sent, word_of_part, work_before}
use Rattle.fabric_rule.specs.Steps.{HasLists, slots_left}
use Rattle.fabric_rule.specs.declared.sending.PartOut.{PartOut}
use Rattle.fabric_rule.specs.Views.{got_at, held_at, part_said, run_said}
use Rattle.fabric_rule.specs.declared.view.FabricView.{FabricView}
use Rattle.fabric_rule.proofs.SendSteps.{send}

module _ {H : Type 0} (reply_of : List ℕ → Request → Reply) (shape : Shape) (id : ℕ) (v : FabricView) (carried : List (ℕ × Option (Parcel H))) (s : State (Option (Parcel H)) FabricView) (holds : FabricHolds reply_of shape s)
    (homes_are : length s.homes ≡ segment_chunks * segments_of shape) (at : get_elem? s.views id ≡ some v) (slots : CarriesSlots (v, carried)) (part : PartOut) (main : HasLists v (ledger_of v) (work_before part ∷ [])) (worker : role_in shape v.seat ≡ 1)
    (item place run_word : ℕ) (there : HasItem shape (queue_to part) item) (mine : Holds (held_at (queue_to part)) item v) (got : got_at (queue_to part) v item place) (said : run_said (queue_to part) v item run_word) (said_part : part_said (queue_to part) v item (word_of_part part))
    (fits : FitsQueue shape (queue_to part) (numbers_of run_word)) (message : CarriesPart reply_of part (numbers_of run_word) carried) where
  abbrev pub index : ℕ
  index = offset_of shape (Tag (queue_to part) item)

  pub stores : (u : FabricView) × (a : Act (Option (Parcel H))) × Valid s.homes carried a × FabricHolds reply_of shape (stepped s index part.stream id carried u a)
      × (CarriesSlots (u, carried_after carried a) × Sends H reply_of shape id part item place run_word (v, carried) (u, carried_after carried a))
  stores =
      let goes : PartGoes reply_of shape s holds id v (ledger_of v) carried part item place run_word =
      send H reply_of shape s holds id v (ledger_of v) carried homes_are at slots part main worker item place run_word there mine got said said_part fits message in
      let left : List (ℕ × Option (Parcel H)) = slots_left (numbers_of run_word) carried in
      let a : Act (Option (Parcel H)) = becomes carried left in
      let u : FabricView = with_sent part item place run_word (numbers left) (ledger_of v) v in (
        u,
        a,
        goes.valid,
        goes.made.after,
        (
          subst (λ (l : List (ℕ × Option (Parcel H))). CarriesSlots (u, l)) (sym goes.given) goes.carries,
          record {
            moment = record { before = s; holds = holds; was = at; after = stepped s index part.stream id carried u a; is = set_here s.views id u (is_there s.views id v at); others = λ k ne. set_else s.views id k u ne };
            carried = message;
            slots = goes.given;
            sent = ap (λ (l : List (ℕ × Option (Parcel H))). with_sent part item place run_word (numbers l) (ledger_of v) v) (sym goes.given);
            made = goes.made;
          },
        ),
      )
