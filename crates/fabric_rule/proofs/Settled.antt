-- The exchange of a tag by a seat that settles it.
use Rattle.std.proofs.Common.{ℕ, ◌+◌, ◌≡◌, eqb, Bool, false, List, [], ◌∷◌, slice_index, set, refl, sym, subst}
use Rattle.std.specs.Prelude.{Option}
use Rattle.std.proofs.lemmas.List.{set-get_or}
use mathlib.Core.Option.{some}
use prog.Atomic.{either}
use lib.ListN.{get_elem?}
use Rattle.atomic_table.specs.Table.{Me, State, Act, keeps, stepped, Valid, carried_after}
use Rattle.atomic_table.proofs.Lists.{exchanged, set_else, set_here}
use Rattle.app_queue.proofs.ArmFrames.{is_there}
use Rattle.carried_slots.specs.Acts.{takes_all}
use Rattle.carried_slots.specs.RunLaws.{full_run}
use Rattle.port_message.specs.Words.{numbers_of}
use Rattle.request_context.specs.declared.piece.Parcel.{Parcel}
use Rattle.unit_model.specs.Shapes.{role_in}
use Rattle.unit_model.specs.Sharing.{Holds}
use Rattle.unit_model.specs.declared.machine.Step.TheVariants.{Abandon}
use Rattle.unit_model.specs.declared.runs.Run.{Run}
use Rattle.unit_model.specs.declared.shape.Shape.{Shape}
use Rattle.unit_types.specs.declared.message.Reply.{Reply}
use Rattle.unit_types.specs.declared.message.Request.{Request}
use Rattle.fabric_words.specs.Offsets.{offset_of}
use Rattle.fabric_words.specs.Places.{HasItem}
use Rattle.fabric_words.specs.declared.place.Place.TheVariants.{Tag}
use Rattle.fabric_rule.specs.Contents.{CarriesSlots}
use Rattle.fabric_rule.specs.Opening.{ledger_of}
use Rattle.fabric_rule.specs.Parts.{has_last}
use Rattle.fabric_rule.specs.Passing.{first_of}
use Rattle.fabric_rule.specs.Rule.{FabricHolds}
use Rattle.fabric_rule.specs.Settling.{Cancels, Closes, HasPopped, HasPost, MessageComes, PartComes, PartReturns, Receives, RequestReturns, Withdraws, with_abandoned, with_cancelled, with_closed, with_received}
use Rattle.fabric_rule.specs.Steps.{HasLists, IsMachineStep}
use Rattle.fabric_rule.specs.Told.{Moment}
use Rattle.fabric_rule.specs.Views.{held_at, part_said, run_said, tag_said}
use Rattle.fabric_rule.specs.declared.view.FabricView.{FabricView}
use Rattle.fabric_rule.specs.declared.view.Work.TheVariants.{Posted, Sending}
use Rattle.fabric_rule.proofs.AbandonSteps.{abandon}
use Rattle.fabric_rule.proofs.CancelSteps.{cancel, unpushed}
use Rattle.fabric_rule.proofs.CloseSteps.{close}
use Rattle.fabric_rule.proofs.ReceiveSteps.{receive}

module _ {H : Type 0} (reply_of : List ℕ → Request → Reply) (shape : Shape) (id : ℕ) (v : FabricView) (carried : List (ℕ × Option (Parcel H))) (s : State (Option (Parcel H)) FabricView) (holds : FabricHolds reply_of shape s) (at : get_elem? s.views id ≡ some v) (slots : CarriesSlots (v, carried)) where
  abbrev pub index : ℕ → ℕ → ℕ
  index queue item = offset_of shape (Tag queue item)

  abbrev pub found : ℕ → ℕ → ℕ
  found queue item = slice_index s.words (index queue item)

  -- what has to be shown of an exchange of this item's tag where it leaves this number, and tells
  -- this of the seat
  abbrev pub After : ℕ → ℕ → (Me (Option (Parcel H)) FabricView → Type 0) → ℕ → Type 0
  After queue item tells new = (u : FabricView) × (a : Act (Option (Parcel H))) × Valid s.homes carried a × FabricHolds reply_of shape (stepped s (index queue item) new id carried u a)
      × (CarriesSlots (u, carried_after carried a) × tells (u, carried_after carried a))

  -- right before the exchange and right after it
  abbrev moment : (queue item new : ℕ) (u : FabricView) → Act (Option (Parcel H)) → Moment H reply_of shape id v u
  moment queue item new u a = record { before = s; holds = holds; was = at; after = stepped s (index queue item) new id carried u a; is = set_here s.views id u (is_there s.views id v at); others = λ k ne. set_else s.views id k u ne }

  -- the message came
  came : (queue item stream : ℕ) (run : Run) (parcels : List (Parcel H)) (u : FabricView) (tells : Me (Option (Parcel H)) FabricView → Type 0) → MessageComes reply_of shape s holds id v carried queue item stream run parcels u → tells (u, carried_after carried (takes_all (full_run (first_of run) parcels))) → After queue item tells 0
  came queue item stream run parcels u tells comes told = (
    u,
    takes_all (full_run (first_of run) parcels),
    comes.valid,
    comes.step.after,
    (subst (λ (l : List (ℕ × Option (Parcel H))). CarriesSlots (u, l)) (sym comes.taken) (comes.carries slots), told),
  )

  -- ---- an engine cancels, or abandons

  pub cancels : (item stream run_word : ℕ) → HasLists v (ledger_of v) (Posted stream item ∷ []) → HasItem shape 0 item → HasPost v item stream run_word → has_last stream (ledger_of v).lists.received ≡ false
      → After 0 item (Cancels H reply_of shape id item stream (numbers_of run_word) (v, carried) (found 0 item)) (either (eqb (found 0 item) stream) 0 (found 0 item))
  cancels item stream run_word main there post unreceived =
      let run : Run = numbers_of run_word in
      let told : Me (Option (Parcel H)) FabricView → Type 0 = Cancels H reply_of shape id item stream run (v, carried) (found 0 item) in
      exchanged (found 0 item) stream 0 (After 0 item told)
      (λ is.
      let back : RequestReturns reply_of shape s holds id v (ledger_of v) carried item stream run 0 = cancel H reply_of shape s holds id v (ledger_of v) carried at item stream run_word 0 main there post is in
      let u : FabricView = with_cancelled item stream run 0 (ledger_of v) v in
      came 0 item stream run back.parcels u told back.comes
      (record {
        moment = moment 0 item 0 u (takes_all (full_run (first_of run) back.parcels));
        was = refl;
        parcels = back.parcels;
        long = λ same. back.comes.long;
        request = λ same. back.request;
        slots = λ same. back.comes.taken;
        won = λ same. refl;
        step = λ same. back.comes.step;
        same_slots = λ ne. absurd (ne is);
        missed = λ ne. absurd (ne is);
        abandoned = λ ne. absurd (ne is);
      }))
      (λ ne.
      let u : FabricView = with_abandoned item stream (found 0 item) (ledger_of v) v in
      let words : set s.words (index 0 item) (found 0 item) ≡ s.words = set-get_or s.words (index 0 item) 0 in
      let step : IsMachineStep reply_of shape s holds (Abandon v.seat stream) (stepped s (index 0 item) (found 0 item) id carried u keeps) =
      subst (λ (ws : List ℕ). IsMachineStep reply_of shape s holds (Abandon v.seat stream) (record { words = ws; homes = s.homes; views = set s.views id u })) (sym words)
      (abandon H reply_of shape s holds id v (ledger_of v) at item stream (found 0 item) main there unreceived refl ne) in (
        u,
        keeps,
        tt,
        step.after,
        (
          slots,
          record {
            moment = moment 0 item (found 0 item) u keeps;
            was = refl;
            parcels = [];
            long = λ same. absurd (ne same);
            request = λ same. absurd (ne same);
            slots = λ same. absurd (ne same);
            won = λ same. absurd (ne same);
            step = λ same. absurd (ne same);
            same_slots = λ other. refl;
            missed = λ other. refl;
            abandoned = λ other. step;
          },
        ),
      ))

  -- ---- settles that can't lose

  pub withdraws : (item stream run_word : ℕ) → HasLists v (ledger_of v) (Posted stream item ∷ []) → HasItem shape 0 item → HasPost v item stream run_word → Holds (held_at 0) item v → tag_said 0 v item stream
      → After 0 item (Withdraws H reply_of shape id item stream (numbers_of run_word) (v, carried)) (either (eqb (found 0 item) stream) 0 (found 0 item))
  withdraws item stream run_word main there post mine said =
      let run : Run = numbers_of run_word in
      let told : Me (Option (Parcel H)) FabricView → Type 0 = Withdraws H reply_of shape id item stream run (v, carried) in
      let is : found 0 item ≡ stream = unpushed H reply_of shape s holds id v (ledger_of v) at item stream main there mine said in
      let back : RequestReturns reply_of shape s holds id v (ledger_of v) carried item stream run 1 = cancel H reply_of shape s holds id v (ledger_of v) carried at item stream run_word 1 main there post is in
      let u : FabricView = with_cancelled item stream run 1 (ledger_of v) v in
      exchanged (found 0 item) stream 0 (After 0 item told)
      (λ same. came 0 item stream run back.parcels u told back.comes
      (record {
        moment = moment 0 item 0 u (takes_all (full_run (first_of run) back.parcels));
        was = is;
        parcels = back.parcels;
        long = back.comes.long;
        request = back.request;
        slots = back.comes.taken;
        won = refl;
        step = back.comes.step;
      }))
      (λ ne. absurd (ne is))

  pub receives : (item stream run_word part_word : ℕ) → HasPopped v (ledger_of v) item → role_in shape v.seat ≡ 0 → HasItem shape (1 + v.seat) item → tag_said (1 + v.seat) v item stream → run_said (1 + v.seat) v item run_word → part_said (1 + v.seat) v item part_word
      → After (1 + v.seat) item (Receives H reply_of shape id item stream part_word (numbers_of run_word) (v, carried)) (either (eqb (found (1 + v.seat) item) stream) 0 (found (1 + v.seat) item))
  receives item stream run_word part_word main engine there said said_run said_part =
      let run : Run = numbers_of run_word in
      let told : Me (Option (Parcel H)) FabricView → Type 0 = Receives H reply_of shape id item stream part_word run (v, carried) in
      let part : PartComes reply_of shape s holds id v (ledger_of v) carried item stream part_word run = receive H reply_of shape s holds id v (ledger_of v) carried at item stream run_word part_word main engine there said said_run said_part in
      let u : FabricView = with_received item stream part_word run (ledger_of v) v in
      exchanged (found (1 + v.seat) item) stream 0 (After (1 + v.seat) item told)
      (λ same. came (1 + v.seat) item stream run part.parcels u told part.comes
      (record {
        moment = moment (1 + v.seat) item 0 u (takes_all (full_run (first_of run) part.parcels));
        was = part.was;
        parcels = part.parcels;
        long = part.comes.long;
        reply = part.reply;
        own = part.own;
        next = part.next;
        unfinished = part.unfinished;
        slots = part.comes.taken;
        received = refl;
        step = part.comes.step;
      }))
      (λ ne. absurd (ne part.was))

  pub closes : (item stream poster parts : ℕ) (last : Bool) (run_word part_word : ℕ) → HasLists v (ledger_of v) (Sending stream poster parts last item ∷ []) → HasItem shape (1 + poster) item → Holds (held_at (1 + poster)) item v → run_said (1 + poster) v item run_word → part_said (1 + poster) v item part_word
      → After (1 + poster) item (Closes H reply_of shape id item stream poster part_word (numbers_of run_word) (v, carried)) (either (eqb (found (1 + poster) item) stream) 0 (found (1 + poster) item))
  closes item stream poster parts last run_word part_word main there mine said_run said_part =
      let run : Run = numbers_of run_word in
      let told : Me (Option (Parcel H)) FabricView → Type 0 = Closes H reply_of shape id item stream poster part_word run (v, carried) in
      let part : PartReturns reply_of shape s holds id v (ledger_of v) carried item stream poster part_word run = close H reply_of shape s holds id v (ledger_of v) carried at item stream poster parts last run_word part_word main there mine said_run said_part in
      let u : FabricView = with_closed item stream poster run (ledger_of v) v in
      exchanged (found (1 + poster) item) stream 0 (After (1 + poster) item told)
      (λ same. came (1 + poster) item stream run part.parcels u told part.comes
      (record {
        moment = moment (1 + poster) item 0 u (takes_all (full_run (first_of run) part.parcels));
        was = part.was;
        parcels = part.parcels;
        long = part.comes.long;
        reply = part.reply;
        slots = part.comes.taken;
        closed = refl;
        step = part.comes.step;
      }))
      (λ ne. absurd (ne part.was))
