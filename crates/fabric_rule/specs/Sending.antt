-- Entries that are put at the ends of rings, and parts of replies that workers send: steps as
-- statements, and what the calls tell.
use Rattle.std.specs.Prelude.{ℕ, ◌+◌, ◌*◌, ◌/◌, ◌^◌, ◌≡◌, ◌≢◌, ◌≤◌, ◌<◌, [], ◌∷◌, if◌then◌else◌, List, Option, length, set}
use mathlib.Core.Option.{some}
use lib.ListN.{get_elem?}
use Rattle.atomic_table.specs.Table.{Me, State, Valid, carried_after, keeps, stepped}
use Rattle.app_queue.specs.declared.side.Side.{Side}
use Rattle.app_queue.specs.declared.side.Side.TheVariants.{Free, Line}
use Rattle.app_queue.specs.declared.view.ItemEvent.TheVariants.{Armed}
use Rattle.carried_slots.specs.Acts.{becomes}
use Rattle.carried_slots.specs.Carried.{numbers}
use Rattle.carried_slots.specs.RunSlots.{HasValues}
use Rattle.nncq_ring.specs.Words.{entry_of}
use Rattle.nncq_ring.specs.declared.view.RingEvent.{RingEvent}
use Rattle.nncq_ring.specs.declared.view.RingEvent.TheVariants.{SawEntry, SawTail}
use Rattle.port_message.specs.Words.{numbers_of, part_word_of}
use Rattle.request_context.specs.declared.piece.Parcel.{Parcel}
use Rattle.unit_model.specs.Holding.{FitsQueue, items_of}
use Rattle.unit_model.specs.Limits.{segment_chunks}
use Rattle.unit_model.specs.Runs.{chunks_for}
use Rattle.unit_model.specs.Shapes.{role_in}
use Rattle.unit_model.specs.Sharing.{Holds}
use Rattle.unit_model.specs.declared.machine.Note.TheVariants.{Sent}
use Rattle.unit_model.specs.declared.machine.Part.{Part}
use Rattle.unit_model.specs.declared.machine.Step.{Step}
use Rattle.unit_model.specs.declared.machine.Step.TheVariants.{Arm, GiveItem, Push}
use Rattle.unit_model.specs.declared.runs.Run.{Run}
use Rattle.unit_model.specs.declared.shape.Shape.{Shape}
use Rattle.unit_types.specs.declared.message.Reply.{Reply}
use Rattle.unit_types.specs.declared.message.Request.{Request}
use Rattle.fabric_words.specs.Offsets.{offset_of, word_in}
use Rattle.fabric_words.specs.Places.{HasItem, segments_of}
use Rattle.fabric_words.specs.declared.place.Place.TheVariants.{Tag}
use Rattle.fabric_rule.specs.Contents.{CarriesSlots, IsReplyPart}
use Rattle.fabric_rule.specs.Opening.{ledger_of}
use Rattle.fabric_rule.specs.Passing.{first_of}
use Rattle.fabric_rule.specs.Rule.{FabricHolds}
use Rattle.fabric_rule.specs.Steps.{HasLists, IsMachineStep, IsNoStep, MayPut, slot_of, slots_left, with_note, with_put}
use Rattle.fabric_rule.specs.Told.{Moment}
use Rattle.fabric_rule.specs.Views.{got_at, held_at, logged, part_said, run_said, tag_said}
use Rattle.fabric_rule.specs.declared.event.FabricEvent.TheVariants.{AtItem, AtRing}
use Rattle.fabric_rule.specs.declared.sending.PartOut.{PartOut}
use Rattle.fabric_rule.specs.declared.view.Ledger.{Ledger}
use Rattle.fabric_rule.specs.declared.view.FabricView.{FabricView}
use Rattle.fabric_rule.specs.declared.view.Work.{Work}
use Rattle.fabric_rule.specs.declared.view.Work.TheVariants.{Taken as TakenWork, Sending as SendingWork, Holding}

-- ---- the exchange of an entry

-- In a ring of size n the seat saw the tail at the place, which isn't worn, and then this entry in
-- its slot, of the cycle before.
pub record SawVacant (n : ℕ) (log : List RingEvent) (place entry : ℕ) : Type 0 where
  pub saw : get_elem? log 0 ≡ some (SawEntry place entry)
  pub tail : get_elem? log 1 ≡ some (SawTail place)
  pub before : entry / n + 1 ≡ place / n
  pub low : place < 2 ^ 62

-- The slot of the place had the entry, and has the item's since this step of the machine; the seat
-- has the view `put`. Or it had another entry, of the place's cycle or a later one.
pub record PutsEntry (H : Type 0) (reply_of : List ℕ → Request → Reply) (shape : Shape) (id queue : ℕ) (side : Side) (item place entry : ℕ) (step : Step) (put v : FabricView) (found : ℕ) (u : FabricView) : Type 0 where
  pub moment : Moment H reply_of shape id v u
  pub was : word_in shape moment.before.words (slot_of shape queue side place) ≡ found
  pub won : found ≡ entry → u ≡ put
  pub words : found ≡ entry → moment.after.words
      ≡ set moment.before.words (offset_of shape (slot_of shape queue side place)) (entry_of (items_of shape queue) place item)
  pub made : found ≡ entry
      → IsMachineStep reply_of shape moment.before moment.holds step moment.after
  pub missed : found ≢ entry → u ≡ logged (AtRing queue side (SawEntry place found)) v
  pub later : found ≢ entry → place / items_of shape queue ≤ found / items_of shape queue
  pub none : found ≢ entry → IsNoStep reply_of shape moment.before moment.holds moment.after

-- an engine's armed item, into the line of queue 0
abbrev pub Pushes : (H : Type 0) → (List ℕ → Request → Reply) → Shape → (id item place entry : ℕ) → FabricView → ℕ → FabricView → Type 0
Pushes H reply_of shape id item place entry v found u =
    PutsEntry H reply_of shape id 0 Line item place entry (Push v.seat 0 item place) (with_put 0 Line item place v) v found u

-- an item without a tag, into its free ring
abbrev pub Gives : (H : Type 0) → (List ℕ → Request → Reply) → Shape → (id queue item place entry : ℕ) → FabricView → ℕ → FabricView → Type 0
Gives H reply_of shape id queue item place entry v found u =
    PutsEntry H reply_of shape id queue Free item place entry (GiveItem v.seat queue item place) (with_put queue Free item place v) v found u

-- ---- a worker sends a part

-- the queue of the engine that is to have the part
abbrev pub queue_to : PartOut → ℕ
queue_to part = 1 + part.poster

-- what the item's part word says of it
abbrev pub word_of_part : PartOut → ℕ
word_of_part part = part_word_of part.number part.last

-- the part as the machine has it
abbrev pub sent_part : PartOut → Part
sent_part part = record { stream = part.stream; number = part.number; last = part.last }

-- the work of a worker that has sent all parts before this one, and that of one which has armed it
-- with an item
abbrev pub work_before : PartOut → Work
work_before part = TakenWork part.stream part.poster part.number

abbrev pub work_armed : PartOut → ℕ → Work
work_armed part item = SendingWork part.stream part.poster (part.number + 1) part.last item

-- A part that was armed: the worker has sent it, and the chunks of its run are the message's.
abbrev pub with_sent : PartOut → ℕ → ℕ → ℕ → List ℕ → Ledger → FabricView → FabricView
with_sent part item place run_word left c v = record v {
  ledgers = with_note (Sent (sent_part part)) 0 c ∷ [];
  works = work_armed part item ∷ [];
  chunks = left;
  arms = (record {
    queue = queue_to part;
    item = item;
    place = place;
    stream = part.stream;
    run = run_word;
    part = word_of_part part;
  }) ∷ v.arms;
  log = AtItem (queue_to part) (Armed item part.stream) ∷ v.log;
}

-- The slots of the run go home with the part's tag in one step, in whatever order they are carried.
pub record PartGoes {H : Type 0} (reply_of : List ℕ → Request → Reply) (shape : Shape) (s : State (Option (Parcel H)) FabricView) (holds : FabricHolds reply_of shape s) (id : ℕ) (v : FabricView) (c : Ledger) (carried : List (ℕ × Option (Parcel H))) (part : PartOut) (item place run_word : ℕ) : Type 0 where
  pub valid : Valid s.homes carried (becomes carried (slots_left (numbers_of run_word) carried))
  pub given : carried_after carried (becomes carried (slots_left (numbers_of run_word) carried)) ≡ slots_left (numbers_of run_word) carried
  pub carries : CarriesSlots (with_sent part item place run_word (numbers (slots_left (numbers_of run_word) carried)) c v, slots_left (numbers_of run_word) carried)
  pub made : IsMachineStep reply_of shape s holds (Arm v.seat (queue_to part) item part.stream)
      (stepped s (offset_of shape (Tag (queue_to part) item)) part.stream id carried (with_sent part item place run_word (numbers (slots_left (numbers_of run_word) carried)) c v) (becomes carried (slots_left (numbers_of run_word) carried)))

-- parcels that stand in the slots of a run, and are all pieces, in order, of this part of the reply
-- to what was asked
pub record CarriesPart {H : Type 0} (reply_of : List ℕ → Request → Reply) (part : PartOut) (run : Run) (carried : List (ℕ × Option (Parcel H))) : Type 0 where
  pub parcels : List (Parcel H)
  pub long : length parcels ≡ chunks_for run.size
  pub values : HasValues (first_of run) parcels carried
  pub reply : IsReplyPart reply_of part.stream (word_of_part part) parcels

-- Arm of a back queue: the worker took the stream and has sent all parts before this one, none of
-- which it still has to push. It has the item since it got it from the free ring at this place, and
-- noted or stored its run and its part. It carries the run's slots with the part's pieces. The
-- chunks that it still has are those of the slots that are left.
abbrev pub SendLaw : (H : Type 0) → Type 0
SendLaw H = (reply_of : List ℕ → Request → Reply) (shape : Shape) (s : State (Option (Parcel H)) FabricView)
    (holds : FabricHolds reply_of shape s) (id : ℕ) (v : FabricView) (c : Ledger) (carried : List (ℕ × Option (Parcel H)))
    → length s.homes ≡ segment_chunks * segments_of shape
    → get_elem? s.views id ≡ some v → CarriesSlots (v, carried)
    → (part : PartOut) → HasLists v c (work_before part ∷ []) → role_in shape v.seat ≡ 1
    → (item place run_word : ℕ) → HasItem shape (queue_to part) item → Holds (held_at (queue_to part)) item v
    → got_at (queue_to part) v item place
    → run_said (queue_to part) v item run_word → part_said (queue_to part) v item (word_of_part part)
    → FitsQueue shape (queue_to part) (numbers_of run_word)
    → CarriesPart reply_of part (numbers_of run_word) carried
    → PartGoes reply_of shape s holds id v c carried part item place run_word

-- the part is armed with these parcels, and the slots of its run are at home
pub record Sends (H : Type 0) (reply_of : List ℕ → Request → Reply) (shape : Shape) (id : ℕ) (part : PartOut) (item place run_word : ℕ) (me me' : Me (Option (Parcel H)) FabricView) : Type 0 where
  pub moment : Moment H reply_of shape id me.0 me'.0
  pub carried : CarriesPart reply_of part (numbers_of run_word) me.1
  pub slots : me'.1 ≡ slots_left (numbers_of run_word) me.1
  pub sent : me'.0 ≡ with_sent part item place run_word (numbers me'.1) (ledger_of me.0) me.0
  pub made : IsMachineStep reply_of shape moment.before moment.holds (Arm me.0.seat (queue_to part) item part.stream) moment.after

-- ---- and pushes it

-- what is left to do after it: the next part, or where it was the last nothing of this stream, so
-- that a join may end the work
abbrev pub work_after : PartOut → Work
work_after part =
    if part.last then Holding else TakenWork part.stream part.poster (part.number + 1)

abbrev pub with_part_put : PartOut → ℕ → ℕ → FabricView → FabricView
with_part_put part item place v =
    record (with_put (queue_to part) Line item place v) { works = work_after part ∷ [] }

-- Push of a back queue by the worker that armed the part with this item.
abbrev pub PushPartLaw : (H : Type 0) → Type 0
PushPartLaw H = (reply_of : List ℕ → Request → Reply) (shape : Shape) (s : State (Option (Parcel H)) FabricView)
    (holds : FabricHolds reply_of shape s) (id : ℕ) (v : FabricView) (carried : List (ℕ × Option (Parcel H)))
    → get_elem? s.views id ≡ some v → role_in shape v.seat ≡ 1
    → (part : PartOut) (item place : ℕ) → v.works ≡ work_armed part item ∷ []
    → HasItem shape (queue_to part) item → Holds (held_at (queue_to part)) item v
    → tag_said (queue_to part) v item part.stream
    → MayPut shape s.words v (queue_to part) Line place
    → IsMachineStep reply_of shape s holds (Push v.seat (queue_to part) item place)
    (stepped s (offset_of shape (slot_of shape (queue_to part) Line place)) (entry_of (items_of shape (queue_to part)) place item) id carried (with_part_put part item place v) keeps)

-- a part that was armed, into the line of its engine's queue
abbrev pub PushesPart : (H : Type 0) → (List ℕ → Request → Reply) → Shape → ℕ → PartOut → (item place entry : ℕ) → FabricView → ℕ → FabricView → Type 0
PushesPart H reply_of shape id part item place entry v found u =
    PutsEntry H reply_of shape id (queue_to part) Line item place entry (Push v.seat (queue_to part) item place) (with_part_put part item place v) v found u
