-- Steps of a fabric's table, as statements: what a seat has to have seen and to have in hand, what its view is afterwards, and which
-- step of the machine it is.
use Rattle.std.specs.Prelude.{ℕ, ◌+◌, ◌*◌, ◌/◌, ◌%◌, ◌^◌, ◌≡◌, ◌≢◌, ◌≤◌, ◌<◌, ◌==◌, ◌&&◌, Bool, [], ◌∷◌, ◌++◌, List, Option, length, set}
use mathlib.Core.Option.{some}
use lib.ListN.{get_elem?}
use Rattle.atomic_table.specs.Table.{State, Valid, carried_after, keeps, stepped}
use Rattle.app_queue.specs.declared.side.Side.{Side}
use Rattle.app_queue.specs.declared.side.Side.TheVariants.{Free, Line}
use Rattle.app_queue.specs.declared.view.ItemEvent.{ItemEvent}
use Rattle.app_queue.specs.declared.view.ItemEvent.TheVariants.{Taken as ItemTaken, RunNoted, PartNoted, TagNoted, Armed, Won, Gone}
use Rattle.carried_slots.specs.Acts.{becomes, takes_all}
use Rattle.carried_slots.specs.Carried.{numbers}
use Rattle.carried_slots.specs.RunLaws.{HaveValuesAtHome, full_run}
use Rattle.carried_slots.specs.RunSlots.{HasValues, run_gone}
use Rattle.nncq_ring.specs.Notes.{Noted}
use Rattle.nncq_ring.specs.Turns.{IsLook}
use Rattle.nncq_ring.specs.declared.view.RingEvent.{RingEvent}
use Rattle.nncq_ring.specs.declared.view.RingEvent.TheVariants.{SawTail, SawHead, SawEntry, Pushed, Popped}
use Rattle.port_message.specs.Words.{numbers_of}
use Rattle.request_context.specs.Parcels.{joined}
use Rattle.request_context.specs.declared.piece.Parcel.{Parcel}
use Rattle.unit_model.specs.ChunkWeights.{run_numbers}
use Rattle.unit_model.specs.Effects.{after_step, noted}
use Rattle.unit_model.specs.Holding.{FitsQueue, items_of}
use Rattle.unit_model.specs.Limits.{segment_chunks}
use Rattle.unit_model.specs.Running.{Enabled}
use Rattle.unit_model.specs.Runs.{chunks_for}
use Rattle.unit_model.specs.Shapes.{role_in}
use Rattle.unit_model.specs.Sharing.{Holds}
use Rattle.unit_model.specs.Weights.{without_first}
use Rattle.nncq_ring.specs.Words.{entry_of}
use Rattle.unit_model.specs.declared.machine.Note.{Note}
use Rattle.unit_model.specs.declared.machine.Note.TheVariants.{Posted, Taken}
use Rattle.unit_model.specs.declared.machine.Step.{Step}
use Rattle.unit_model.specs.declared.machine.Step.TheVariants.{Arm, GetItem, GiveItem, Pop, Push, Settle}
use Rattle.unit_model.specs.declared.runs.Run.{Run}
use Rattle.unit_model.specs.declared.shape.Shape.{Shape}
use Rattle.unit_types.specs.declared.message.Reply.{Reply}
use Rattle.unit_types.specs.declared.message.Request.{Request}
use Rattle.fabric_words.specs.Offsets.{offset_of, word_in}
use Rattle.fabric_words.specs.Places.{HasItem, queues_of, segments_of}
use Rattle.fabric_words.specs.declared.place.Place.{Place}
use Rattle.fabric_words.specs.declared.place.Place.TheVariants.{Head, Slot, Tail, Tag, RunWord, PartWord}
use Rattle.fabric_words.specs.declared.place.Side.TheVariants.{FreeSide, LineSide}
use Rattle.fabric_rule.specs.Contents.{CarriesSlots, IsRecordOf, IsRequest}
use Rattle.fabric_rule.specs.Passing.{first_of}
use Rattle.fabric_rule.specs.Rule.{FabricHolds}
use Rattle.fabric_rule.specs.Views.{emptied_by, got_at, held_at, log_at, logged, part_said, posts_of, ring_in, run_said, tag_said, word_side}
use Rattle.fabric_rule.specs.declared.event.FabricEvent.TheVariants.{AtItem, AtRing}
use Rattle.fabric_rule.specs.declared.view.Ledger.{Ledger}
use Rattle.fabric_rule.specs.declared.view.FabricView.{FabricView}
use Rattle.fabric_rule.specs.declared.view.HeldItem.{HeldItem}
use Rattle.fabric_rule.specs.declared.view.Work.{Work}
use Rattle.fabric_rule.specs.declared.view.Work.TheVariants.{Holding}
use Rattle.fabric_rule.specs.declared.view.Work.TheVariants.{Drawn as DrawnWork, Posted as PostedWork, Taken as TakenWork}

-- The rule holds of the second state, in which the machine has made this step, which was enabled.
pub record IsMachineStep {H : Type 0} (reply_of : List ℕ → Request → Reply) (shape : Shape) (s : State (Option (Parcel H)) FabricView) (holds : FabricHolds reply_of shape s) (step : Step) (s' : State (Option (Parcel H)) FabricView) : Type 0 where
  pub enabled : Enabled holds.core step
  pub after : FabricHolds reply_of shape s'
  pub is : after.core ≡ after_step holds.core step

-- The rule holds of the second state, and the machine is as it was.
pub record IsNoStep {H : Type 0} (reply_of : List ℕ → Request → Reply) (shape : Shape) (s : State (Option (Parcel H)) FabricView) (holds : FabricHolds reply_of shape s) (s' : State (Option (Parcel H)) FabricView) : Type 0 where
  pub after : FabricHolds reply_of shape s'
  pub is : after.core ≡ holds.core

-- a seat that has the lists of its number, of that number alone, and has popped nothing that it hasn't handed on
pub record IsMain (v : FabricView) (c : Ledger) : Type 0 where
  pub only : v.ledgers ≡ c ∷ []
  pub number : c.seat ≡ v.seat
  pub nothing : c.popped ≡ []

-- ---- a seat pops the queue that it empties

-- an item that was popped from the line of a queue
abbrev pub popped_item : ℕ → ℕ → ℕ → HeldItem
popped_item queue item place = record {
  queue = queue;
  side = Line;
  item = item;
  place = place;
}

abbrev pub with_popped : ℕ → ℕ → ℕ → Ledger → FabricView → FabricView
with_popped queue item place c v = record v {
  ledgers = (record c { popped = item ∷ [] }) ∷ [];
  items = popped_item queue item place ∷ v.items;
  log = AtRing queue Line (Popped place item) ∷ v.log;
}

-- Pop of the queue that the seat empties: queue 0 where it is a worker's, and the back queue of its own where it is an engine's. The
-- head, whose entry the seat saw with the head's cycle, moves on.
abbrev pub PopLaw : (H : Type 0) → Type 0
PopLaw H = (reply_of : List ℕ → Request → Reply) (shape : Shape) (s : State (Option (Parcel H)) FabricView)
    (holds : FabricHolds reply_of shape s) (id : ℕ) (v : FabricView) (c : Ledger) (carried : List (ℕ × Option (Parcel H)))
    → get_elem? s.views id ≡ some v → IsMain v c → role_in shape v.seat ≤ 1
    → (queue : ℕ) → queue ≡ emptied_by shape v.seat
    → (place entry : ℕ) → get_elem? (log_at queue Line v) 0 ≡ some (SawEntry place entry)
    → entry / items_of shape queue ≡ place / items_of shape queue
    → word_in shape s.words (Head queue LineSide) ≡ place
    → IsMachineStep reply_of shape s holds (Pop v.seat queue (entry % items_of shape queue) place)
    (stepped s (offset_of shape (Head queue LineSide)) (place + 1) id carried
    (with_popped queue (entry % items_of shape queue) place c v) keeps)

-- ---- looks

-- An event that a seat may note of a ring where it changes none of its words: what it says is so now.
abbrev pub LookLaw : (H : Type 0) → Type 0
LookLaw H = (reply_of : List ℕ → Request → Reply) (shape : Shape) (s : State (Option (Parcel H)) FabricView)
    (holds : FabricHolds reply_of shape s) (id : ℕ) (v : FabricView)
    → get_elem? s.views id ≡ some v
    → (queue : ℕ) (side : Side) (e : RingEvent) → queue < queues_of shape → IsLook e
    → Noted (items_of shape queue) (ring_in (word_in shape s.words) queue side) e
    → IsNoStep reply_of shape s holds (record s { views = set s.views id (logged (AtRing queue side e) v) })

-- ---- an item comes from its free ring

abbrev pub got_item : ℕ → ℕ → ℕ → HeldItem
got_item queue item place = record {
  queue = queue;
  side = Free;
  item = item;
  place = place;
}

abbrev pub with_got : ℕ → ℕ → ℕ → FabricView → FabricView
with_got queue item place v = record v {
  items = got_item queue item place ∷ v.items;
  log = AtRing queue Free (Popped place item) ∷ v.log;
}

-- GetItem of a queue that the seat fills: the head of the free ring, whose entry the seat saw with the head's cycle, moves on. The
-- view has a work: one without works holds nothing but what it popped.
abbrev pub GetItemLaw : (H : Type 0) → Type 0
GetItemLaw H = (reply_of : List ℕ → Request → Reply) (shape : Shape) (s : State (Option (Parcel H)) FabricView)
    (holds : FabricHolds reply_of shape s) (id : ℕ) (v : FabricView) (carried : List (ℕ × Option (Parcel H)))
    → get_elem? s.views id ≡ some v → v.works ≢ []
    → (queue : ℕ) → queue < queues_of shape → (role_in shape v.seat == 0) ≡ (queue == 0)
    → (place entry : ℕ) → get_elem? (log_at queue Free v) 0 ≡ some (SawEntry place entry)
    → entry / items_of shape queue ≡ place / items_of shape queue
    → word_in shape s.words (Head queue FreeSide) ≡ place
    → IsMachineStep reply_of shape s holds (GetItem v.seat queue (entry % items_of shape queue) place)
    (stepped s (offset_of shape (Head queue FreeSide)) (place + 1) id carried
    (with_got queue (entry % items_of shape queue) place v) keeps)

-- ---- an item goes into a ring

abbrev pub is_held : ℕ → ℕ → HeldItem → Bool
is_held queue item h = h.queue == queue && h.item == item

-- an item that was put in a ring, at this place
abbrev pub with_put : ℕ → Side → ℕ → ℕ → FabricView → FabricView
with_put queue side item place v = record v {
  items = without_first (is_held queue item) v.items;
  log = AtRing queue side (Pushed place item) ∷ v.log;
}

-- the slot of a place, in a ring of a queue
abbrev pub slot_of : Shape → ℕ → Side → ℕ → Place
slot_of shape queue side place = Slot queue (word_side side) (place % items_of shape queue)

-- The seat saw the tail of a ring at the place, whose slot has the entry of the cycle before now, and the place isn't worn.
pub record MayPut (shape : Shape) (words : List ℕ) (v : FabricView) (queue : ℕ) (side : Side) (place : ℕ) : Type 0 where
  pub seen_at : ℕ
  pub seen : get_elem? (log_at queue side v) seen_at ≡ some (SawTail place)
  pub vacant : word_in shape words (slot_of shape queue side place) / items_of shape queue + 1 ≡ place / items_of shape queue
  pub low : place < 2 ^ 62

-- Push of queue 0 by the engine that posted the item: it is armed, and goes into the line.
abbrev pub PushLineLaw : (H : Type 0) → Type 0
PushLineLaw H = (reply_of : List ℕ → Request → Reply) (shape : Shape) (s : State (Option (Parcel H)) FabricView)
    (holds : FabricHolds reply_of shape s) (id : ℕ) (v : FabricView) (carried : List (ℕ × Option (Parcel H)))
    → get_elem? s.views id ≡ some v → v.works ≢ [] → role_in shape v.seat ≡ 0
    → (item place stream : ℕ) → HasItem shape 0 item → Holds (held_at 0) item v
    → tag_said 0 v item stream → stream ≢ 0 → 1 ≤ posts_of stream item v.arms
    → MayPut shape s.words v 0 Line place
    → IsMachineStep reply_of shape s holds (Push v.seat 0 item place)
    (stepped s (offset_of shape (slot_of shape 0 Line place)) (entry_of (items_of shape 0) place item) id carried (with_put 0 Line item place v) keeps)

-- GiveItem: an item without a tag goes back into its free ring.
abbrev pub GiveItemLaw : (H : Type 0) → Type 0
GiveItemLaw H = (reply_of : List ℕ → Request → Reply) (shape : Shape) (s : State (Option (Parcel H)) FabricView)
    (holds : FabricHolds reply_of shape s) (id : ℕ) (v : FabricView) (carried : List (ℕ × Option (Parcel H)))
    → get_elem? s.views id ≡ some v → v.works ≢ []
    → (queue item place : ℕ) → HasItem shape queue item → Holds (held_at queue) item v
    → tag_said queue v item 0
    → MayPut shape s.words v queue Free place
    → IsMachineStep reply_of shape s holds (GiveItem v.seat queue item place)
    (stepped s (offset_of shape (slot_of shape queue Free place)) (entry_of (items_of shape queue) place item) id carried (with_put queue Free item place v) keeps)

-- an event that says that the end of a ring of size n is above the place
abbrev pub IsEndAbove : ℕ → ℕ → RingEvent → Type 0
IsEndAbove n place (SawTail tail) = ⊥
IsEndAbove n place (SawHead head) = ⊥
IsEndAbove n place (SawEntry at entry) = (at ≡ place) × (entry / n ≡ place / n)
IsEndAbove n place (Pushed at value) = at ≡ place
IsEndAbove n place (Popped at value) = ⊥

-- The tail of a ring moves on to the end of its line, which another seat may have left behind: no step.
abbrev pub HelpLaw : (H : Type 0) → Type 0
HelpLaw H = (reply_of : List ℕ → Request → Reply) (shape : Shape) (s : State (Option (Parcel H)) FabricView)
    (holds : FabricHolds reply_of shape s) (id : ℕ) (v : FabricView) (carried : List (ℕ × Option (Parcel H)))
    → get_elem? s.views id ≡ some v
    → (queue : ℕ) (side : Side) (place : ℕ) → queue < queues_of shape
    → (at : ℕ) (e : RingEvent) → get_elem? (log_at queue side v) at ≡ some e → IsEndAbove (items_of shape queue) place e
    → word_in shape s.words (Tail queue (word_side side)) ≡ place
    → IsNoStep reply_of shape s holds
    (stepped s (offset_of shape (Tail queue (word_side side))) (place + 1) id carried (logged (AtRing queue side (SawTail (place + 1))) v) keeps)

-- an event at an item that changes none of its words, and says what its word is now
abbrev pub IsItemLook : (Place → ℕ) → ℕ → ItemEvent → Type 0
IsItemLook word queue (ItemTaken side item place) = ⊥
IsItemLook word queue (RunNoted item x) = word (RunWord queue item) ≡ x
IsItemLook word queue (PartNoted item x) = word (PartWord queue item) ≡ x
IsItemLook word queue (TagNoted item x) = word (Tag queue item) ≡ x
IsItemLook word queue (Armed item stream) = ⊥
IsItemLook word queue (Won item stream) = ⊥
IsItemLook word queue (Gone item stream found) = word (Tag queue item) ≡ found

-- A load of a tag, a run or a part, and an exchange of a tag that lost.
abbrev pub ItemLookLaw : (H : Type 0) → Type 0
ItemLookLaw H = (reply_of : List ℕ → Request → Reply) (shape : Shape) (s : State (Option (Parcel H)) FabricView)
    (holds : FabricHolds reply_of shape s) (id : ℕ) (v : FabricView)
    → get_elem? s.views id ≡ some v
    → (queue : ℕ) (e : ItemEvent) → queue < queues_of shape
    → IsItemLook (word_in shape s.words) queue e
    → IsNoStep reply_of shape s holds (record s { views = set s.views id (logged (AtItem queue e) v) })

-- ---- a worker takes a request

-- a seat that has the lists of its number, of that number alone, and these works
pub record HasLists (v : FabricView) (c : Ledger) (works : List Work) : Type 0 where
  pub main : IsMain v c
  pub has : v.works ≡ works

-- the lists of a main seat with a note more, and so many works more
abbrev pub with_note : Note → ℕ → Ledger → Ledger
with_note note more c = record c { lists = noted note c.lists; opened_works = c.opened_works + more }

-- a request that came: its stream is taken, the chunks of its run are the seat's, and the record is what was asked
abbrev pub with_request : ℕ → ℕ → ℕ → Run → List ℕ → Ledger → FabricView → FabricView
with_request item stream poster run text c v = record v {
  ledgers = with_note (Taken stream) 2 c ∷ [];
  works = TakenWork stream poster 0 ∷ Holding ∷ Holding ∷ [];
  chunks = run_numbers run ++ v.chunks;
  records = record { stream = stream; bytes = text } ∷ v.records;
  log = AtItem 0 (Won item stream) ∷ v.log;
}

-- All slots of the run were at home with the parcels of the record under which the stream was posted, and come with the stream in one
-- step, in front of what the seat carries. The poster is an engine, and the run fits the queue.
pub record RequestComes {H : Type 0} (reply_of : List ℕ → Request → Reply) (shape : Shape) (s : State (Option (Parcel H)) FabricView) (holds : FabricHolds reply_of shape s) (id : ℕ) (v : FabricView) (c : Ledger) (carried : List (ℕ × Option (Parcel H))) (item stream poster : ℕ) (run : Run) : Type 0 where
  pub parcels : List (Parcel H)
  pub long : length parcels ≡ chunks_for run.size
  pub request : IsRequest holds.records stream parcels
  pub engine : role_in shape poster ≡ 0
  pub fits : FitsQueue shape 0 run
  pub home : HaveValuesAtHome (first_of run) parcels s.homes
  pub valid : Valid s.homes carried (takes_all (full_run (first_of run) parcels))
  pub taken : carried_after carried (takes_all (full_run (first_of run) parcels)) ≡ full_run (first_of run) parcels ++ carried
  pub carries : CarriesSlots (v, carried)
      → CarriesSlots (with_request item stream poster run (joined parcels) c v, full_run (first_of run) parcels ++ carried)
  pub step : IsMachineStep reply_of shape s holds (Settle v.seat 0 item stream)
      (stepped s (offset_of shape (Tag 0 item)) 0 id carried (with_request item stream poster run (joined parcels) c v) (takes_all (full_run (first_of run) parcels)))

-- Settle of queue 0 by a worker that holds the item, whose run and poster it noted: the tag was this stream, and is 0. The parcels
-- that come, joined, are the record that the stream's poster posted.
abbrev pub TakeLaw : (H : Type 0) → Type 0
TakeLaw H = (reply_of : List ℕ → Request → Reply) (shape : Shape) (s : State (Option (Parcel H)) FabricView)
    (holds : FabricHolds reply_of shape s) (id : ℕ) (v : FabricView) (c : Ledger) (carried : List (ℕ × Option (Parcel H)))
    → get_elem? s.views id ≡ some v → HasLists v c (Holding ∷ []) → role_in shape v.seat ≡ 1
    → (item stream run_word poster : ℕ) → HasItem shape 0 item
    → Holds (held_at 0) item v → run_said 0 v item run_word → part_said 0 v item poster
    → stream ≢ 0 → word_in shape s.words (Tag 0 item) ≡ stream
    → RequestComes reply_of shape s holds id v c carried item stream poster (numbers_of run_word)

-- ---- an engine posts a request

-- a stream that was armed on the line: it is posted, and the chunks of its run are the message's
abbrev pub with_posted : ℕ → ℕ → ℕ → ℕ → List ℕ → List ℕ → Ledger → FabricView → FabricView
with_posted item place stream run_word text left c v = record v {
  ledgers = with_note (Posted stream) 0 c ∷ [];
  works = PostedWork stream item ∷ [];
  chunks = left;
  arms = (record {
    queue = 0;
    item = item;
    place = place;
    stream = stream;
    run = run_word;
    part = v.seat;
  }) ∷ v.arms;
  records = record { stream = stream; bytes = text } ∷ v.records;
  log = AtItem 0 (Armed item stream) ∷ v.log;
}

-- the slots of a run are given, and these are left
abbrev pub slots_left : {S : Type 0} → Run → List (ℕ × S) → List (ℕ × S)
slots_left run carried = run_gone (first_of run) (chunks_for run.size) carried

-- The slots of the run go home with the stream in one step, in whatever order they are carried, and the stream has this record.
pub record RequestGoes {H : Type 0} (reply_of : List ℕ → Request → Reply) (shape : Shape) (s : State (Option (Parcel H)) FabricView) (holds : FabricHolds reply_of shape s) (id : ℕ) (v : FabricView) (c : Ledger) (carried : List (ℕ × Option (Parcel H))) (item place stream run_word : ℕ) (text : List ℕ) : Type 0 where
  pub valid : Valid s.homes carried (becomes carried (slots_left (numbers_of run_word) carried))
  pub given : carried_after carried (becomes carried (slots_left (numbers_of run_word) carried)) ≡ slots_left (numbers_of run_word) carried
  pub carries : CarriesSlots (with_posted item place stream run_word text (numbers (slots_left (numbers_of run_word) carried)) c v, slots_left (numbers_of run_word) carried)
  pub step : IsMachineStep reply_of shape s holds (Arm v.seat 0 item stream)
      (stepped s (offset_of shape (Tag 0 item)) stream id carried (with_posted item place stream run_word text (numbers (slots_left (numbers_of run_word) carried)) c v) (becomes carried (slots_left (numbers_of run_word) carried)))
  pub recorded : step.after.records stream ≡ text

-- Arm of queue 0: the engine drew the stream, has the item since it got it from the free ring at this place, and noted or stored its
-- run and its part. It carries the run's slots, with parcels that, joined, are the record of a request under this stream. The chunks
-- that it still has are those of the slots that are left.
abbrev pub ArmLineLaw : (H : Type 0) → Type 0
ArmLineLaw H = (reply_of : List ℕ → Request → Reply) (shape : Shape) (s : State (Option (Parcel H)) FabricView)
    (holds : FabricHolds reply_of shape s) (id : ℕ) (v : FabricView) (c : Ledger) (carried : List (ℕ × Option (Parcel H)))
    → length s.homes ≡ segment_chunks * segments_of shape
    → get_elem? s.views id ≡ some v → CarriesSlots (v, carried)
    → (stream : ℕ) → HasLists v c (DrawnWork stream ∷ []) → role_in shape v.seat ≡ 0
    → (item place run_word : ℕ) → HasItem shape 0 item → Holds (held_at 0) item v → got_at 0 v item place
    → run_said 0 v item run_word → part_said 0 v item v.seat
    → FitsQueue shape 0 (numbers_of run_word)
    → (parcels : List (Parcel H)) → length parcels ≡ chunks_for (numbers_of run_word).size
    → HasValues (first_of (numbers_of run_word)) parcels carried
    → IsRecordOf stream parcels
    → RequestGoes reply_of shape s holds id v c carried item place stream run_word (joined parcels)
