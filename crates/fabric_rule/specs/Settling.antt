-- Settles beside a worker's take, as statements: an engine cancels a request that it posted, or
-- receives a part of a reply, and a worker takes its last part back. Of a request that was taken
-- before its poster cancelled it, the poster abandons the stream.
use Rattle.std.specs.Prelude.{ℕ, ◌+◌, ◌≡◌, ◌≢◌, ◌≤◌, Bool, false, [], ◌∷◌, ◌++◌, List, Option, filter, length, replicate, set}
use mathlib.Core.Option.{some}
use lib.ListN.{get_elem?}
use Rattle.atomic_table.specs.Table.{Me, State, Valid, carried_after, stepped}
use Rattle.app_queue.specs.Arms.{Arm}
use Rattle.app_queue.specs.declared.view.ItemEvent.TheVariants.{Won, Gone}
use Rattle.carried_slots.specs.Acts.{takes_all}
use Rattle.carried_slots.specs.RunLaws.{HaveValuesAtHome, full_run}
use Rattle.port_message.specs.Words.{numbers_of}
use Rattle.request_context.specs.declared.piece.Parcel.{Parcel}
use Rattle.unit_model.specs.ChunkWeights.{run_numbers}
use Rattle.unit_model.specs.Core.{is_last_in, number_in}
use Rattle.unit_model.specs.PartCounts.{is_of_stream}
use Rattle.unit_model.specs.Runs.{chunks_for}
use Rattle.unit_model.specs.Shapes.{role_in}
use Rattle.unit_model.specs.Sharing.{Holds}
use Rattle.unit_model.specs.Weights.{times}
use Rattle.unit_model.specs.declared.machine.Note.TheVariants.{Abandoned, Cancelled, Closed, Received}
use Rattle.unit_model.specs.declared.machine.Part.{Part}
use Rattle.unit_model.specs.declared.machine.Step.TheVariants.{Abandon, Settle}
use Rattle.unit_model.specs.declared.runs.Run.{Run}
use Rattle.unit_model.specs.declared.shape.Shape.{Shape}
use Rattle.unit_types.specs.declared.message.Reply.{Reply}
use Rattle.unit_types.specs.declared.message.Request.{Request}
use Rattle.fabric_words.specs.Offsets.{offset_of, word_in}
use Rattle.fabric_words.specs.Places.{HasItem}
use Rattle.fabric_words.specs.declared.place.Place.TheVariants.{Tag}
use Rattle.fabric_rule.specs.Contents.{CarriesSlots, IsReplyPart, IsRequest}
use Rattle.fabric_rule.specs.Opening.{ledger_of}
use Rattle.fabric_rule.specs.Parts.{has_last}
use Rattle.fabric_rule.specs.Passing.{first_of}
use Rattle.fabric_rule.specs.Rule.{FabricHolds}
use Rattle.fabric_rule.specs.Steps.{HasLists, IsMachineStep, with_note}
use Rattle.fabric_rule.specs.Told.{Moment}
use Rattle.fabric_rule.specs.Views.{arms_at, held_at, part_said, run_said, tag_said}
use Rattle.fabric_rule.specs.declared.event.FabricEvent.TheVariants.{AtItem}
use Rattle.fabric_rule.specs.declared.view.Ledger.{Ledger}
use Rattle.fabric_rule.specs.declared.view.FabricView.{FabricView}
use Rattle.fabric_rule.specs.declared.view.Work.{Work}
use Rattle.fabric_rule.specs.declared.view.Work.TheVariants.{Drawn, Holding, Posted, Sending}

-- ---- any settle

-- the chunks of the run are the seat's, which has this ledger and these works then
abbrev pub with_settled : ℕ → ℕ → ℕ → Run → List Work → Ledger → FabricView → FabricView
with_settled queue item stream run works c v = record v {
  ledgers = c ∷ [];
  works = works;
  chunks = run_numbers run ++ v.chunks;
  log = AtItem queue (Won item stream) ∷ v.log;
}

-- All slots of the run were at home with these parcels, and come with the tag in one step, in front
-- of what the seat carries.
pub record MessageComes {H : Type 0} (reply_of : List ℕ → Request → Reply) (shape : Shape) (s : State (Option (Parcel H)) FabricView) (holds : FabricHolds reply_of shape s) (id : ℕ) (v : FabricView) (carried : List (ℕ × Option (Parcel H))) (queue item stream : ℕ) (run : Run) (parcels : List (Parcel H)) (u : FabricView) : Type 0 where
  pub long : length parcels ≡ chunks_for run.size
  pub home : HaveValuesAtHome (first_of run) parcels s.homes
  pub valid : Valid s.homes carried (takes_all (full_run (first_of run) parcels))
  pub taken : carried_after carried (takes_all (full_run (first_of run) parcels)) ≡ full_run (first_of run) parcels ++ carried
  pub carries : CarriesSlots (v, carried) → CarriesSlots (u, full_run (first_of run) parcels ++ carried)
  pub step : IsMachineStep reply_of shape s holds (Settle v.seat queue item stream)
      (stepped s (offset_of shape (Tag queue item)) 0 id carried u (takes_all (full_run (first_of run) parcels)))

-- ---- an engine cancels a request that it posted

-- the seat posted the stream with this item and this run word
pub record HasPost (v : FabricView) (item stream run_word : ℕ) : Type 0 where
  pub arm : Arm
  pub place : ℕ
  pub there : get_elem? (arms_at 0 v) place ≡ some arm
  pub of_item : arm.item ≡ item
  pub of_stream : arm.stream ≡ stream
  pub of_run : arm.run ≡ run_word

-- the stream is cancelled, and its work is one of chunks; beside it there are so many works more
abbrev pub with_cancelled : ℕ → ℕ → Run → ℕ → Ledger → FabricView → FabricView
with_cancelled item stream run more c v =
    with_settled 0 item stream run (Holding ∷ replicate more Holding) (with_note (Cancelled stream) more c) v

pub record RequestReturns {H : Type 0} (reply_of : List ℕ → Request → Reply) (shape : Shape) (s : State (Option (Parcel H)) FabricView) (holds : FabricHolds reply_of shape s) (id : ℕ) (v : FabricView) (c : Ledger) (carried : List (ℕ × Option (Parcel H))) (item stream : ℕ) (run : Run) (more : ℕ) : Type 0 where
  pub parcels : List (Parcel H)
  pub request : IsRequest holds.records stream parcels
  pub comes : MessageComes reply_of shape s holds id v carried 0 item stream run parcels (with_cancelled item stream run more c v)

-- Settle of queue 0 by the engine that posted the stream with this item, wherever the item is: the
-- tag was this stream, and is 0.
abbrev pub CancelLaw : (H : Type 0) → Type 0
CancelLaw H = (reply_of : List ℕ → Request → Reply) (shape : Shape) (s : State (Option (Parcel H)) FabricView)
    (holds : FabricHolds reply_of shape s) (id : ℕ) (v : FabricView) (c : Ledger) (carried : List (ℕ × Option (Parcel H)))
    → get_elem? s.views id ≡ some v
    → (item stream run_word more : ℕ) → HasLists v c (Posted stream item ∷ []) → HasItem shape 0 item
    → HasPost v item stream run_word
    → word_in shape s.words (Tag 0 item) ≡ stream
    → RequestReturns reply_of shape s holds id v c carried item stream (numbers_of run_word) more

-- an engine that has the item that it posted in its hand finds its tag as the stream
abbrev pub UnpushedLaw : (H : Type 0) → Type 0
UnpushedLaw H = (reply_of : List ℕ → Request → Reply) (shape : Shape) (s : State (Option (Parcel H)) FabricView)
    (holds : FabricHolds reply_of shape s) (id : ℕ) (v : FabricView) (c : Ledger)
    → get_elem? s.views id ≡ some v
    → (item stream : ℕ) → HasLists v c (Posted stream item ∷ []) → HasItem shape 0 item
    → Holds (held_at 0) item v → tag_said 0 v item stream
    → word_in shape s.words (Tag 0 item) ≡ stream

-- ---- and abandons it where it was taken

-- the stream is abandoned, and nothing has come
abbrev pub with_abandoned : ℕ → ℕ → ℕ → Ledger → FabricView → FabricView
with_abandoned item stream found c v = record v {
  ledgers = with_note (Abandoned stream) 0 c ∷ [];
  works = Holding ∷ [];
  log = AtItem 0 (Gone item stream found) ∷ v.log;
}

-- Abandon by the engine that posted the stream with this item: the tag is another one, so a worker
-- took the stream. The seat hasn't received its last part.
abbrev pub AbandonLaw : (H : Type 0) → Type 0
AbandonLaw H = (reply_of : List ℕ → Request → Reply) (shape : Shape) (s : State (Option (Parcel H)) FabricView)
    (holds : FabricHolds reply_of shape s) (id : ℕ) (v : FabricView) (c : Ledger)
    → get_elem? s.views id ≡ some v
    → (item stream found : ℕ) → HasLists v c (Posted stream item ∷ []) → HasItem shape 0 item
    → has_last stream c.lists.received ≡ false
    → word_in shape s.words (Tag 0 item) ≡ found → found ≢ stream
    → IsMachineStep reply_of shape s holds (Abandon v.seat stream)
    (record s { views = set s.views id (with_abandoned item stream found c v) })

-- What a seat has drawn and not posted it has received nothing of.
abbrev pub NothingReceivedLaw : (H : Type 0) → Type 0
NothingReceivedLaw H = (reply_of : List ℕ → Request → Reply) (shape : Shape) (s : State (Option (Parcel H)) FabricView)
    (holds : FabricHolds reply_of shape s) (id : ℕ) (v : FabricView) (c : Ledger)
    → get_elem? s.views id ≡ some v
    → (stream : ℕ) → HasLists v c (Drawn stream ∷ [])
    → has_last stream c.lists.received ≡ false

-- The tag was the stream: it is 0, the parcels of the request came back, and the machine has
-- settled. Or it was another number, and the machine has abandoned the stream.
pub record Cancels (H : Type 0) (reply_of : List ℕ → Request → Reply) (shape : Shape) (id item stream : ℕ) (run : Run) (me : Me (Option (Parcel H)) FabricView) (found : ℕ) (me' : Me (Option (Parcel H)) FabricView) : Type 0 where
  pub moment : Moment H reply_of shape id me.0 me'.0
  pub was : word_in shape moment.before.words (Tag 0 item) ≡ found
  pub parcels : List (Parcel H)
  pub long : found ≡ stream → length parcels ≡ chunks_for run.size
  pub request : found ≡ stream → IsRequest moment.holds.records stream parcels
  pub slots : found ≡ stream → me'.1 ≡ full_run (first_of run) parcels ++ me.1
  pub won : found ≡ stream → me'.0 ≡ with_cancelled item stream run 0 (ledger_of me.0) me.0
  pub step : found ≡ stream
      → IsMachineStep reply_of shape moment.before moment.holds (Settle me.0.seat 0 item stream) moment.after
  pub same_slots : found ≢ stream → me'.1 ≡ me.1
  pub missed : found ≢ stream → me'.0 ≡ with_abandoned item stream found (ledger_of me.0) me.0
  pub abandoned : found ≢ stream
      → IsMachineStep reply_of shape moment.before moment.holds (Abandon me.0.seat stream) moment.after

-- The tag of an item that its poster hadn't pushed was the stream: it is 0, the parcels of the
-- request came back, and the machine has settled.
pub record Withdraws (H : Type 0) (reply_of : List ℕ → Request → Reply) (shape : Shape) (id item stream : ℕ) (run : Run) (me me' : Me (Option (Parcel H)) FabricView) : Type 0 where
  pub moment : Moment H reply_of shape id me.0 me'.0
  pub was : word_in shape moment.before.words (Tag 0 item) ≡ stream
  pub parcels : List (Parcel H)
  pub long : length parcels ≡ chunks_for run.size
  pub request : IsRequest moment.holds.records stream parcels
  pub slots : me'.1 ≡ full_run (first_of run) parcels ++ me.1
  pub won : me'.0 ≡ with_cancelled item stream run 1 (ledger_of me.0) me.0
  pub step : IsMachineStep reply_of shape moment.before moment.holds (Settle me.0.seat 0 item stream) moment.after

-- ---- an engine receives a part

-- a main seat that popped this item and hasn't settled it, and has no work
pub record HasPopped (v : FabricView) (c : Ledger) (item : ℕ) : Type 0 where
  pub only : v.ledgers ≡ c ∷ []
  pub number : c.seat ≡ v.seat
  pub one : c.popped ≡ item ∷ []
  pub workless : v.works ≡ []

-- the part of a stream that a part word says
abbrev pub part_named : ℕ → ℕ → Part
part_named stream part_word = record {
  stream = stream;
  number = number_in part_word;
  last = is_last_in part_word;
}

-- the part is received: there are a work of its chunks and one of its item, and nothing is popped
abbrev pub with_received : ℕ → ℕ → ℕ → Run → Ledger → FabricView → FabricView
with_received item stream part_word run c v =
    with_settled (1 + v.seat) item stream run (Holding ∷ Holding ∷ [])
    (record (with_note (Received (part_named stream part_word)) 2 c) { popped = [] }) v

-- The tag was the stream, which this engine posted, and the parcels are pieces of the part that the
-- part word names. It is the next one, since as many were received, and none of those was the last.
pub record PartComes {H : Type 0} (reply_of : List ℕ → Request → Reply) (shape : Shape) (s : State (Option (Parcel H)) FabricView) (holds : FabricHolds reply_of shape s) (id : ℕ) (v : FabricView) (c : Ledger) (carried : List (ℕ × Option (Parcel H))) (item stream part_word : ℕ) (run : Run) : Type 0 where
  pub was : word_in shape s.words (Tag (1 + v.seat) item) ≡ stream
  pub parcels : List (Parcel H)
  pub reply : IsReplyPart reply_of stream part_word parcels
  pub own : 1 ≤ times stream c.lists.posted
  pub next : number_in part_word ≡ length (filter (is_of_stream stream) c.lists.received)
  pub unfinished : has_last stream c.lists.received ≡ false
  pub comes : MessageComes reply_of shape s holds id v carried (1 + v.seat) item stream run parcels (with_received item stream part_word run c v)

-- Settle of its own back queue by the engine that popped the item, and noted its tag, its run and
-- its part. It can't lose.
abbrev pub ReceiveLaw : (H : Type 0) → Type 0
ReceiveLaw H = (reply_of : List ℕ → Request → Reply) (shape : Shape) (s : State (Option (Parcel H)) FabricView)
    (holds : FabricHolds reply_of shape s) (id : ℕ) (v : FabricView) (c : Ledger) (carried : List (ℕ × Option (Parcel H)))
    → get_elem? s.views id ≡ some v
    → (item stream run_word part_word : ℕ) → HasPopped v c item → role_in shape v.seat ≡ 0
    → HasItem shape (1 + v.seat) item → tag_said (1 + v.seat) v item stream
    → run_said (1 + v.seat) v item run_word → part_said (1 + v.seat) v item part_word
    → PartComes reply_of shape s holds id v c carried item stream part_word (numbers_of run_word)

-- the same at an exchange of the tag: it was the stream, and is 0
pub record Receives (H : Type 0) (reply_of : List ℕ → Request → Reply) (shape : Shape) (id item stream part_word : ℕ) (run : Run) (me me' : Me (Option (Parcel H)) FabricView) : Type 0 where
  pub moment : Moment H reply_of shape id me.0 me'.0
  pub was : word_in shape moment.before.words (Tag (1 + me.0.seat) item) ≡ stream
  pub parcels : List (Parcel H)
  pub long : length parcels ≡ chunks_for run.size
  pub reply : IsReplyPart reply_of stream part_word parcels
  pub own : 1 ≤ times stream (ledger_of me.0).lists.posted
  pub next : number_in part_word ≡ length (filter (is_of_stream stream) (ledger_of me.0).lists.received)
  pub unfinished : has_last stream (ledger_of me.0).lists.received ≡ false
  pub slots : me'.1 ≡ full_run (first_of run) parcels ++ me.1
  pub received : me'.0 ≡ with_received item stream part_word run (ledger_of me.0) me.0
  pub step : IsMachineStep reply_of shape moment.before moment.holds (Settle me.0.seat (1 + me.0.seat) item stream) moment.after

-- ---- a worker takes its last part back

-- the stream is closed: there are a work of the part's chunks and one of its item
abbrev pub with_closed : ℕ → ℕ → ℕ → Run → Ledger → FabricView → FabricView
with_closed item stream poster run c v =
    with_settled (1 + poster) item stream run (Holding ∷ Holding ∷ []) (with_note (Closed stream) 1 c) v

-- the tag was the stream, and the parcels are pieces of the part that the part word names
pub record PartReturns {H : Type 0} (reply_of : List ℕ → Request → Reply) (shape : Shape) (s : State (Option (Parcel H)) FabricView) (holds : FabricHolds reply_of shape s) (id : ℕ) (v : FabricView) (c : Ledger) (carried : List (ℕ × Option (Parcel H))) (item stream poster part_word : ℕ) (run : Run) : Type 0 where
  pub was : word_in shape s.words (Tag (1 + poster) item) ≡ stream
  pub parcels : List (Parcel H)
  pub reply : IsReplyPart reply_of stream part_word parcels
  pub comes : MessageComes reply_of shape s holds id v carried (1 + poster) item stream run parcels (with_closed item stream poster run c v)

-- Settle of a back queue by the worker that armed the item and hasn't pushed it. It can't lose, and
-- the stream gets no further part.
abbrev pub CloseLaw : (H : Type 0) → Type 0
CloseLaw H = (reply_of : List ℕ → Request → Reply) (shape : Shape) (s : State (Option (Parcel H)) FabricView)
    (holds : FabricHolds reply_of shape s) (id : ℕ) (v : FabricView) (c : Ledger) (carried : List (ℕ × Option (Parcel H)))
    → get_elem? s.views id ≡ some v
    → (item stream poster parts : ℕ) (last : Bool) (run_word part_word : ℕ)
    → HasLists v c (Sending stream poster parts last item ∷ [])
    → HasItem shape (1 + poster) item → Holds (held_at (1 + poster)) item v
    → run_said (1 + poster) v item run_word → part_said (1 + poster) v item part_word
    → PartReturns reply_of shape s holds id v c carried item stream poster part_word (numbers_of run_word)

-- the same at an exchange of the tag: it was the stream, and is 0
pub record Closes (H : Type 0) (reply_of : List ℕ → Request → Reply) (shape : Shape) (id item stream poster part_word : ℕ) (run : Run) (me me' : Me (Option (Parcel H)) FabricView) : Type 0 where
  pub moment : Moment H reply_of shape id me.0 me'.0
  pub was : word_in shape moment.before.words (Tag (1 + poster) item) ≡ stream
  pub parcels : List (Parcel H)
  pub long : length parcels ≡ chunks_for run.size
  pub reply : IsReplyPart reply_of stream part_word parcels
  pub slots : me'.1 ≡ full_run (first_of run) parcels ++ me.1
  pub closed : me'.0 ≡ with_closed item stream poster run (ledger_of me.0) me.0
  pub step : IsMachineStep reply_of shape moment.before moment.holds (Settle me.0.seat (1 + poster) item stream) moment.after
