-- What steps of a fabric's table tell: of the view before, the number that was found, and the view after, with the rule right before
-- the step and right after it.
use Rattle.std.specs.Prelude.{ℕ, ◌+◌, ◌/◌, ◌≡◌, ◌≢◌, ◌<◌, ◌++◌, List, length, Option}
use mathlib.Core.Option.{some}
use lib.ListN.{get_elem?}
use Rattle.atomic_table.specs.Table.{Me, State}
use Rattle.nncq_ring.specs.declared.view.RingEvent.{RingEvent}
use Rattle.nncq_ring.specs.declared.view.RingEvent.TheVariants.{SawEntry, SawHead, SawTail}
use Rattle.app_queue.specs.declared.side.Side.{Side}
use Rattle.app_queue.specs.declared.side.Side.TheVariants.{Free, Line}
use Rattle.app_queue.specs.declared.view.ItemEvent.TheVariants.{Gone}
use Rattle.carried_slots.specs.Carried.{numbers}
use Rattle.carried_slots.specs.RunLaws.{full_run}
use Rattle.carried_slots.specs.RunSlots.{HasValues}
use Rattle.port_message.specs.Words.{numbers_of}
use Rattle.request_context.specs.Parcels.{joined}
use Rattle.request_context.specs.declared.piece.Parcel.{Parcel}
use Rattle.unit_model.specs.declared.machine.Step.TheVariants.{Arm, GetItem, Pop, Settle}
use Rattle.unit_model.specs.Runs.{chunks_for}
use Rattle.unit_model.specs.declared.runs.Run.{Run}
use Rattle.unit_model.specs.declared.shape.Shape.{Shape}
use Rattle.unit_types.specs.declared.message.Reply.{Reply}
use Rattle.unit_types.specs.declared.message.Request.{Request}
use Rattle.unit_model.specs.Holding.{FitsQueue}
use Rattle.unit_model.specs.Shapes.{role_in}
use Rattle.fabric_words.specs.Offsets.{word_in}
use Rattle.fabric_words.specs.declared.place.Place.TheVariants.{Head, Tag, Tail}
use Rattle.fabric_words.specs.declared.place.Side.TheVariants.{FreeSide, LineSide}
use Rattle.fabric_rule.specs.Contents.{IsRecordOf, IsRequest}
use Rattle.fabric_rule.specs.Passing.{first_of}
use Rattle.fabric_rule.specs.Looks.{note_of, place_of}
use Rattle.fabric_rule.specs.Opening.{ledger_of}
use Rattle.fabric_rule.specs.declared.look.Look.{Look}
use Rattle.fabric_rule.specs.Rule.{FabricHolds}
use Rattle.fabric_rule.specs.Steps.{IsMachineStep, IsNoStep, slots_left, with_got, with_popped, with_posted, with_request}
use Rattle.fabric_rule.specs.Views.{logged, tag_said, word_side}
use Rattle.fabric_rule.specs.declared.event.FabricEvent.TheVariants.{AtItem, AtRing}
use Rattle.fabric_rule.specs.declared.view.FabricView.{FabricView}

-- An atomic step of the seat with this number in the table. The rule held right before it, where the seat had the first view; it has
-- the second right after it, and each other seat has the view that it had.
pub record Moment (H : Type 0) (reply_of : List ℕ → Request → Reply) (shape : Shape) (id : ℕ) (v u : FabricView) : Type 0 where
  pub before : State (Option (Parcel H)) FabricView
  pub holds : FabricHolds reply_of shape before
  pub was : get_elem? before.views id ≡ some v
  pub after : State (Option (Parcel H)) FabricView
  pub is : get_elem? after.views id ≡ some u
  pub others : (k : ℕ) → k ≢ id → get_elem? after.views k ≡ get_elem? before.views k

-- the word was noted as it was found
pub record Sees (H : Type 0) (reply_of : List ℕ → Request → Reply) (shape : Shape) (id : ℕ) (look : Look) (me : Me (Option (Parcel H)) FabricView) (found : ℕ) (me' : Me (Option (Parcel H)) FabricView) : Type 0 where
  pub moment : Moment H reply_of shape id me.0 me'.0
  pub was : word_in shape moment.before.words (place_of shape look) ≡ found
  pub slots : me'.1 ≡ me.1
  pub noted : me'.0 ≡ logged (note_of look found) me.0
  pub none : IsNoStep reply_of shape moment.before moment.holds moment.after

-- the tail was at the place and was moved on, or was found past it
pub record Helps (H : Type 0) (reply_of : List ℕ → Request → Reply) (shape : Shape) (id queue : ℕ) (side : Side) (place : ℕ) (me : Me (Option (Parcel H)) FabricView) (found : ℕ) (me' : Me (Option (Parcel H)) FabricView) : Type 0 where
  pub moment : Moment H reply_of shape id me.0 me'.0
  pub was : word_in shape moment.before.words (Tail queue (word_side side)) ≡ found
  pub slots : me'.1 ≡ me.1
  pub won : found ≡ place → me'.0 ≡ logged (AtRing queue side (SawTail (place + 1))) me.0
  pub missed : found ≢ place → me'.0 ≡ logged (AtRing queue side (SawTail found)) me.0
  pub later : found ≢ place → place < found
  pub none : IsNoStep reply_of shape moment.before moment.holds moment.after

-- In a ring of size n the seat saw the head at the place, and then this entry in its slot, of the place's cycle.
pub record SawFirst (n : ℕ) (log : List RingEvent) (place entry : ℕ) : Type 0 where
  pub saw : get_elem? log 0 ≡ some (SawEntry place entry)
  pub head : get_elem? log 1 ≡ some (SawHead place)
  pub full : entry / n ≡ place / n

-- the item was taken at the place that the head of the line was, or the exchange found a later head
pub record Pops (H : Type 0) (reply_of : List ℕ → Request → Reply) (shape : Shape) (id queue place item : ℕ) (v : FabricView) (found : ℕ) (u : FabricView) : Type 0 where
  pub moment : Moment H reply_of shape id v u
  pub was : word_in shape moment.before.words (Head queue LineSide) ≡ found
  pub won : found ≡ place → u ≡ with_popped queue item place (ledger_of v) v
  pub step : found ≡ place
      → IsMachineStep reply_of shape moment.before moment.holds (Pop v.seat queue item place) moment.after
  pub missed : found ≢ place → u ≡ logged (AtRing queue Line (SawHead found)) v
  pub later : found ≢ place → place < found
  pub none : found ≢ place → IsNoStep reply_of shape moment.before moment.holds moment.after

-- the item was taken at the place that the head of the free ring was, or the exchange found a later head
pub record Gets (H : Type 0) (reply_of : List ℕ → Request → Reply) (shape : Shape) (id queue place item : ℕ) (v : FabricView) (found : ℕ) (u : FabricView) : Type 0 where
  pub moment : Moment H reply_of shape id v u
  pub was : word_in shape moment.before.words (Head queue FreeSide) ≡ found
  pub won : found ≡ place → u ≡ with_got queue item place v
  pub step : found ≡ place
      → IsMachineStep reply_of shape moment.before moment.holds (GetItem v.seat queue item place) moment.after
  pub missed : found ≢ place → u ≡ logged (AtRing queue Free (SawHead found)) v
  pub later : found ≢ place → place < found
  pub none : found ≢ place → IsNoStep reply_of shape moment.before moment.holds moment.after

-- ---- a worker takes a request

-- The tag was the stream: the parcels of the record under which its poster, an engine, posted it came, the run fits the queue, and
-- the machine has settled. Or it was another number, and nothing came; where the seat knew the tag as the stream, it is 0 now.
pub record Takes (H : Type 0) (reply_of : List ℕ → Request → Reply) (shape : Shape) (id item stream poster : ℕ) (run : Run) (me : Me (Option (Parcel H)) FabricView) (found : ℕ) (me' : Me (Option (Parcel H)) FabricView) : Type 0 where
  pub moment : Moment H reply_of shape id me.0 me'.0
  pub was : word_in shape moment.before.words (Tag 0 item) ≡ found
  pub parcels : List (Parcel H)
  pub long : found ≡ stream → length parcels ≡ chunks_for run.size
  pub request : found ≡ stream → IsRequest moment.holds.records stream parcels
  pub engine : found ≡ stream → role_in shape poster ≡ 0
  pub fits : found ≡ stream → FitsQueue shape 0 run
  pub slots : found ≡ stream → me'.1 ≡ full_run (first_of run) parcels ++ me.1
  pub won : found ≡ stream
      → me'.0 ≡ with_request item stream poster run (joined parcels) (ledger_of me.0) me.0
  pub step : found ≡ stream
      → IsMachineStep reply_of shape moment.before moment.holds (Settle me.0.seat 0 item stream) moment.after
  pub same_slots : found ≢ stream → me'.1 ≡ me.1
  pub cancelled : found ≢ stream → tag_said 0 me.0 item stream → found ≡ 0
  pub missed : found ≢ stream → me'.0 ≡ logged (AtItem 0 (Gone item stream found)) me.0
  pub none : found ≢ stream → IsNoStep reply_of shape moment.before moment.holds moment.after

-- ---- an engine posts a request

-- parcels that stand in the slots of a run, and are the record of a request under this stream
pub record CarriesRequest {H : Type 0} (stream : ℕ) (run : Run) (carried : List (ℕ × Option (Parcel H))) : Type 0 where
  pub parcels : List (Parcel H)
  pub long : length parcels ≡ chunks_for run.size
  pub values : HasValues (first_of run) parcels carried
  pub request : IsRecordOf stream parcels

-- the stream is posted with these parcels, whose record it has from then on, and the slots of its run are at home
pub record Posts (H : Type 0) (reply_of : List ℕ → Request → Reply) (shape : Shape) (id item place stream run_word : ℕ) (me me' : Me (Option (Parcel H)) FabricView) : Type 0 where
  pub moment : Moment H reply_of shape id me.0 me'.0
  pub carried : CarriesRequest stream (numbers_of run_word) me.1
  pub slots : me'.1 ≡ slots_left (numbers_of run_word) me.1
  pub posted : me'.0 ≡ with_posted item place stream run_word (joined carried.parcels) (numbers me'.1) (ledger_of me.0) me.0
  pub step : IsMachineStep reply_of shape moment.before moment.holds (Arm me.0.seat 0 item stream) moment.after
  pub recorded : step.after.records stream ≡ joined carried.parcels
