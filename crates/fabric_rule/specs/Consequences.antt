-- What follows of the rule.
use Rattle.std.specs.Prelude.{ℕ, ◌+◌, ◌≡◌, ◌≢◌, ◌≤◌, ◌<◌, false, List, [], length, Option}
use mathlib.Core.Option.{some}
use lib.ListN.{get_elem?}
use Rattle.atomic_table.specs.Table.{State}
use Rattle.app_queue.specs.declared.side.Side.{Side}
use Rattle.nncq_ring.specs.Words.{Words, line_of}
use Rattle.carried_slots.specs.RunLaws.{HaveValuesAtHome}
use Rattle.request_context.specs.Parcels.{joined}
use Rattle.request_context.specs.declared.piece.Parcel.{Parcel}
use Rattle.unit_model.specs.Conditions.{holds_tagged}
use Rattle.unit_model.specs.Core.{chunk_number, item_of, queue_of, role_of}
use Rattle.unit_model.specs.Holding.{entries_of, items_of}
use Rattle.unit_model.specs.PartCounts.{sent_parts}
use Rattle.unit_model.specs.PartOrder.{IsOrdered, PartsInOrder}
use Rattle.unit_model.specs.Runs.{chunks_for}
use Rattle.unit_model.specs.Soundness.{IsSound}
use Rattle.unit_model.specs.StreamCounts.{by_all, by_seat, closed, posted}
use Rattle.unit_model.specs.Weights.{weigh, is_number, times}
use Rattle.unit_model.specs.declared.machine.Core.{Core}
use Rattle.unit_model.specs.declared.machine.Item.{Item}
use Rattle.unit_model.specs.declared.shape.Shape.{Shape}
use Rattle.unit_types.specs.declared.message.Reply.{Reply}
use Rattle.unit_types.specs.declared.message.Request.{Request}
use Rattle.fabric_words.specs.Offsets.{word_in}
use Rattle.fabric_words.specs.Places.{HasItem, queues_of}
use Rattle.fabric_rule.specs.CoreOf.{core_in}
use Rattle.fabric_rule.specs.Rule.{FabricHolds}
use Rattle.fabric_rule.specs.Views.{ring_in}
use Rattle.fabric_rule.specs.declared.view.FabricView.{FabricView}

-- what the rule shows is the core of words and views: so 'no step' means that the same core is shown
abbrev pub CoreIsLaw : (H : Type 0) → Type 0
CoreIsLaw H = (reply_of : List ℕ → Request → Reply) (shape : Shape) (s : State (Option (Parcel H)) FabricView)
    (holds : FabricHolds reply_of shape s)
    → holds.core ≡ core_in shape (word_in shape s.words) s.views

-- ---- rings

-- how often the value stands in the line of a ring of size n
abbrev pub times_in_ring : ℕ → Words → ℕ → ℕ
times_in_ring n w value = weigh (λ (e : ℕ × ℕ). is_number value e.1) (line_of n w)

-- the values that stand in a ring of size n are below n, and no two are one
pub record HasDistinctValues (n : ℕ) (w : Words) : Type 0 where
  pub once : (value : ℕ) → times_in_ring n w value ≤ 1
  pub below : (value : ℕ) → n ≤ value → times_in_ring n w value ≡ 0

-- so it is of each ring
abbrev pub RingsDistinctLaw : (H : Type 0) → Type 0
RingsDistinctLaw H = (reply_of : List ℕ → Request → Reply) (shape : Shape) (s : State (Option (Parcel H)) FabricView)
    (holds : FabricHolds reply_of shape s)
    → (queue : ℕ) (side : Side) → queue < queues_of shape
    → HasDistinctValues (items_of shape queue) (ring_in (word_in shape s.words) queue side)

-- ---- armed items of back queues

-- An armed item of a back queue is popped by the queue's engine and not settled, in the line, or armed and not pushed: one of these,
-- once.
abbrev pub ArmedBackLaw : Type 0
ArmedBackLaw = (popped armed : ℕ → List ℕ) (core : Core) → IsSound core → PartsInOrder popped armed core
    → (engine item : ℕ) → (item_of core (1 + engine) item).tag ≢ 0
    → times item (popped engine) + entries_of item (queue_of core (1 + engine)).line
    + times item (armed (item_of core (1 + engine) item).tag) ≡ 1

-- So a worker of whose stream no part is armed and not pushed holds no item with this tag.
abbrev pub AloneLaw : Type 0
AloneLaw = (popped armed : ℕ → List ℕ) (core : Core) → IsSound core → PartsInOrder popped armed core
    → (seat engine stream : ℕ) → role_of core seat ≡ 1 → stream ≢ 0 → armed stream ≡ []
    → holds_tagged core seat (1 + engine) stream ≡ false

-- And of one stream at most one part is armed and not pushed.
abbrev pub ArmedOnceLaw : Type 0
ArmedOnceLaw = (popped armed : ℕ → List ℕ) (core : Core) → IsSound core → PartsInOrder popped armed core
    → (stream : ℕ) → length (armed stream) ≤ 1

-- Of a closed stream of which a part was sent exactly one part is neither received nor on its way: it was taken back.
abbrev pub ClosedGoneLaw : Type 0
ClosedGoneLaw = (core : Core) → IsSound core → (engine worker stream : ℕ) (popped armed : List ℕ)
    → 1 ≤ by_seat posted core engine stream → 1 ≤ by_seat closed core worker stream
    → 1 ≤ length (sent_parts core worker stream)
    → (o : IsOrdered core engine worker stream popped armed) → length o.gone ≡ 1

-- ---- records

-- a view has this record of the stream
pub record HasRecordOf (views : List FabricView) (stream : ℕ) (bytes : List ℕ) : Type 0 where
  pub id : ℕ
  pub view : FabricView
  pub at : get_elem? views id ≡ some view
  pub index : ℕ
  pub has : get_elem? view.records index ≡ some (record { stream = stream; bytes = bytes })

-- Of each posted stream a view has the record.
abbrev pub PostedRecordLaw : (H : Type 0) → Type 0
PostedRecordLaw H = (reply_of : List ℕ → Request → Reply) (shape : Shape) (s : State (Option (Parcel H)) FabricView)
    (holds : FabricHolds reply_of shape s)
    → (stream : ℕ) → 1 ≤ by_all posted holds.core stream → HasRecordOf s.views stream (holds.records stream)

-- All records that views have of a stream are one.
abbrev pub OneRecordLaw : (H : Type 0) → Type 0
OneRecordLaw H = (reply_of : List ℕ → Request → Reply) (shape : Shape) (s : State (Option (Parcel H)) FabricView)
    (holds : FabricHolds reply_of shape s)
    → (stream : ℕ) (bytes : List ℕ) → HasRecordOf s.views stream bytes → bytes ≡ holds.records stream

-- The parcels in the slots of an armed line item's run, joined, are the record of the item's stream.
pub record HasItsRecord {H : Type 0} (homes : List (mathlib.Core.Option.Option (Option (Parcel H)))) (views : List FabricView) (item : Item) : Type 0 where
  pub parcels : List (Parcel H)
  pub long : length parcels ≡ chunks_for item.run.size
  pub home : HaveValuesAtHome (chunk_number item.run.segment item.run.chunk) parcels homes
  pub has : HasRecordOf views item.tag (joined parcels)

abbrev pub ArmedRecordLaw : (H : Type 0) → Type 0
ArmedRecordLaw H = (reply_of : List ℕ → Request → Reply) (shape : Shape) (s : State (Option (Parcel H)) FabricView)
    (holds : FabricHolds reply_of shape s)
    → (item : ℕ) → HasItem shape 0 item → (item_of holds.core 0 item).tag ≢ 0
    → HasItsRecord s.homes s.views (item_of holds.core 0 item)
