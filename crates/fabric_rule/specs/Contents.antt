-- Where slots are and what they hold: the slot of a free chunk is at home and empty, those of an armed item's chunks are at home
-- with the parcels of its message, and those of a seat's chunks are with that seat.
use Rattle.std.specs.Prelude.{ℕ, ◌≡◌, ◌≢◌, List, length, Option}
use Rattle.atomic_table.specs.Table.{Me}
use Rattle.carried_slots.specs.RunLaws.{HaveValuesAtHome}
use Rattle.carried_slots.specs.Carried.{numbers}
use Rattle.request_context.specs.Collecting.{IsPart}
use Rattle.request_context.specs.Parcels.{joined}
use Rattle.request_context.specs.Record.{HasRecord, request_record}
use Rattle.request_context.specs.declared.asked.Asked.{Asked}
use Rattle.request_context.specs.declared.piece.Parcel.{Parcel}
use Rattle.request_context.specs.declared.piece.Parcel.TheVariants.{Ask}
use Rattle.unit_model.specs.Core.{chunk_number, is_last_in, item_of, number_in}
use Rattle.unit_model.specs.PartOrder.{Each}
use Rattle.unit_model.specs.Runs.{chunks_for}
use Rattle.unit_model.specs.Weights.{weigh}
use Rattle.unit_model.specs.declared.machine.Core.{Core}
use Rattle.unit_model.specs.declared.machine.Item.{Item}
use Rattle.unit_types.specs.declared.message.Reply.{Reply}
use Rattle.unit_types.specs.declared.message.Request.{Request}
use Rattle.fabric_words.specs.Places.{HasItem}
use Rattle.fabric_rule.specs.declared.view.FabricView.{FabricView}

-- ---- the chunks of messages

-- a piece of a request record
abbrev pub IsAsk : {H : Type 0} → Parcel H → Type 0
IsAsk {H} parcel = (bytes : List ℕ) × (parcel ≡ Ask bytes)

-- The parcels of a request, joined, are the record under which the stream was posted, and that is the record of a request
-- that was asked under this stream. `records` has the record of each posted stream.
pub record IsRequest {H : Type 0} (records : ℕ → List ℕ) (stream : ℕ) (parcels : List (Parcel H)) : Type 0 where
  pub asks : Each IsAsk parcels
  pub posted : joined parcels ≡ records stream
  pub asked : Asked
  pub has : HasRecord asked
  pub under : asked.stream ≡ stream
  pub whole : records stream ≡ request_record asked

-- the same, where it isn't said under which record the stream was posted
abbrev pub IsRecordOf : {H : Type 0} → ℕ → List (Parcel H) → Type 0
IsRecordOf stream parcels = IsRequest (λ other. joined parcels) stream parcels

-- the parcels are all pieces, in order, of one part of the reply to what was asked under the stream: of the part with the number
-- that the part word has, which has the last mark exactly where the part is the final one
pub record IsReplyPart {H : Type 0} (reply_of : List ℕ → Request → Reply) (stream part : ℕ) (parcels : List (Parcel H)) : Type 0 where
  pub asked : Asked
  pub is : IsPart reply_of asked stream (number_in part) (is_last_in part) parcels

-- requests on queue 0, parts of replies on back queues
pub data Carries {H : Type 0} (reply_of : List ℕ → Request → Reply) (records : ℕ → List ℕ) (queue stream part : ℕ) (parcels : List (Parcel H)) : Type 0 where
  OfRequest : (line : queue ≡ 0) (is : IsRequest records stream parcels)
      → Carries reply_of records queue stream part parcels
  OfReply : (back : queue ≢ 0) (is : IsReplyPart reply_of stream part parcels)
      → Carries reply_of records queue stream part parcels

-- the slots of the item's run are at home, with the parcels of its message
pub record IsFilled {H : Type 0} (reply_of : List ℕ → Request → Reply) (records : ℕ → List ℕ) (homes : List (mathlib.Core.Option.Option (Option (Parcel H)))) (queue : ℕ) (item : Item) : Type 0 where
  pub parcels : List (Parcel H)
  pub long : length parcels ≡ chunks_for item.run.size
  pub home : HaveValuesAtHome (chunk_number item.run.segment item.run.chunk) parcels homes
  pub carries : Carries reply_of records queue item.tag item.part parcels

-- so of each armed item
abbrev pub ArmedFilled : {H : Type 0} → (List ℕ → Request → Reply) → (ℕ → List ℕ) → Core → List (mathlib.Core.Option.Option (Option (Parcel H))) → Type 0
ArmedFilled reply_of records core homes =
    (queue item : ℕ) → HasItem core.shape queue item → (item_of core queue item).tag ≢ 0
    → IsFilled reply_of records homes queue (item_of core queue item)

-- ---- a seat's chunks

-- A seat carries exactly the slots of the chunks that it has, each once. It is the seat's own fact, and no other one's step
-- touches it.
abbrev pub CarriesSlots : {T : Type 0} → Me (Option T) FabricView → Type 0
CarriesSlots me = (f : ℕ → ℕ) → weigh f (numbers me.1) ≡ weigh f me.0.chunks
