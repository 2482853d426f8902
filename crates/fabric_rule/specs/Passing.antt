-- Slots pass with tags: those of a run come with a tag that is settled, and go with one that is armed, all in one step.
use Rattle.std.specs.Prelude.{ℕ, ◌*◌, ◌≡◌, ◌≢◌, ◌<◌, ◌⊎◌, ◌++◌, List, length, Option}
use Rattle.atomic_table.specs.Table.{Valid, carried_after, homes_after}
use Rattle.carried_slots.specs.Acts.{becomes, takes_all}
use Rattle.carried_slots.specs.Carried.{numbers, IsDistinct}
use Rattle.carried_slots.specs.FreeSlots.{FreeSlots}
use Rattle.carried_slots.specs.RunLaws.{HaveValuesAtHome, full_run}
use Rattle.carried_slots.specs.RunSlots.{HasValues, run_gone}
use Rattle.request_context.specs.declared.piece.Parcel.{Parcel}
use Rattle.unit_model.specs.Core.{chunk_number, item_of, owner_of}
use Rattle.unit_model.specs.Limits.{segment_chunks}
use Rattle.unit_model.specs.Runs.{chunks_for}
use Rattle.unit_model.specs.Soundness.{IsSound}
use Rattle.unit_model.specs.Weights.{times}
use Rattle.unit_model.specs.declared.machine.Core.{Core}
use Rattle.unit_model.specs.declared.machine.Item.{Item}
use Rattle.unit_model.specs.declared.machine.Owner.TheVariants.{Seat}
use Rattle.unit_model.specs.declared.runs.Run.{Run}
use Rattle.unit_types.specs.declared.message.Reply.{Reply}
use Rattle.unit_types.specs.declared.message.Request.{Request}
use Rattle.fabric_words.specs.Places.{HasItem, map_of, segments_of}
use Rattle.fabric_words.specs.Shown.{Shows}
use Rattle.fabric_words.specs.declared.place.Place.{Place}
use Rattle.fabric_rule.specs.Contents.{ArmedFilled, Carries}

-- the number, over all segments, of the run's first chunk
abbrev pub first_of : Run → ℕ
first_of run = chunk_number run.segment run.chunk

-- no other item than this one changed
abbrev pub OthersStay : Core → Core → ℕ → ℕ → Type 0
OthersStay core core' queue item =
    (q i : ℕ) → (q ≢ queue) ⊎ (i ≢ item) → item_of core' q i ≡ item_of core q i

-- ---- they come

-- All slots of an armed item's run come, with the parcels of its message, in front of what the seat carries; and then the slots
-- of free chunks, and those of the items that are still armed, are where they were.
pub record SlotsCome {H : Type 0} (reply_of : List ℕ → Request → Reply) (records : ℕ → List ℕ) (core' : Core) (word : Place → ℕ) (homes : List (mathlib.Core.Option.Option (Option (Parcel H)))) (carried : List (ℕ × Option (Parcel H))) (queue : ℕ) (item : Item) : Type 0 where
  pub parcels : List (Parcel H)
  pub long : length parcels ≡ chunks_for item.run.size
  pub carries : Carries reply_of records queue item.tag item.part parcels
  pub home : HaveValuesAtHome (first_of item.run) parcels homes
  pub valid : Valid homes carried (takes_all (full_run (first_of item.run) parcels))
  pub taken : carried_after carried (takes_all (full_run (first_of item.run) parcels)) ≡ full_run (first_of item.run) parcels ++ carried
  pub free : FreeSlots (segment_chunks * segments_of core'.shape) (map_of word)
      (homes_after homes carried (takes_all (full_run (first_of item.run) parcels)))
  pub filled : ArmedFilled reply_of records core'
      (homes_after homes carried (takes_all (full_run (first_of item.run) parcels)))

-- at any settle: the item was armed, and isn't
abbrev pub SlotsComeLaw : (H : Type 0) → Type 0
SlotsComeLaw H = (reply_of : List ℕ → Request → Reply) (records : ℕ → List ℕ) (core core' : Core) (word : Place → ℕ)
    (homes : List (mathlib.Core.Option.Option (Option (Parcel H)))) (carried : List (ℕ × Option (Parcel H)))
    → IsSound core → Shows word core → core'.shape ≡ core.shape
    → (queue item : ℕ) → HasItem core.shape queue item → (item_of core queue item).tag ≢ 0
    → OthersStay core core' queue item → (item_of core' queue item).tag ≡ 0
    → FreeSlots (segment_chunks * segments_of core.shape) (map_of word) homes
    → ArmedFilled reply_of records core homes
    → SlotsCome reply_of records core' word homes carried queue (item_of core queue item)

-- ---- they go

-- The slots of an item's run go home with their parcels, and what is carried is without them; all other slots stay where they are.
pub record SlotsGo {H : Type 0} (reply_of : List ℕ → Request → Reply) (records' : ℕ → List ℕ) (core' : Core) (word : Place → ℕ) (homes : List (mathlib.Core.Option.Option (Option (Parcel H)))) (carried : List (ℕ × Option (Parcel H))) (first n : ℕ) : Type 0 where
  pub valid : Valid homes carried (becomes carried (run_gone first n carried))
  pub given : carried_after carried (becomes carried (run_gone first n carried)) ≡ run_gone first n carried
  pub free : FreeSlots (segment_chunks * segments_of core'.shape) (map_of word)
      (homes_after homes carried (becomes carried (run_gone first n carried)))
  pub filled : ArmedFilled reply_of records' core'
      (homes_after homes carried (becomes carried (run_gone first n carried)))

-- at any arm: the seat carries its own slots alone, among them those of the item's run with the parcels of its message
abbrev pub SlotsGoLaw : (H : Type 0) → Type 0
SlotsGoLaw H = (reply_of : List ℕ → Request → Reply) (records records' : ℕ → List ℕ) (core core' : Core) (word : Place → ℕ)
    (homes : List (mathlib.Core.Option.Option (Option (Parcel H)))) (carried : List (ℕ × Option (Parcel H)))
    → IsSound core → Shows word core → core'.shape ≡ core.shape
    → (seat : ℕ) → ((chunk : ℕ) → 0 < times chunk (numbers carried) → (owner_of core chunk ≡ Seat seat) × (chunk < length homes))
    → IsDistinct carried
    → (queue item : ℕ) → OthersStay core core' queue item
    → ((q i : ℕ) → (q ≢ queue) ⊎ (i ≢ item) → (item_of core q i).tag ≢ 0 → records' (item_of core q i).tag ≡ records (item_of core q i).tag)
    → (parcels : List (Parcel H))
    → length parcels ≡ chunks_for (item_of core' queue item).run.size
    → HasValues (first_of (item_of core' queue item).run) parcels carried
    → Carries reply_of records' queue (item_of core' queue item).tag (item_of core' queue item).part parcels
    → FreeSlots (segment_chunks * segments_of core.shape) (map_of word) homes
    → ArmedFilled reply_of records core homes
    → SlotsGo reply_of records' core' word homes carried (first_of (item_of core' queue item).run)
    (chunks_for (item_of core' queue item).run.size)
