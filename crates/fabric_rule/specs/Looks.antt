-- What seats look at, and what they note of it.
use Rattle.std.specs.Prelude.{ℕ, ◌+◌, ◌*◌, ◌%◌, ◌≡◌, List, Option, set}
use mathlib.Core.Option.{some}
use lib.ListN.{get_elem?}
use Rattle.atomic_table.specs.Table.{State}
use Rattle.app_queue.specs.declared.view.ItemEvent.TheVariants.{RunNoted, PartNoted, TagNoted}
use Rattle.chunk_map.specs.declared.view.MapEvent.TheVariants.{SawOpen, SawWord}
use Rattle.nncq_ring.specs.declared.view.RingEvent.TheVariants.{SawTail, SawHead, SawEntry}
use Rattle.request_context.specs.declared.piece.Parcel.{Parcel}
use Rattle.unit_model.specs.Holding.{items_of}
use Rattle.unit_model.specs.declared.shape.Shape.{Shape}
use Rattle.unit_types.specs.declared.message.Reply.{Reply}
use Rattle.unit_types.specs.declared.message.Request.{Request}
use Rattle.fabric_words.specs.Offsets.{word_in}
use Rattle.fabric_words.specs.Places.{IsThere}
use Rattle.fabric_words.specs.declared.place.Place.{Place}
use Rattle.fabric_words.specs.declared.place.Place.TheVariants as place
use Rattle.fabric_rule.specs.Rule.{FabricHolds}
use Rattle.fabric_rule.specs.Steps.{IsNoStep}
use Rattle.fabric_rule.specs.Views.{logged, word_side}
use Rattle.fabric_rule.specs.declared.event.FabricEvent.{FabricEvent}
use Rattle.fabric_rule.specs.declared.event.FabricEvent.TheVariants.{SawNext, AtRing, AtItem, AtMap}
use Rattle.fabric_rule.specs.declared.event.Segments.{Segments}
use Rattle.fabric_rule.specs.declared.event.Segments.TheVariants.{Out, Back}
use Rattle.fabric_rule.specs.declared.look.Look.{Look}
use Rattle.fabric_rule.specs.declared.look.Look.TheVariants.{Next, Open, Map, Tail, Head, Entry, Tag, Run, Part}
use Rattle.fabric_rule.specs.declared.view.FabricView.{FabricView}

abbrev pub opened_word : Segments → Place
opened_word Out = place.OpenedOut
opened_word Back = place.OpenedBack

-- the word of these segments' map with this number, over all segments
abbrev pub map_word : Shape → Segments → ℕ → ℕ
map_word shape Out number = number
map_word shape Back number = 10 * shape.out_segments + number

-- the word that is looked at
abbrev pub place_of : Shape → Look → Place
place_of shape Next = place.NextStream
place_of shape (Open segments) = opened_word segments
place_of shape (Map segments number) = place.Chunks (map_word shape segments number)
place_of shape (Tail queue side) = place.Tail queue (word_side side)
place_of shape (Head queue side) = place.Head queue (word_side side)
place_of shape (Entry queue side at) = place.Slot queue (word_side side) (at % items_of shape queue)
place_of shape (Tag queue item) = place.Tag queue item
place_of shape (Run queue item) = place.RunWord queue item
place_of shape (Part queue item) = place.PartWord queue item

-- what is noted where the word is x
abbrev pub note_of : Look → ℕ → FabricEvent
note_of Next x = SawNext x
note_of (Open segments) x = AtMap segments (SawOpen x)
note_of (Map segments number) x = AtMap segments (SawWord number x)
note_of (Tail queue side) x = AtRing queue side (SawTail x)
note_of (Head queue side) x = AtRing queue side (SawHead x)
note_of (Entry queue side at) x = AtRing queue side (SawEntry at x)
note_of (Tag queue item) x = AtItem queue (TagNoted item x)
note_of (Run queue item) x = AtItem queue (RunNoted item x)
note_of (Part queue item) x = AtItem queue (PartNoted item x)

-- a load of any word, noted as it was found
abbrev pub LoadLaw : (H : Type 0) → Type 0
LoadLaw H = (reply_of : List ℕ → Request → Reply) (shape : Shape) (s : State (Option (Parcel H)) FabricView)
    (holds : FabricHolds reply_of shape s) (id : ℕ) (v : FabricView)
    → get_elem? s.views id ≡ some v
    → (look : Look) → IsThere shape (place_of shape look)
    → IsNoStep reply_of shape s holds
    (record s { views = set s.views id (logged (note_of look (word_in shape s.words (place_of shape look))) v) })
