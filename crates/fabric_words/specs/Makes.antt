-- Which word each step changes, and to what.
use Rattle.std.specs.Prelude.{ℕ, ◌+◌, ◌*◌, ◌%◌, ◌<◌}
use Rattle.nncq_ring.specs.Words.{entry_of}
use Rattle.port_message.specs.Words.{pack_of}
use Rattle.unit_model.specs.Core.{chunk_number}
use Rattle.unit_model.specs.Holding.{items_of}
use Rattle.unit_model.specs.Limits.{segment_chunks, stream_limit, place_limit}
use Rattle.unit_model.specs.declared.machine.Step.{Step}
use Rattle.unit_model.specs.declared.machine.Step.TheVariants.{Draw, Claim, Release, Open, GetItem, SetRun, SetPart, Arm, Push, Pop, Settle, GiveItem, Abandon}
use Rattle.unit_model.specs.declared.shape.Shape.{Shape}
use Rattle.fabric_words.specs.Places.{HasItem, Sets, SetsChunk, Stays, opened_place, queues_of, segments_of}
use Rattle.fabric_words.specs.declared.place.Place.{Place}
use Rattle.fabric_words.specs.declared.place.Place.TheVariants.{NextStream, Head, Slot, Tag, RunWord, PartWord}
use Rattle.fabric_words.specs.declared.place.Side.{Side}
use Rattle.fabric_words.specs.declared.place.Side.TheVariants.{FreeSide, LineSide}

-- the entry of an item is put at a place of a ring
abbrev pub PutsEntry : Shape → (Place → ℕ) → (Place → ℕ) → ℕ → Side → ℕ → ℕ → Type 0
PutsEntry shape word word' queue side place item =
    Sets shape word word' (Slot queue side (place % items_of shape queue)) (entry_of (items_of shape queue) place item)

-- the words changed as the step changes them: each step changes one word, and Abandon none
abbrev pub Makes : Shape → (Place → ℕ) → (Place → ℕ) → Step → Type 0
Makes shape word word' (Draw seat stream) = Sets shape word word' NextStream (stream + 1)
Makes shape word word' (Claim seat segment chunk) =
    SetsChunk shape word word' (chunk_number segment chunk) 0
Makes shape word word' (Release seat segment chunk) =
    SetsChunk shape word word' (chunk_number segment chunk) 1
Makes shape word word' (Open seat count) =
    Sets shape word word' (opened_place shape seat) (count + 1)
Makes shape word word' (GetItem seat queue item place) =
    Sets shape word word' (Head queue FreeSide) (place + 1)
Makes shape word word' (SetRun seat queue item run) =
    Sets shape word word' (RunWord queue item) (pack_of run)
Makes shape word word' (SetPart seat queue item part) =
    Sets shape word word' (PartWord queue item) part
Makes shape word word' (Arm seat queue item stream) =
    Sets shape word word' (Tag queue item) stream
Makes shape word word' (Push seat queue item place) =
    PutsEntry shape word word' queue LineSide place item
Makes shape word word' (Pop seat queue item place) =
    Sets shape word word' (Head queue LineSide) (place + 1)
Makes shape word word' (Settle seat queue item stream) = Sets shape word word' (Tag queue item) 0
Makes shape word word' (GiveItem seat queue item place) =
    PutsEntry shape word word' queue FreeSide place item
Makes shape word word' (Abandon seat stream) = Stays shape word word'

-- the word that the step changes is there, and can be what it becomes
abbrev pub IsPlaced : Shape → Step → Type 0
IsPlaced shape (Draw seat stream) = stream < stream_limit
IsPlaced shape (Claim seat segment chunk) =
    chunk_number segment chunk < segment_chunks * segments_of shape
IsPlaced shape (Release seat segment chunk) =
    chunk_number segment chunk < segment_chunks * segments_of shape
IsPlaced shape (Open seat count) = Unit {0}
IsPlaced shape (GetItem seat queue item place) = (queue < queues_of shape) × (place < place_limit)
IsPlaced shape (SetRun seat queue item run) = HasItem shape queue item
IsPlaced shape (SetPart seat queue item part) = HasItem shape queue item
IsPlaced shape (Arm seat queue item stream) = HasItem shape queue item
IsPlaced shape (Push seat queue item place) = HasItem shape queue item × (place < place_limit)
IsPlaced shape (Pop seat queue item place) = (queue < queues_of shape) × (place < place_limit)
IsPlaced shape (Settle seat queue item stream) = HasItem shape queue item
IsPlaced shape (GiveItem seat queue item place) = HasItem shape queue item × (place < place_limit)
IsPlaced shape (Abandon seat stream) = Unit {0}
