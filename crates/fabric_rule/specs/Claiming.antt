-- Claims and releases of single chunks, as statements: what a seat has to have seen and to have,
-- what its view and its slots are afterwards, and which step of the machine it is. Chunks of a
-- side's segments are numbered from 0.
use Rattle.std.specs.Prelude.{ℕ, ◌+◌, ◌*◌, ◌/◌, ◌%◌, ◌≡◌, ◌≢◌, ◌<◌, ◌==◌, if◌then◌else◌, Bool, true, false, [], ◌∷◌, List, Option, Some, None, length}
use mathlib.Core.Option.{some}
use lib.ListN.{get_elem?}
use Rattle.atomic_table.specs.Table.{Me, State, Valid, carried_after, stepped, takes}
use Rattle.carried_slots.specs.Acts.{becomes}
use Rattle.carried_slots.specs.Carried.{but, content}
use Rattle.chunk_map.specs.Words.{SetsBit, is_free}
use Rattle.chunk_map.specs.declared.view.MapEvent.TheVariants.{Gained, Missed, Released}
use Rattle.request_context.specs.declared.piece.Parcel.{Parcel}
use Rattle.unit_model.specs.Limits.{segment_chunks}
use Rattle.unit_model.specs.Shapes.{role_in}
use Rattle.unit_model.specs.Weights.{without_first}
use Rattle.unit_model.specs.declared.machine.Step.TheVariants.{Claim, Release}
use Rattle.unit_model.specs.declared.shape.Shape.{Shape}
use Rattle.unit_types.specs.declared.message.Reply.{Reply}
use Rattle.unit_types.specs.declared.message.Request.{Request}
use Rattle.fabric_words.specs.Offsets.{offset_of, word_in}
use Rattle.fabric_words.specs.Places.{map_of, segments_of}
use Rattle.fabric_words.specs.declared.place.Place.{Place}
use Rattle.fabric_words.specs.declared.place.Place.TheVariants.{Chunks}
use Rattle.fabric_rule.specs.Contents.{CarriesSlots}
use Rattle.fabric_rule.specs.Looks.{map_word}
use Rattle.fabric_rule.specs.Rule.{FabricHolds}
use Rattle.fabric_rule.specs.Steps.{IsMachineStep, IsNoStep}
use Rattle.fabric_rule.specs.Told.{Moment}
use Rattle.fabric_rule.specs.Views.{logged, open_noted}
use Rattle.fabric_rule.specs.declared.event.FabricEvent.TheVariants.{AtMap}
use Rattle.fabric_rule.specs.declared.event.Segments.{Segments}
use Rattle.fabric_rule.specs.declared.event.Segments.TheVariants.{Out, Back}
use Rattle.fabric_rule.specs.declared.view.FabricView.{FabricView}

-- ---- segments of a side

-- engines take chunks of the one side, workers of the other
abbrev pub own_segments : Shape → ℕ → Segments
own_segments shape seat = if role_in shape seat == 0 then Out else Back

-- how many there are
abbrev pub side_segments : Shape → Segments → ℕ
side_segments shape Out = shape.out_segments
side_segments shape Back = shape.back_segments

-- the number over both sides of a segment, and of a chunk
abbrev pub segment_in : Shape → Segments → ℕ → ℕ
segment_in shape Out segment = segment
segment_in shape Back segment = shape.out_segments + segment

abbrev pub chunk_in : Shape → Segments → ℕ → ℕ
chunk_in shape Out chunk = chunk
chunk_in shape Back chunk = segment_chunks * shape.out_segments + chunk

-- the map word that has the chunk's bit, which is bit chunk % 64
abbrev pub word_of_chunk : Shape → Segments → ℕ → Place
word_of_chunk shape segments chunk = Chunks (map_word shape segments (chunk / 64))

-- the chunk's bit is set
abbrev pub is_free_now : {S V : Type 0} → Shape → State S V → Segments → ℕ → Bool
is_free_now shape s segments chunk =
    is_free (map_of (word_in shape s.words)) (chunk_in shape segments chunk)

-- ---- a chunk is claimed

-- The seat has a work, and the chunk is in a segment of its side that it saw open.
pub record MayClaim (shape : Shape) (v : FabricView) (segments : Segments) (chunk : ℕ) : Type 0 where
  pub busy : v.works ≢ []
  pub own : segments ≡ own_segments shape v.seat
  pub there : chunk < segment_chunks * side_segments shape segments
  pub opened : chunk / segment_chunks < open_noted segments v

abbrev pub with_chunk : Shape → Segments → ℕ → FabricView → FabricView
with_chunk shape segments chunk v = record v {
  chunks = chunk_in shape segments chunk ∷ v.chunks;
  log = AtMap segments (Gained chunk) ∷ v.log;
}

-- The chunk is the seat's, with its slot, which was at home and empty and stands in front.
pub record ChunkComes {H : Type 0} (reply_of : List ℕ → Request → Reply) (shape : Shape) (s : State (Option (Parcel H)) FabricView) (holds : FabricHolds reply_of shape s) (id : ℕ) (v : FabricView) (carried : List (ℕ × Option (Parcel H))) (segments : Segments) (chunk x : ℕ) : Type 0 where
  pub valid : Valid s.homes carried (takes (chunk_in shape segments chunk) None)
  pub carries : CarriesSlots (v, carried)
      → CarriesSlots (with_chunk shape segments chunk v, (chunk_in shape segments chunk, None) ∷ carried)
  pub step : IsMachineStep reply_of shape s holds (Claim v.seat (segment_in shape segments (chunk / segment_chunks)) (chunk % segment_chunks))
      (stepped s (offset_of shape (word_of_chunk shape segments chunk)) x id carried (with_chunk shape segments chunk v) (takes (chunk_in shape segments chunk) None))

-- Claim: the chunk's bit was set, and is cleared.
abbrev pub ClaimLaw : (H : Type 0) → Type 0
ClaimLaw H = (reply_of : List ℕ → Request → Reply) (shape : Shape) (s : State (Option (Parcel H)) FabricView)
    (holds : FabricHolds reply_of shape s) (id : ℕ) (v : FabricView) (carried : List (ℕ × Option (Parcel H)))
    → get_elem? s.views id ≡ some v
    → (segments : Segments) (chunk : ℕ) → MayClaim shape v segments chunk
    → is_free_now shape s segments chunk ≡ true
    → (x : ℕ) → SetsBit (word_in shape s.words (word_of_chunk shape segments chunk)) x (chunk % 64) 0
    → ChunkComes reply_of shape s holds id v carried segments chunk x

-- ---- a chunk is given back

abbrev pub without_chunk : Shape → Segments → ℕ → FabricView → FabricView
without_chunk shape segments chunk v = record v {
  chunks = without_first (λ other. other == chunk_in shape segments chunk) v.chunks;
  log = AtMap segments (Released chunk) ∷ v.log;
}

-- The slot of the chunk, which is empty, goes home.
pub record ChunkGoes {H : Type 0} (reply_of : List ℕ → Request → Reply) (shape : Shape) (s : State (Option (Parcel H)) FabricView) (holds : FabricHolds reply_of shape s) (id : ℕ) (v : FabricView) (carried : List (ℕ × Option (Parcel H))) (segments : Segments) (chunk x : ℕ) : Type 0 where
  pub valid : Valid s.homes carried (becomes carried (but (chunk_in shape segments chunk) carried))
  pub given : carried_after carried (becomes carried (but (chunk_in shape segments chunk) carried)) ≡ but (chunk_in shape segments chunk) carried
  pub carries : CarriesSlots (without_chunk shape segments chunk v, but (chunk_in shape segments chunk) carried)
  pub step : IsMachineStep reply_of shape s holds (Release v.seat (segment_in shape segments (chunk / segment_chunks)) (chunk % segment_chunks))
      (stepped s (offset_of shape (word_of_chunk shape segments chunk)) x id carried (without_chunk shape segments chunk v) (becomes carried (but (chunk_in shape segments chunk) carried)))

-- Release: the seat carries the chunk's slot, which is empty, and its bit is set.
abbrev pub ReleaseLaw : (H : Type 0) → Type 0
ReleaseLaw H = (reply_of : List ℕ → Request → Reply) (shape : Shape) (s : State (Option (Parcel H)) FabricView)
    (holds : FabricHolds reply_of shape s) (id : ℕ) (v : FabricView) (carried : List (ℕ × Option (Parcel H)))
    → length s.homes ≡ segment_chunks * segments_of shape
    → get_elem? s.views id ≡ some v → CarriesSlots (v, carried)
    → (segments : Segments) (chunk : ℕ) → content carried (chunk_in shape segments chunk) ≡ Some None
    → (x : ℕ) → SetsBit (word_in shape s.words (word_of_chunk shape segments chunk)) x (chunk % 64) 1
    → ChunkGoes reply_of shape s holds id v carried segments chunk x

-- ---- what they tell

-- the bit was set: the chunk is the seat's, with its empty slot in front; or it wasn't
pub record Claims (H : Type 0) (reply_of : List ℕ → Request → Reply) (shape : Shape) (id : ℕ) (segments : Segments) (chunk : ℕ) (me : Me (Option (Parcel H)) FabricView) (gained : Bool) (me' : Me (Option (Parcel H)) FabricView) : Type 0 where
  pub moment : Moment H reply_of shape id me.0 me'.0
  pub was : is_free_now shape moment.before segments chunk ≡ gained
  pub won : gained ≡ true → me'.0 ≡ with_chunk shape segments chunk me.0
  pub slot : gained ≡ true → me'.1 ≡ (chunk_in shape segments chunk, None) ∷ me.1
  pub step : gained ≡ true
      → IsMachineStep reply_of shape moment.before moment.holds (Claim me.0.seat (segment_in shape segments (chunk / segment_chunks)) (chunk % segment_chunks)) moment.after
  pub missed : gained ≡ false → me'.0 ≡ logged (AtMap segments (Missed chunk)) me.0
  pub same_slots : gained ≡ false → me'.1 ≡ me.1
  pub none : gained ≡ false → IsNoStep reply_of shape moment.before moment.holds moment.after

-- the chunk is free again, and its slot at home
pub record Releases (H : Type 0) (reply_of : List ℕ → Request → Reply) (shape : Shape) (id : ℕ) (segments : Segments) (chunk : ℕ) (me me' : Me (Option (Parcel H)) FabricView) : Type 0 where
  pub moment : Moment H reply_of shape id me.0 me'.0
  pub given : me'.0 ≡ without_chunk shape segments chunk me.0
  pub slots : me'.1 ≡ but (chunk_in shape segments chunk) me.1
  pub step : IsMachineStep reply_of shape moment.before moment.holds (Release me.0.seat (segment_in shape segments (chunk / segment_chunks)) (chunk % segment_chunks)) moment.after
