-- The map of one side's segments, as searches are made of its steps: what each event makes of a seat, and what the seat holds of the
-- side. A chunk that is gained comes with its empty slot, and one that is given back takes its empty slot along.
use Rattle.std.specs.Prelude.{ℕ, ◌+◌, ◌*◌, ◌≡◌, ◌≢◌, ◌≤◌, ◌<◌, nat_lt, slice_index, if◌then◌else◌, Bool, true, [], ◌∷◌, List, Option, None}
use mathlib.Core.Path.{ap, refl, ◌∙◌}
use Rattle.std.proofs.lemmas.Bool.{lt-ltb}
use Rattle.atomic_table.specs.Table.{Me}
use Rattle.carried_slots.specs.Carried.{content}
use Rattle.carried_slots.specs.EmptySlots.{empty_weight, without_empty}
use Rattle.carried_slots.specs.Ranges.{weight_within}
use Rattle.carried_slots.specs.RunSlots.{HasEmpty, HasNone, SameElsewhere}
use Rattle.carried_slots.proofs.Ranges.{freed_within, is_inside, within_here}
use Rattle.chunk_map.specs.Claims.{IfFull, IfRun}
use Rattle.chunk_map.specs.Gains.{Steps}
use Rattle.chunk_map.specs.Looks.{Searched, may_be_free, seen_free, was_looked}
use Rattle.chunk_map.specs.Runs.{AreFree, IsLowest}
use Rattle.chunk_map.specs.Showing.{Shows}
use Rattle.chunk_map.specs.declared.search.Claim.{Claim}
use Rattle.chunk_map.specs.declared.view.MapEvent.{MapEvent}
use Rattle.chunk_map.specs.declared.view.MapEvent.TheVariants.{SawOpen, SawWord, Gained, Missed, Released, OpenedTo, FoundOpen}
use Rattle.unit_model.specs.Limits.{segment_chunks}
use Rattle.unit_model.specs.Runs.{HasNoRun, chunks_for}
use Rattle.unit_model.specs.Weights.{is_number}
use Rattle.unit_model.specs.declared.runs.Run.{Run}
use Rattle.unit_model.specs.declared.shape.Shape.{Shape}
use Rattle.fabric_rule.specs.Claiming.{own_segments, side_segments, with_chunk, without_chunk}
use Rattle.fabric_rule.specs.Views.{logged, map_log, open_noted}
use Rattle.fabric_rule.specs.declared.event.FabricEvent.TheVariants.{AtMap}
use Rattle.fabric_rule.specs.declared.event.Segments.{Segments}
use Rattle.fabric_rule.specs.declared.event.Segments.TheVariants.{Out, Back}
use Rattle.fabric_rule.specs.declared.view.FabricView.{FabricView}

-- how many chunks the side has, and its first one's number over both sides
abbrev pub side_chunks : Shape → Segments → ℕ
side_chunks shape segments = segment_chunks * side_segments shape segments

abbrev pub side_first : Shape → Segments → ℕ
side_first shape Out = 0
side_first shape Back = segment_chunks * shape.out_segments

-- the number over both sides of a run's first chunk, where the run's segment is counted in the side
abbrev pub first_in_side : Shape → Segments → Run → ℕ
first_in_side shape segments run = side_first shape segments + (segment_chunks * run.segment + run.chunk)

-- ---- what an event makes of a seat

abbrev pub view_after_map : Shape → Segments → MapEvent → FabricView → FabricView
view_after_map shape segments (SawOpen count) v = logged (AtMap segments (SawOpen count)) v
view_after_map shape segments (SawWord number found) v = logged (AtMap segments (SawWord number found)) v
view_after_map shape segments (Gained chunk) v = with_chunk shape segments chunk v
view_after_map shape segments (Missed chunk) v = logged (AtMap segments (Missed chunk)) v
view_after_map shape segments (Released chunk) v = without_chunk shape segments chunk v
view_after_map shape segments (OpenedTo count) v = logged (AtMap segments (OpenedTo count)) v
view_after_map shape segments (FoundOpen count) v = logged (AtMap segments (FoundOpen count)) v

-- slots are those of the side's chunks
abbrev pub slots_after : {T : Type 0} → Shape → Segments → MapEvent → List (ℕ × Option T) → List (ℕ × Option T)
slots_after shape segments (SawOpen count) c = c
slots_after shape segments (SawWord number found) c = c
slots_after shape segments (Gained chunk) c =
    if nat_lt chunk (side_chunks shape segments) then (side_first shape segments + chunk, None) ∷ c else c
slots_after shape segments (Missed chunk) c = c
slots_after shape segments (Released chunk) c =
    if nat_lt chunk (side_chunks shape segments) then without_empty (side_first shape segments + chunk) c else c
slots_after shape segments (OpenedTo count) c = c
slots_after shape segments (FoundOpen count) c = c

abbrev pub did : {T : Type 0} → Shape → Segments → MapEvent → Me (Option T) FabricView → Me (Option T) FabricView
did shape segments e me = (view_after_map shape segments e me.0, slots_after shape segments e me.1)

-- what the empty slots of the side weigh that a seat carries, counted from its first chunk on
abbrev pub side_weight : {T : Type 0} → Shape → Segments → (ℕ → ℕ) → List (ℕ × Option T) → ℕ
side_weight shape segments f c =
    empty_weight (weight_within (side_first shape segments) (side_chunks shape segments) f) c

-- a seat with a work takes chunks of its own side
pub record MayTakeChunks (shape : Shape) (segments : Segments) (v : FabricView) : Type 0 where
  pub busy : v.works ≢ []
  pub own : segments ≡ own_segments shape v.seat

-- nothing but its chunks and its log is another
abbrev pub with_hand : FabricView → FabricView → FabricView
with_hand u v = record v { chunks = u.chunks; log = u.log }

abbrev pub OnlyChunks : FabricView → FabricView → Type 0
OnlyChunks v u = u ≡ with_hand u v

-- ---- what a claim tells

-- Its looks are a search in the segments that were open by one load. A run is the lowest one that the looks allow, and its
-- slots have come, empty. Full: the looks at all chunks of the open segments have no such run, and the slots are what they were.
pub record ClaimTold {T : Type 0} (shape : Shape) (segments : Segments) (bytes : ℕ) (me : Me (Option T) FabricView) (claim : Claim) (me' : Me (Option T) FabricView) : Type 0 where
  pub steps : Steps (did shape segments) me me'
  pub view : OnlyChunks me.0 me'.0
  pub opened : ℕ
  pub some : (1 ≤ opened) × (open_noted segments me.0 ≤ opened) × (opened ≤ side_segments shape segments)
  pub search : Searched opened (map_log segments me.0.log) (map_log segments me'.0.log)
  pub in_open : IfRun claim (λ run. run.segment < opened) × IfFull claim (λ seen. seen.segments ≡ opened)
  pub run : IfRun claim (λ run. (run.size ≡ bytes)
      × AreFree (seen_free (map_log segments me'.0.log)) (chunks_for bytes) run.segment run.chunk
      × IsLowest (may_be_free (map_log segments me'.0.log)) (chunks_for bytes) run.segment run.chunk)
  pub within : IfRun claim (λ run. segment_chunks * run.segment + run.chunk + chunks_for run.size ≤ side_chunks shape segments)
  pub slots : IfRun claim (λ run. HasNone (first_in_side shape segments run) (chunks_for run.size) me.1
      × HasEmpty (first_in_side shape segments run) (chunks_for run.size) me'.1
      × SameElsewhere (first_in_side shape segments run) (chunks_for run.size) me.1 me'.1)
  pub full : IfFull claim (λ seen. Shows seen.words (map_log segments me'.0.log) × HasNoRun seen (chunks_for bytes))
  pub looked : IfFull claim (λ seen. (chunk : ℕ) → chunk < segment_chunks * seen.segments
      → was_looked (map_log segments me'.0.log) chunk ≡ true)
  pub past : IfFull claim (λ seen. (number : ℕ) → 10 * seen.segments ≤ number → slice_index seen.words number ≡ 0)
  pub kept : IfFull claim (λ seen. (chunk : ℕ) → content me'.1 chunk ≡ content me.1 chunk)

-- ---- laws of these

own_map : (segments : Segments) (e : MapEvent) (v : FabricView) → map_log segments (AtMap segments e ∷ v.log) ≡ e ∷ map_log segments v.log
own_map Out e v = refl
own_map Back e v = refl

pub event_logs : {T : Type 0} (shape : Shape) (segments : Segments) (e : MapEvent) (me : Me (Option T) FabricView) → map_log segments (did shape segments e me).0.log ≡ e ∷ map_log segments me.0.log
event_logs shape segments (SawOpen count) me = own_map segments (SawOpen count) me.0
event_logs shape segments (SawWord number found) me = own_map segments (SawWord number found) me.0
event_logs shape segments (Gained chunk) me = own_map segments (Gained chunk) me.0
event_logs shape segments (Missed chunk) me = own_map segments (Missed chunk) me.0
event_logs shape segments (Released chunk) me = own_map segments (Released chunk) me.0
event_logs shape segments (OpenedTo count) me = own_map segments (OpenedTo count) me.0
event_logs shape segments (FoundOpen count) me = own_map segments (FoundOpen count) me.0

pub gains_one : {T : Type 0} (shape : Shape) (segments : Segments) (f : ℕ → ℕ) (chunk : ℕ) (c : List (ℕ × Option T)) → chunk < side_chunks shape segments
    → side_weight shape segments f (slots_after shape segments (Gained chunk) c) ≡ f chunk + side_weight shape segments f c
gains_one shape segments f chunk c lt =
    ap (λ (b : Bool). side_weight shape segments f (if b then (side_first shape segments + chunk, None) ∷ c else c)) (lt-ltb chunk (side_chunks shape segments) lt)
    ∙ ap (λ (m : ℕ). m + side_weight shape segments f c) (within_here (side_first shape segments) (side_chunks shape segments) f chunk lt)

pub frees_one : {T : Type 0} (shape : Shape) (segments : Segments) (f : ℕ → ℕ) (chunk : ℕ) (c : List (ℕ × Option T)) → 0 < side_weight shape segments (is_number chunk) c
    → side_weight shape segments f (slots_after shape segments (Released chunk) c) + f chunk ≡ side_weight shape segments f c
frees_one shape segments f chunk c mine =
    ap (λ (b : Bool). side_weight shape segments f (if b then without_empty (side_first shape segments + chunk) c else c) + f chunk)
    (lt-ltb chunk (side_chunks shape segments) (is_inside (side_first shape segments) (side_chunks shape segments) chunk c mine))
    ∙ freed_within (side_first shape segments) (side_chunks shape segments) f chunk c mine

pub still_takes : {T : Type 0} (shape : Shape) (segments : Segments) (e : MapEvent) (me : Me (Option T) FabricView) → MayTakeChunks shape segments me.0 → MayTakeChunks shape segments (did shape segments e me).0
still_takes shape segments (SawOpen count) me may = record { busy = may.busy; own = may.own }
still_takes shape segments (SawWord number found) me may = record { busy = may.busy; own = may.own }
still_takes shape segments (Gained chunk) me may = record { busy = may.busy; own = may.own }
still_takes shape segments (Missed chunk) me may = record { busy = may.busy; own = may.own }
still_takes shape segments (Released chunk) me may = record { busy = may.busy; own = may.own }
still_takes shape segments (OpenedTo count) me may = record { busy = may.busy; own = may.own }
still_takes shape segments (FoundOpen count) me may = record { busy = may.busy; own = may.own }
