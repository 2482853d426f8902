-- The rule of a table with a chunk map all of whose segments are open, and with a slot for each chunk. The words stand as in a
-- table with a chunk map alone.
use Rattle.std.specs.Prelude.{ℕ, ◌+◌, ◌*◌, ◌^◌, ◌%◌, ◌≡◌, ◌<◌, ◌⊎◌, length, slice_index, Option}
use Rattle.std.specs.Int.{bit_at, bit_not, w64}
use Rattle.atomic_table.specs.Table.{State, Me, Step}
use Rattle.carried_slots.specs.Carried.{numbers, front}
use Rattle.carried_slots.specs.FreeSlots.{FreeSlots}
use Rattle.unit_model.specs.Sharing.{Owned}
use Rattle.unit_model.specs.Weights.{times}
use Rattle.chunk_map.specs.Rule.{map_words, word_number}
use Rattle.chunk_map.specs.Views.{held_by}
use Rattle.chunk_map.specs.Words.{free_weight}
use Rattle.chunk_map.specs.declared.view.MapEvent.TheVariants.{SawOpen, SawWord, Gained, Missed, Released}
use Rattle.chunk_map.specs.declared.view.MapView.{MapView}
use Rattle.segment_table.specs.Events.{did}

pub record SegHolds {T : Type 0} (segments : ℕ) (s : State (Option T) MapView) : Type 0 where
  pub wide : length s.words ≡ 16 * (segments + 1)
  -- all segments are open
  pub all : slice_index s.words 0 ≡ segments
  -- each chunk is free, or with exactly one seat
  pub owned : Owned held_by (free_weight (map_words s.words) (640 * segments)) (640 * segments) s.views
  -- the slot of a free chunk is at home and empty
  pub free : FreeSlots (640 * segments) (map_words s.words) s.homes

-- ---- what the steps tell

-- the number of open segments was loaded
abbrev pub SeesOpen : {T : Type 0} → Step (Option T) → Me (Option T) MapView → ℕ → Me (Option T) MapView → Type 0
SeesOpen st m found m' = (found ≡ m.0.segments) × (m' ≡ did (SawOpen found) m)

-- a word of the map was loaded
abbrev pub SeesWord : {T : Type 0} → Step (Option T) → Me (Option T) MapView → ℕ → Me (Option T) MapView → Type 0
SeesWord st m found m' = m' ≡ did (SawWord (word_number st.word) found) m

-- a slot came to the front
abbrev pub Brings : ℕ → {T : Type 0} → Step (Option T) → Me (Option T) MapView → ℕ → Me (Option T) MapView → Type 0
Brings chunk st m found m' = m' ≡ (m.0, front chunk m.1)

-- a bit was cleared: the chunk is gained with its slot where the bit was set, and missed where it wasn't
abbrev pub TakesBit : {T : Type 0} → Step (Option T) → Me (Option T) MapView → ℕ → Me (Option T) MapView → Type 0
TakesBit st m found m' = (bit : ℕ) → bit < 64 → st.first ≡ bit_not w64 (1 * 2 ^ bit % 2 ^ 64)
    → ((bit_at found bit ≡ 1) × (times (64 * word_number st.word + bit) (numbers m.1) ≡ 0) × (m' ≡ did (Gained (64 * word_number st.word + bit)) m))
    ⊎ ((bit_at found bit ≡ 0) × (m' ≡ did (Missed (64 * word_number st.word + bit)) m))

-- a bit was set: the chunk is given back with its slot
abbrev pub FreesBit : {T : Type 0} → Step (Option T) → Me (Option T) MapView → ℕ → Me (Option T) MapView → Type 0
FreesBit st m found m' = (bit : ℕ) → bit < 64 → st.first ≡ 1 * 2 ^ bit % 2 ^ 64 → m' ≡ did (Released (64 * word_number st.word + bit)) m
