-- The rule of a chunk map's table. Table word 0 is the number of open segments. The ten words of segment s stand from table
-- word 16 * (s + 1) on, so that no two of these lie within 128 bytes of each other.
use Rattle.std.specs.Prelude.{ℕ, ◌+◌, ◌-◌, ◌*◌, ◌/◌, ◌%◌, ◌^◌, ◌≡◌, ◌≤◌, ◌<◌, ◌⊎◌, length, slice_index, List}
use Rattle.unit_model.specs.Limits.{segment_chunks}
use Rattle.std.specs.Int.{bit_at, bit_not, w64}
use Rattle.atomic_table.specs.Table.{State, Me, Step}
use Rattle.unit_model.specs.Sharing.{Owned}
use Rattle.chunk_map.specs.Parts.{OpenPart, OpeningsCounted}
use Rattle.chunk_map.specs.Views.{held_by, open_noted, openings_of, after, does, opening}
use Rattle.chunk_map.specs.Words.{free_weight}
use Rattle.chunk_map.specs.declared.view.MapEvent.TheVariants.{SawOpen, SawWord, Gained, Missed, Released}
use Rattle.chunk_map.specs.declared.view.MapView.{MapView}

-- where the map's word stands in the table, and back
abbrev pub table_index : ℕ → ℕ
table_index number = 16 * (number / 10 + 1) + number % 10

abbrev pub word_number : ℕ → ℕ
word_number index = 10 * (index / 16 - 1) + index % 16

abbrev pub map_words : List ℕ → ℕ → ℕ
map_words words number = slice_index words (table_index number)

pub record MapHolds {S : Type 0} (segments : ℕ) (s : State S MapView) : Type 0 where
  pub wide : length s.words ≡ 16 * (segments + 1)
  pub opened : OpenPart segments open_noted (slice_index s.words 0) (map_words s.words) s.views
  pub counted : OpeningsCounted openings_of (slice_index s.words 0) s.views
  -- each chunk is free, or with exactly one seat
  pub owned : Owned held_by (free_weight (map_words s.words) (segment_chunks * segments))
      (segment_chunks * segments) s.views

-- ---- what the steps tell

-- the number of open segments was loaded
abbrev pub SeesOpen : {S : Type 0} → Step S → Me S MapView → ℕ → Me S MapView → Type 0
SeesOpen st m found m' = (m'.1 ≡ m.1) × (m'.0 ≡ does (SawOpen found) m.0) × (1 ≤ found) × (open_noted m.0 ≤ found) × (found ≤ m.0.segments)

-- a word of the map was loaded
abbrev pub SeesWord : {S : Type 0} → Step S → Me S MapView → ℕ → Me S MapView → Type 0
SeesWord st m found m' = (m'.1 ≡ m.1) × (m'.0 ≡ does (SawWord (word_number st.word) found) m.0)

-- a bit was cleared: the chunk is gained where the bit was set, and missed where it wasn't
abbrev pub TakesBit : {S : Type 0} → Step S → Me S MapView → ℕ → Me S MapView → Type 0
TakesBit st m found m' = (m'.1 ≡ m.1) × ((bit : ℕ) → bit < 64 → st.first ≡ bit_not w64 (1 * 2 ^ bit % 2 ^ 64)
    → ((bit_at found bit ≡ 1) × (m'.0 ≡ does (Gained (64 * word_number st.word + bit)) m.0))
    ⊎ ((bit_at found bit ≡ 0) × (m'.0 ≡ does (Missed (64 * word_number st.word + bit)) m.0)))

-- a bit was set: the chunk is given back
abbrev pub FreesBit : {S : Type 0} → Step S → Me S MapView → ℕ → Me S MapView → Type 0
FreesBit st m found m' = (m'.1 ≡ m.1) × ((bit : ℕ) → bit < 64 → st.first ≡ 1 * 2 ^ bit % 2 ^ 64 → m'.0 ≡ does (Released (64 * word_number st.word + bit)) m.0)

-- the number of open segments was exchanged, or another one found
abbrev pub OpensOne : {S : Type 0} → Step S → Me S MapView → ℕ → Me S MapView → Type 0
OpensOne st m found m' = (m'.1 ≡ m.1) × (m'.0 ≡ after (opening st.first st.second found) m.0) × (1 ≤ found) × (open_noted m.0 ≤ found) × (found ≤ m.0.segments)
