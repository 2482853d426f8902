-- The slots of the free chunks of a map, with what steps do to them, as statements. T is what a filled slot holds.
use Rattle.std.specs.Prelude.{ℕ, ◌≡◌, ◌≢◌, ◌<◌, ◌≤◌, true, List, ◌∷◌, map, length, replicate, Option, Some, None}
use mathlib.Core.Option.{some}
use lib.ListN.{get_elem?}
use Rattle.atomic_table.specs.Table.{Valid, takes, homes_after, carried_after}
use Rattle.unit_model.specs.Weights.{times}
use Rattle.chunk_map.specs.Words.{is_free, Takes, Frees}
use Rattle.carried_slots.specs.Carried.{content, numbers, but, IsDistinct}
use Rattle.carried_slots.specs.Acts.{takes_all, becomes}
use Rattle.carried_slots.specs.SlotLaws.{Becomes, Taken}

-- The slot of a free chunk is at home and empty.
abbrev pub FreeSlots : {T : Type 0} → ℕ → (ℕ → ℕ) → List (mathlib.Core.Option.Option (Option T)) → Type 0
FreeSlots chunks word homes = (chunk : ℕ) → chunk < chunks → is_free word chunk ≡ true → get_elem? homes chunk ≡ some (some None)

-- No slot of a free chunk is carried. It follows where each chunk is free or with one seat.
abbrev pub FreeUncarried : {S : Type 0} → ℕ → (ℕ → ℕ) → List (ℕ × S) → Type 0
FreeUncarried chunks word c = (chunk : ℕ) → chunk < chunks → is_free word chunk ≡ true → times chunk (numbers c) ≡ 0

-- ---- at first

-- where all slots are at home and empty
abbrev pub FreeFirstLaw : Type 0 → Type 0
FreeFirstLaw T = (chunks : ℕ) (word : ℕ → ℕ) → FreeSlots {T = T} chunks word (map some (replicate chunks None))

-- ---- frames

-- No chunk becomes free, and the slots of the free ones are where they were.
abbrev pub FreeStayLaw : Type 0 → Type 0
FreeStayLaw T = (chunks : ℕ) (word word' : ℕ → ℕ) (homes homes' : List (mathlib.Core.Option.Option (Option T)))
    → ((chunk : ℕ) → chunk < chunks → is_free word' chunk ≡ true → (is_free word chunk ≡ true) × (get_elem? homes' chunk ≡ get_elem? homes chunk))
    → FreeSlots chunks word homes → FreeSlots chunks word' homes'

-- What a seat carries becomes some of it.
abbrev pub FreeBecomeLaw : Type 0 → Type 0
FreeBecomeLaw T = (chunks : ℕ) (word : ℕ → ℕ) (homes : List (mathlib.Core.Option.Option (Option T))) (c t : List (ℕ × Option T))
    → FreeUncarried chunks word c → ((k : ℕ) → times k (numbers t) ≤ times k (numbers c)) → Becomes homes c t
    → FreeSlots chunks word homes → FreeSlots chunks word (homes_after homes c (becomes c t))

-- Slots of chunks that aren't free are taken.
abbrev pub FreeTakenLaw : Type 0 → Type 0
FreeTakenLaw T = (chunks : ℕ) (word : ℕ → ℕ) (homes : List (mathlib.Core.Option.Option (Option T))) (c t : List (ℕ × Option T))
    → FreeUncarried chunks word t → Taken homes c t → FreeSlots chunks word homes → FreeSlots chunks word (homes_after homes c (takes_all t))

-- ---- a chunk is gained, and given back

-- A chunk is gained with its slot, which is empty, and no other slot moves.
pub record SlotGained {T : Type 0} (chunks : ℕ) (word' : ℕ → ℕ) (homes : List (mathlib.Core.Option.Option (Option T))) (c : List (ℕ × Option T)) (chunk : ℕ) : Type 0 where
  pub valid : Valid homes c (takes chunk None)
  pub carried : carried_after c (takes chunk None) ≡ (chunk, None) ∷ c
  pub others : (k : ℕ) → k ≢ chunk → get_elem? (homes_after homes c (takes chunk None)) k ≡ get_elem? homes k
  pub free : FreeSlots chunks word' (homes_after homes c (takes chunk None))

abbrev pub SlotGainedLaw : Type 0 → Type 0
SlotGainedLaw T = (chunks : ℕ) (word word' : ℕ → ℕ) (homes : List (mathlib.Core.Option.Option (Option T))) (c : List (ℕ × Option T)) (chunk : ℕ) → chunk < chunks
    → Takes chunks word word' chunk → FreeSlots chunks word homes → SlotGained chunks word' homes c chunk

-- A chunk is given back with its slot, which is empty, and no other slot moves.
pub record SlotGiven {T : Type 0} (chunks : ℕ) (word' : ℕ → ℕ) (homes : List (mathlib.Core.Option.Option (Option T))) (c : List (ℕ × Option T)) (chunk : ℕ) : Type 0 where
  pub turned : Becomes homes c (but chunk c)
  pub free : FreeSlots chunks word' (homes_after homes c (becomes c (but chunk c)))

abbrev pub SlotGivenLaw : Type 0 → Type 0
SlotGivenLaw T = (chunks : ℕ) (word word' : ℕ → ℕ) (homes : List (mathlib.Core.Option.Option (Option T))) (c : List (ℕ × Option T)) (chunk : ℕ)
    → Frees chunks word word' chunk → IsDistinct c → ((k : ℕ) → 0 < times k (numbers c) → k < length homes) → content c chunk ≡ Some None
    → FreeUncarried chunks word c → FreeSlots chunks word homes → SlotGiven chunks word' homes c chunk
