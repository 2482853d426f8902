-- What a seat's events, newest first, say of chunks. The events since the newest load of the open word are those of one
-- search.
use Rattle.std.specs.Prelude.{ℕ, ◌/◌, ◌%◌, ◌≡◌, ◌==◌, ◌||◌, not, Bool, true, false, if◌then◌else◌, List, [], ◌∷◌}
use Rattle.std.specs.Int.{bit_at}
use Rattle.chunk_map.specs.declared.view.MapEvent.{MapEvent}
use Rattle.chunk_map.specs.declared.view.MapEvent.TheVariants.{SawOpen, SawWord, Gained, Missed, Released, OpenedTo, FoundOpen}

-- the newest number of open segments, which is at least 1
abbrev pub open_seen : List MapEvent → ℕ
open_seen [] = 1
open_seen (SawOpen count ∷ events) = count
open_seen (SawWord number found ∷ events) = open_seen events
open_seen (Gained chunk ∷ events) = open_seen events
open_seen (Missed chunk ∷ events) = open_seen events
open_seen (Released chunk ∷ events) = open_seen events
open_seen (OpenedTo count ∷ events) = count
open_seen (FoundOpen count ∷ events) = count

-- the search gained the chunk
abbrev pub was_gained : List MapEvent → ℕ → Bool
was_gained [] chunk = false
was_gained (SawOpen count ∷ events) chunk = false
was_gained (SawWord number found ∷ events) chunk = was_gained events chunk
was_gained (Gained other ∷ events) chunk = if other == chunk then true else was_gained events chunk
was_gained (Missed other ∷ events) chunk = was_gained events chunk
was_gained (Released other ∷ events) chunk = was_gained events chunk
was_gained (OpenedTo count ∷ events) chunk = was_gained events chunk
was_gained (FoundOpen count ∷ events) chunk = was_gained events chunk

-- The search's last look at the chunk found it free. A look is a load of the chunk's word, or a try to take its bit. A chunk
-- that the search gained counts as found free from then on, also after it was given back.
abbrev pub seen_free : List MapEvent → ℕ → Bool
seen_free [] chunk = false
seen_free (SawOpen count ∷ events) chunk = false
seen_free (SawWord number found ∷ events) chunk = if chunk / 64 == number then bit_at found (chunk % 64) == 1 || was_gained events chunk else seen_free events chunk
seen_free (Gained other ∷ events) chunk = if other == chunk then true else seen_free events chunk
seen_free (Missed other ∷ events) chunk = if other == chunk then was_gained events chunk else seen_free events chunk
seen_free (Released other ∷ events) chunk = seen_free events chunk
seen_free (OpenedTo count ∷ events) chunk = seen_free events chunk
seen_free (FoundOpen count ∷ events) chunk = seen_free events chunk

-- the search looked at the chunk
abbrev pub was_looked : List MapEvent → ℕ → Bool
was_looked [] chunk = false
was_looked (SawOpen count ∷ events) chunk = false
was_looked (SawWord number found ∷ events) chunk = if chunk / 64 == number then true else was_looked events chunk
was_looked (Gained other ∷ events) chunk = if other == chunk then true else was_looked events chunk
was_looked (Missed other ∷ events) chunk = if other == chunk then true else was_looked events chunk
was_looked (Released other ∷ events) chunk = was_looked events chunk
was_looked (OpenedTo count ∷ events) chunk = was_looked events chunk
was_looked (FoundOpen count ∷ events) chunk = was_looked events chunk

-- the search's looks allow that the chunk is free: it found it so, or didn't look
abbrev pub may_be_free : List MapEvent → ℕ → Bool
may_be_free events chunk = not (was_looked events chunk) || seen_free events chunk

-- The events are those before a search, then its load of the open word, which gave this number, and then the search's others,
-- none of which is such a load or an exchange of that word.
abbrev pub Searched : ℕ → List MapEvent → List MapEvent → Type 0
Searched opened before [] = ⊥
Searched opened before (SawOpen count ∷ events) = (count ≡ opened) × (events ≡ before)
Searched opened before (SawWord number found ∷ events) = Searched opened before events
Searched opened before (Gained chunk ∷ events) = Searched opened before events
Searched opened before (Missed chunk ∷ events) = Searched opened before events
Searched opened before (Released chunk ∷ events) = Searched opened before events
Searched opened before (OpenedTo count ∷ events) = ⊥
Searched opened before (FoundOpen count ∷ events) = ⊥

-- a search among so many open segments has begun, and has looked at no chunk yet
pub record Begins (opened : ℕ) (log : List MapEvent) : Type 0 where
  pub count : open_seen log ≡ opened
  pub gained : (chunk : ℕ) → was_gained log chunk ≡ false
  pub seen : (chunk : ℕ) → seen_free log chunk ≡ false
  pub looked : (chunk : ℕ) → was_looked log chunk ≡ false
