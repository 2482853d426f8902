-- What a seat knows after it gained neighbouring chunks one by one, or gave them back. `after e v` is what the event e makes of the
-- view v; views are of any type, and a log of events is one of them.
use Rattle.std.specs.Prelude.{ℕ, zero, suc, ◌+◌, ◌≡◌, List, [], ◌∷◌, true}
use Rattle.chunk_map.specs.Looks.{open_seen, was_looked, Searched}
use Rattle.chunk_map.specs.declared.view.MapEvent.{MapEvent}
use Rattle.chunk_map.specs.declared.view.MapEvent.TheVariants.{Gained, Missed, Released}

-- n chunks from this one on, gained upwards
abbrev pub gained : {V : Type 0} → (MapEvent → V → V) → ℕ → ℕ → V → V
gained after first zero v = v
gained after first (suc n) v = after (Gained (first + n)) (gained after first n v)

-- n chunks from this one on, given back downwards
abbrev pub given_back : {V : Type 0} → (MapEvent → V → V) → ℕ → ℕ → V → V
given_back after first zero v = v
given_back after first (suc n) v = given_back after first n (after (Released (first + n)) v)

-- n chunks gained, the next one missed, and those gained given back
abbrev pub tried : {V : Type 0} → (MapEvent → V → V) → ℕ → ℕ → V → V
tried after first n v = given_back after first n (after (Missed (first + n)) (gained after first n v))

-- one event more in a log
abbrev pub more : MapEvent → List MapEvent → List MapEvent
more e log = e ∷ log

-- what several events, newest first, make of a view
abbrev pub with_events : {V : Type 0} → (MapEvent → V → V) → List MapEvent → V → V
with_events after [] v = v
with_events after (e ∷ es) v = after e (with_events after es v)

-- the second view is what some events made of the first
abbrev pub Steps : {V : Type 0} → (MapEvent → V → V) → V → V → Type 0
Steps after v v' = (events : List MapEvent) × (v' ≡ with_events after events v)

-- the search that was under way goes on
pub record SameSearch (log log' : List MapEvent) : Type 0 where
  pub opened : open_seen log' ≡ open_seen log
  pub looked : (chunk : ℕ) → was_looked log chunk ≡ true → was_looked log' chunk ≡ true
  pub searched : (count : ℕ) (before : List MapEvent) → Searched count before log → Searched count before log'
