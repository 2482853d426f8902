-- What was so of a ring's words at one step of a seat. `log` is what the seat noted of the ring up to that step, newest first.
use Rattle.std.specs.Prelude.{ℕ, ◌+◌, ◌%◌, ◌≡◌, ◌++◌, List, [], ◌∷◌}
use Rattle.nncq_ring.specs.declared.view.RingEvent.{RingEvent}
use Rattle.nncq_ring.specs.Notes.{AllNoted}
use Rattle.nncq_ring.specs.Words.{Words, entry_of, logical_tail, IsWellFormed, line_of, SetsEntry, SetsHead}

-- The words are well formed, and all that the seat noted is true of them.
pub record Meets (n : ℕ) (log : List RingEvent) (w : Words) : Type 0 where
  pub fine : IsWellFormed n w
  pub noted : AllNoted n w log

-- The place was the tail.
pub record WasTail (n place : ℕ) (log : List RingEvent) : Type 0 where
  pub words : Words
  pub met : Meets n log words
  pub tail : words.tail ≡ place

-- The place was the head.
pub record WasHead (n place : ℕ) (log : List RingEvent) : Type 0 where
  pub words : Words
  pub met : Meets n log words
  pub head : words.head ≡ place

-- The entry at the place's slot was this.
pub record WasEntry (n place found : ℕ) (log : List RingEvent) : Type 0 where
  pub words : Words
  pub met : Meets n log words
  pub entry : words.entry (place % n) ≡ found

-- The place was the logical tail, and the step put the value last in the line, at this place.
pub record PutLast (n place value : ℕ) (log : List RingEvent) : Type 0 where
  pub before : Words
  pub after : Words
  pub met : Meets n log before
  pub tail : logical_tail n before ≡ place
  pub sets : SetsEntry n before after (place % n) (entry_of n place value)
  pub line : line_of n after ≡ line_of n before ++ (place, value) ∷ []

-- The place was the head, and the step took the first of the line, which was this value at this place.
pub record TookFirst (n place value : ℕ) (log : List RingEvent) : Type 0 where
  pub before : Words
  pub after : Words
  pub met : Meets n log before
  pub head : before.head ≡ place
  pub sets : SetsHead n before after (place + 1)
  pub line : line_of n before ≡ (place, value) ∷ line_of n after

-- The place was the head, and the line was empty.
pub record WasEmpty (n place : ℕ) (log : List RingEvent) : Type 0 where
  pub words : Words
  pub met : Meets n log words
  pub head : words.head ≡ place
  pub line : line_of n words ≡ []
