-- What stays of a ring where a step changed none of its words.
use Rattle.std.specs.Prelude.{ℕ, ◌≡◌, List}
use Rattle.nncq_ring.specs.declared.view.RingEvent.{RingEvent}
use Rattle.nncq_ring.specs.Words.{Words, logical_tail, IsWellFormed, line_of}
use Rattle.nncq_ring.specs.Later.{Later}
use Rattle.nncq_ring.specs.Notes.{AllNoted}

-- The ring is well formed, its logical tail and its line are the same, and all notes stay true.
pub record RingStays (n : ℕ) (w w' : Words) : Type 0 where
  pub fine : IsWellFormed n w'
  pub tail : logical_tail n w' ≡ logical_tail n w
  pub line : line_of n w' ≡ line_of n w
  pub later : Later n w w'
  pub noted : (log : List RingEvent) → AllNoted n w log → AllNoted n w' log
