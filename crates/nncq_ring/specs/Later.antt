-- What stays true of a ring's words while others step.
use Rattle.std.specs.Prelude.{ℕ, ◌+◌, ◌/◌, ◌%◌, ◌≡◌, ◌⊎◌, ◌≤◌, ◌<◌}
use Rattle.nncq_ring.specs.Words.{Words, entry_of, logical_tail}

-- Head, tail and logical tail never fall. An entry seen with its place's cycle stays until the head has passed the place, and
-- one seen with the cycle before stays until the place is filled.
pub record Later (n : ℕ) (w w' : Words) : Type 0 where
  pub head : w.head ≤ w'.head
  pub tail : w.tail ≤ w'.tail
  pub next : logical_tail n w ≤ logical_tail n w'
  pub filled : (p : ℕ) → w.entry (p % n) / n ≡ p / n → (w'.entry (p % n) ≡ w.entry (p % n)) ⊎ (p < w'.head)
  pub vacant : (p : ℕ) → w.entry (p % n) / n + 1 ≡ p / n → (w'.entry (p % n) ≡ w.entry (p % n)) ⊎ (p < logical_tail n w')

-- The ring began at this place: the tail is from there on, and a slot that wasn't filled since has its first entry, that of
-- value 0 at its place before the start.
pub record Begun (n start : ℕ) (w : Words) : Type 0 where
  pub tail : start ≤ w.tail
  pub entries : (place : ℕ) → place < start → start ≤ place + n → (w.entry (place % n) ≡ entry_of n place 0) ⊎ (place + n < logical_tail n w)
