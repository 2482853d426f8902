-- The words of a circular queue of size n as plain numbers. A place p has the slot p % n and the cycle p / n. An entry x has
-- the cycle x / n and the value x % n. Only entries of slots below n count.
use Rattle.std.specs.Prelude.{ℕ, zero, suc, ◌+◌, ◌-◌, ◌*◌, ◌/◌, ◌%◌, ◌≡◌, ◌≢◌, ◌≤◌, ◌<◌, ◌==◌, cond, List, [], ◌∷◌}

pub record Words : Type 0 where
  pub head : ℕ
  pub tail : ℕ
  pub entry : ℕ → ℕ

-- the entry of a value at a place
abbrev pub entry_of : ℕ → ℕ → ℕ → ℕ
entry_of n place value = place / n * n + value

-- the logical tail: the tail, or one more where the entry at the tail's slot has the tail's cycle
abbrev pub logical_tail : ℕ → Words → ℕ
logical_tail n w = cond (w.entry (w.tail % n) / n == w.tail / n) (w.tail + 1) w.tail

-- a logical tail up to one turn above the head, and each of the n places before it has its cycle in its slot
pub record IsWellFormed (n : ℕ) (w : Words) : Type 0 where
  pub size : 0 < n
  pub turned : n ≤ w.head
  pub front : w.head ≤ logical_tail n w
  pub room : logical_tail n w ≤ w.head + n
  pub cycles : (p : ℕ) → p < logical_tail n w → logical_tail n w ≤ p + n → w.entry (p % n) / n ≡ p / n

-- the k places from one on, with their values
abbrev pub places : ℕ → (ℕ → ℕ) → ℕ → ℕ → List (ℕ × ℕ)
places n entry from zero = []
places n entry from (suc k) = (from, entry (from % n) % n) ∷ places n entry (suc from) k

-- the places from the head up to the logical tail, with their values
abbrev pub line_of : ℕ → Words → List (ℕ × ℕ)
line_of n w = places n w.entry w.head (logical_tail n w - w.head)

-- ---- changes, as facts at points

pub record SetsEntry (n : ℕ) (w w' : Words) (slot x : ℕ) : Type 0 where
  pub head : w'.head ≡ w.head
  pub tail : w'.tail ≡ w.tail
  pub here : w'.entry slot ≡ x
  pub others : (j : ℕ) → j < n → j ≢ slot → w'.entry j ≡ w.entry j

pub record SetsTail (n : ℕ) (w w' : Words) (tail' : ℕ) : Type 0 where
  pub head : w'.head ≡ w.head
  pub tail : w'.tail ≡ tail'
  pub entries : (j : ℕ) → j < n → w'.entry j ≡ w.entry j

pub record SetsHead (n : ℕ) (w w' : Words) (head' : ℕ) : Type 0 where
  pub head : w'.head ≡ head'
  pub tail : w'.tail ≡ w.tail
  pub entries : (j : ℕ) → j < n → w'.entry j ≡ w.entry j

-- no word of the ring changed
pub record SameWords (n : ℕ) (w w' : Words) : Type 0 where
  pub head : w'.head ≡ w.head
  pub tail : w'.tail ≡ w.tail
  pub entries : (j : ℕ) → j < n → w'.entry j ≡ w.entry j
