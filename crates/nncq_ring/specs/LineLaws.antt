-- What a won exchange does to the line, as statements.
use Rattle.std.specs.Prelude.{List, ℕ, ◌+◌, ◌/◌, ◌%◌, ◌≡◌, ◌≤◌, ◌<◌, ◌++◌, [], ◌∷◌}
use Rattle.unit_model.specs.Weights.{weigh, below}
use Rattle.nncq_ring.specs.Later.{Later}
use Rattle.nncq_ring.specs.Notes.{EntryNoted, AllNoted}
use Rattle.nncq_ring.specs.declared.view.RingEvent.{RingEvent}
use Rattle.nncq_ring.specs.Words.{Words, entry_of, logical_tail, IsWellFormed, line_of, SameWords, SetsEntry, SetsTail, SetsHead}
use Rattle.nncq_ring.specs.RingWords.{StartsFull, full_line}
use Rattle.nncq_ring.specs.Staying.{RingStays}

-- An entry exchange that found the cycle before that of t, where t was the tail at some earlier time, puts its value last in
-- the line, at t.
abbrev pub EntryExchange : Type 0
EntryExchange = (n t v : ℕ) (w w' : Words) → IsWellFormed n w → t ≤ w.tail → w.entry (t % n) / n + 1 ≡ t / n → v < n → logical_tail n w < w.head + n → SetsEntry n w w' (t % n) (entry_of n t v)
    → IsWellFormed n w' × (logical_tail n w ≡ t) × (w.tail ≡ t) × (logical_tail n w' ≡ t + 1) × (line_of n w' ≡ line_of n w ++ (t, v) ∷ [])

-- A tail exchange to the next place, where the entry at the tail has its cycle, leaves the line.
abbrev pub TailExchange : Type 0
TailExchange = (n : ℕ) (w w' : Words) → IsWellFormed n w → w.entry (w.tail % n) / n ≡ w.tail / n → SetsTail n w w' (w.tail + 1)
    → IsWellFormed n w' × (logical_tail n w' ≡ logical_tail n w) × (line_of n w' ≡ line_of n w)

-- A head exchange to the next place, where the entry at the head has its cycle, takes the first of the line.
abbrev pub HeadExchange : Type 0
HeadExchange = (n : ℕ) (w w' : Words) → IsWellFormed n w → w.entry (w.head % n) / n ≡ w.head / n → SetsHead n w w' (w.head + 1)
    → IsWellFormed n w' × (logical_tail n w' ≡ logical_tail n w) × (line_of n w ≡ (w.head, w.entry (w.head % n) % n) ∷ line_of n w')

-- Each won exchange makes the words later. This holds of one that is lost too, as it changes nothing.
abbrev pub EntryExchangeLater : Type 0
EntryExchangeLater = (n t v : ℕ) (w w' : Words) → IsWellFormed n w → t ≤ w.tail → w.entry (t % n) / n + 1 ≡ t / n → v < n → logical_tail n w < w.head + n → SetsEntry n w w' (t % n) (entry_of n t v) → Later n w w'

abbrev pub TailExchangeLater : Type 0
TailExchangeLater = (n : ℕ) (w w' : Words) → IsWellFormed n w → w.entry (w.tail % n) / n ≡ w.tail / n → SetsTail n w w' (w.tail + 1) → Later n w w'

abbrev pub HeadExchangeLater : Type 0
HeadExchangeLater = (n : ℕ) (w w' : Words) → IsWellFormed n w → w.entry (w.head % n) / n ≡ w.head / n → SetsHead n w w' (w.head + 1) → Later n w w'

-- As long as a number that someone holds isn't in the line, there is room for it: the line and what is held weigh, by any
-- weight, what all numbers below n weigh.
abbrev pub RoomFromOwnership : Type 0
RoomFromOwnership = (n : ℕ) (w : Words) (held : (ℕ → ℕ) → ℕ) → IsWellFormed n w → ((f : ℕ → ℕ) → weigh (λ e. f e.1) (line_of n w) + held f ≡ below f n) → 0 < held (λ v. 1) → logical_tail n w < w.head + n

-- An entry with the cycle before that of h, where h was the head at some earlier time, shows that the line is empty now, at h.
abbrev pub EmptySeen : Type 0
EmptySeen = (n h : ℕ) (w : Words) → IsWellFormed n w → h ≤ w.head → w.entry (h % n) / n + 1 ≡ h / n → (w.head ≡ h) × (logical_tail n w ≡ h) × (line_of n w ≡ [])

-- An entry with the cycle of t shows that the logical tail is above t.
abbrev pub FullSeen : Type 0
FullSeen = (n t : ℕ) (w : Words) → IsWellFormed n w → w.entry (t % n) / n ≡ t / n → t < logical_tail n w

-- Where the tail is t and the logical tail is above it, the entry at t has its cycle: so the tail may move on.
abbrev pub MayHelp : Type 0
MayHelp = (n t : ℕ) (w : Words) → w.tail ≡ t → t < logical_tail n w → w.entry (w.tail % n) / n ≡ w.tail / n

-- A head that is its earlier value still has the entry that was seen there with its cycle.
abbrev pub MayTake : Type 0
MayTake = (n h x : ℕ) (w : Words) → w.head ≡ h → x / n ≡ h / n → EntryNoted n w h x → (w.entry (w.head % n) ≡ x) × (w.entry (w.head % n) / n ≡ w.head / n)

-- A ring at its start, with the cycle of each of the n places before it, is empty, and its logical tail is the start.
abbrev pub Starts : Type 0
Starts = (n : ℕ) (w : Words) → 0 < n → n ≤ w.head → w.tail ≡ w.head → ((p : ℕ) → p < w.head → w.head ≤ p + n → w.entry (p % n) / n ≡ p / n) → IsWellFormed n w × (line_of n w ≡ []) × (logical_tail n w ≡ w.head)

-- A ring that starts full has all values in ascending order from the start on.
abbrev pub StartsInOrder : Type 0
StartsInOrder = (n start : ℕ) (w : Words) → 0 < n → n ≤ start → StartsFull n start w → IsWellFormed n w × (logical_tail n w ≡ start + n) × (line_of n w ≡ full_line start n)

-- Where no word of the ring changed, all of it stays.
abbrev pub SameWordsStay : Type 0
SameWordsStay = (n : ℕ) (w w' : Words) → IsWellFormed n w → SameWords n w w' → RingStays n w w'

-- Notes stay true.
abbrev pub NotesStay : Type 0
NotesStay = (n : ℕ) (w w' : Words) (log : List RingEvent) → Later n w w' → AllNoted n w log → AllNoted n w' log

-- An entry that is read now is noted.
abbrev pub LookNoted : Type 0
LookNoted = (n place : ℕ) (w : Words) → IsWellFormed n w → EntryNoted n w place (w.entry (place % n))
