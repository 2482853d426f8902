-- Bits of a list of words, counted from bit 0 of the first word on. Bits behind the last word are 0.
use Rattle.std.specs.Prelude.{ℕ, ◌+◌, ◌/◌, ◌%◌, ◌≡◌, ◌<◌, ◌≤◌, List, slice_index}
use Rattle.std.specs.Int.{bit_at}

abbrev pub bit_of : List ℕ → ℕ → ℕ
bit_of words place = bit_at (slice_index words (place / 64)) (place % 64)

-- the n bits from a place on are 1
abbrev pub AllSet : List ℕ → ℕ → ℕ → Type 0
AllSet words place n = (i : ℕ) → i < n → bit_of words (place + i) ≡ 1

-- the bits from one place up to another are 0
abbrev pub NoneSet : List ℕ → ℕ → ℕ → Type 0
NoneSet words from to = (place : ℕ) → from ≤ place → place < to → bit_of words place ≡ 0
