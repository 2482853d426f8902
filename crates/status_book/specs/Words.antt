-- Where the counts stand among the words of the table, and in the list that a look gives.
use Rattle.std.specs.Prelude.{ℕ, ◌+◌, ◌*◌, ◌/◌, ◌%◌}

-- the kinds of counts that each engine has, numbered from 0
abbrev pub kinds : ℕ
kinds = 8

-- the place of a count in the list: the counts of one engine behind those of another
abbrev pub place_of : ℕ → ℕ → ℕ
place_of engine kind = 8 * engine + kind

-- the word of a count: the words of engines are 16 words, which are 128 bytes, apart
abbrev pub word_of : ℕ → ℕ → ℕ
word_of engine kind = 16 * engine + kind

-- the word of the count at a place of the list
abbrev pub word_at : ℕ → ℕ
word_at place = word_of (place / 8) (place % 8)
