-- The words in which an item carries its run of chunks and its part.
use Rattle.std.specs.Prelude.{ℕ, ◌+◌, ◌*◌, ◌/◌, ◌%◌, ◌^◌, ◌&&◌, nat_lt, nat_le, Bool, if◌then◌else◌, Option, Some, None}
use Rattle.unit_model.specs.Limits.{most_segments, segment_chunks}
use Rattle.unit_model.specs.Runs.{chunks_for}
use Rattle.unit_model.specs.Weights.{one_if}
use Rattle.unit_model.specs.declared.runs.Run.{Run}

-- the run word: the segment in the highest 16 bits, then the chunk in 16, then the size in 32
abbrev pub pack_of : Run → ℕ
pack_of run = run.segment * 2 ^ 48 + run.chunk * 2 ^ 32 + run.size

-- the numbers that a run word is made of
abbrev pub numbers_of : ℕ → Run
numbers_of word = record { segment = word / 2 ^ 48; chunk = word / 2 ^ 32 % 2 ^ 16; size = word % 2 ^ 32 }

-- there can be such a segment, and the chunks end within it
abbrev pub is_in_segment : Run → Bool
is_in_segment run =
    nat_lt run.segment (2 * most_segments)
    && (nat_lt run.chunk segment_chunks && nat_le (run.chunk + chunks_for run.size) segment_chunks)

-- the run of a word, where the word is that of a run within a segment
unfoldable pub unpack_of : ℕ → Option Run
unpack_of word = if is_in_segment (numbers_of word) then Some (numbers_of word) else None

-- the part word: the part's number, and in the lowest bit whether it is the last
abbrev pub part_word_of : ℕ → Bool → ℕ
part_word_of part last = 2 * part + one_if last
