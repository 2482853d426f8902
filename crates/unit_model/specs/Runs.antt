-- Runs of chunks, and what a look at the chunks of a side shows.
use Rattle.std.specs.Prelude.{ℕ, ◌+◌, ◌-◌, ◌*◌, ◌/◌, ◌%◌, ◌<◌, ◌≤◌, List, slice_index}
use Rattle.std.specs.Int.{IsBitSet}
use Rattle.std.specs.List.{range_with_len}
use Rattle.unit_model.specs.Limits.{chunk_bytes, segment_chunks}
use Rattle.unit_model.specs.declared.runs.Run.{Run}
use Rattle.unit_model.specs.declared.runs.Seen.{Seen}

-- how many chunks so many bytes need
abbrev pub chunks_for : ℕ → ℕ
chunks_for size = (size + (chunk_bytes - 1)) / chunk_bytes

-- the numbers, in its segment, of the run's chunks
abbrev pub chunks_of : Run → List ℕ
chunks_of run = range_with_len run.chunk (chunks_for run.size)

-- the last look at the chunk found it free
abbrev pub IsSeenFree : Seen → ℕ → ℕ → Type 0
IsSeenFree seen segment chunk =
    IsBitSet (slice_index seen.words (10 * segment + chunk / 64)) (chunk % 64)

-- in no segment that was looked at did the looks find n chunks after one another free
abbrev pub HasNoRun : Seen → ℕ → Type 0
HasNoRun seen n =
    (segment first : ℕ) → segment < seen.segments → first + n ≤ segment_chunks
    → ((i : ℕ) → i < n → IsSeenFree seen segment (first + i)) → ⊥
