-- Runs in a map's chunks, which are numbered over all segments.
use Rattle.std.specs.Prelude.{ℕ, ◌+◌, ◌*◌, ◌≡◌, ◌≤◌, ◌<◌, Bool, true, List}
use Rattle.unit_model.specs.Limits.{segment_chunks}
use Rattle.std.specs.List.{range_with_len}
use Rattle.unit_model.specs.Runs.{chunks_for}
use Rattle.unit_model.specs.declared.runs.Run.{Run}

-- the numbers of the run's chunks
abbrev pub run_chunks : Run → List ℕ
run_chunks run = range_with_len (segment_chunks * run.segment + run.chunk) (chunks_for run.size)

-- the n chunks from this one of the segment on are all free, and lie in the segment
abbrev pub AreFree : (ℕ → Bool) → ℕ → ℕ → ℕ → Type 0
AreFree free n segment first =
    (first + n ≤ segment_chunks)
    × ((i : ℕ) → i < n → free (segment_chunks * segment + (first + i)) ≡ true)

-- from no chunk of the segment before this one on are n free
abbrev pub NoneBelow : (ℕ → Bool) → ℕ → ℕ → ℕ → Type 0
NoneBelow free n segment first = (chunk : ℕ) → chunk < first → AreFree free n segment chunk → ⊥

-- before this place, by segment and then by chunk, there are nowhere n free ones
abbrev pub IsLowest : (ℕ → Bool) → ℕ → ℕ → ℕ → Type 0
IsLowest free n segment first =
    ((earlier : ℕ) → earlier < segment → NoneBelow free n earlier segment_chunks)
    × NoneBelow free n segment first
