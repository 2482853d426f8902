-- What the chunks that seats own weigh.
use Rattle.std.specs.Prelude.{ℕ, Bool, true, false, cond, List, length, get_or}
use Rattle.std.specs.List.{range_with_len}
use Rattle.unit_model.specs.Core.{chunk_number}
use Rattle.unit_model.specs.Runs.{chunks_for}
use Rattle.unit_model.specs.Weights.{below}
use Rattle.unit_model.specs.declared.machine.Owner.{Owner}
use Rattle.unit_model.specs.declared.machine.Owner.TheVariants.{Free, Seat, Message}
use Rattle.unit_model.specs.declared.runs.Run.{Run}

-- a seat owns the chunk
abbrev pub is_seats : Owner → Bool
is_seats Free = false
is_seats (Seat k) = true
is_seats (Message queue item) = false

-- by any weight of chunk numbers, what the chunks that seats own weigh
abbrev pub seat_weight : List Owner → (ℕ → ℕ) → ℕ
seat_weight owners f =
    below (λ number. cond (is_seats (get_or owners number Free)) (f number) 0) (length owners)

-- the numbers, over all segments, of the run's chunks
abbrev pub run_numbers : Run → List ℕ
run_numbers run = range_with_len (chunk_number run.segment run.chunk) (chunks_for run.size)
