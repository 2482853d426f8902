-- The numbers that bound a fabric, its chunks and its steps.
use Rattle.std.specs.Prelude.{ℕ, ◌-◌, ◌^◌}
use Rattle.unit_types.specs.Limits.{chunk_size}

-- bytes of a chunk
abbrev pub chunk_bytes : ℕ
chunk_bytes = chunk_size

-- chunks of a segment
abbrev pub segment_chunks : ℕ
segment_chunks = 640

-- items of a queue, segments of a side, engines, and workers, at most
abbrev pub most_items : ℕ
most_items = 16384

abbrev pub most_segments : ℕ
most_segments = 8

abbrev pub most_seats : ℕ
most_seats = 4

-- the last place at which a ring may begin: behind it is room for all items and one more below 2^62
abbrev pub last_start : ℕ
last_start = 2 ^ 62 - 16385

-- streams are below it
abbrev pub stream_limit : ℕ
stream_limit = 2 ^ 62

-- places are below it
abbrev pub place_limit : ℕ
place_limit = 2 ^ 63

-- the numbers of items, and of what else has 32 bits, are below it: it stands for none of them
abbrev pub past_items : ℕ
past_items = 2 ^ 32
