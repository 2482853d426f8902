-- Bytes in stretches of one length, of which the last is shorter or equal.
use Rattle.std.specs.Prelude.{◌≡◌, ℕ, ◌+◌, ◌-◌, ◌*◌, ◌/◌, ◌<◌, List, [], length, take, drop, min, map, slice_index_or}
use Rattle.std.specs.List.{concat, range_with_len}
use Rattle.unit_types.specs.Limits.{chunk_size}

-- how many stretches there are
unfoldable pub stretch_count : ℕ → List ℕ → ℕ
stretch_count size bytes = (length bytes + (size - 1)) / size

-- the one with this number, from 0
unfoldable pub stretch_of : ℕ → List ℕ → ℕ → List ℕ
stretch_of size bytes number = take size (drop (size * number) bytes)

-- all of them, in order
unfoldable pub stretches_of : ℕ → List ℕ → List (List ℕ)
stretches_of size bytes = map (stretch_of size bytes) (range_with_len 0 (stretch_count size bytes))

-- the bytes of a part of a reply record, of which one message carries one
abbrev pub part_size : ℕ
part_size = 262144

-- the bytes of a piece, of which one chunk holds one
abbrev pub piece_size : ℕ
piece_size = chunk_size

-- a reply record goes in parts
abbrev pub parts_of : List ℕ → List (List ℕ)
parts_of bytes = stretches_of part_size bytes

-- a request record, or a part of a reply record, goes in pieces
abbrev pub pieces_of : List ℕ → List (List ℕ)
pieces_of bytes = stretches_of piece_size bytes

-- ---- what stretches keep

pub record IsCut (size : ℕ) (bytes : List ℕ) (stretches : List (List ℕ)) : Type 0 where
  -- joined they are the bytes
  pub joined : concat stretches ≡ bytes
  -- as many as it takes
  pub count : length stretches ≡ (length bytes + (size - 1)) / size
  -- each begins where the ones before it end
  pub each : (number : ℕ) → number < length stretches → slice_index_or stretches number [] ≡ take size (drop (size * number) bytes)
  -- and has what is left, at most the size
  pub lengths : (number : ℕ) → number < length stretches → length (slice_index_or stretches number []) ≡ min size (length bytes - size * number)
  -- all but the last are full
  pub full : (number : ℕ) → number + 1 < length stretches → length (slice_index_or stretches number []) ≡ size
  -- none is empty
  pub filled : (number : ℕ) → number < length stretches → 0 < length (slice_index_or stretches number [])
