-- The head block at the front of the bytes (RFC 9112, sections 2.1 and 2.2).
use Rattle.std.specs.Prelude.{ℕ, ◌+◌, Bool, true, false, ◌||◌, List, [], ◌∷◌, length, take, drop, nat_le, ◌==◌, IsTrue, Option, Some, None, if◌then◌else◌, bytes_eq}
use Rattle.std.specs.Option.{option_map}
use Rattle.httparse.specs.Ascii.{carriage_return}
use Rattle.unit_types.specs.Limits.{head_limit}
use Rattle.http_front.specs.Head.{lines_in}

-- an empty line: nothing, or a CR alone, before its LF
abbrev pub is_empty_line : List ℕ → Bool
is_empty_line line = length line == 0 || bytes_eq line (carriage_return ∷ [])

-- how many bytes the empty lines at the front have. A server drops them (RFC 9112, section 2.2).
abbrev pub blank_step : Bool → ℕ → ℕ → ℕ
blank_step true line rest = line + 1 + rest
blank_step false line rest = 0

abbrev pub blank_in : List (List ℕ) → ℕ
blank_in [] = 0
blank_in (line ∷ lines) = blank_step (is_empty_line line) (length line) (blank_in lines)

unfoldable pub blank_len : List ℕ → ℕ
blank_len bytes = blank_in (lines_in bytes)

-- how many bytes the head block has, which runs to the end of the first empty line, if it is whole
abbrev pub block_step : Bool → ℕ → Option ℕ → Option ℕ
block_step true line rest = Some (line + 1)
block_step false line rest = option_map (λ n. line + 1 + n) rest

abbrev pub block_in : List (List ℕ) → Option ℕ
block_in [] = None
block_in (line ∷ lines) = block_step (is_empty_line line) (length line) (block_in lines)

unfoldable pub block_len : List ℕ → Option ℕ
block_len bytes = block_in (lines_in bytes)

-- what stands at the front of bytes that begin with no empty line
pub data Front : Type 0 where
  unready : Front
  too_long : Front
  block : ℕ → Front

-- the block ends within the limit, or the limit's bytes hold no whole block, or more bytes are needed to tell
abbrev pub front_found : ℕ → List ℕ → Option ℕ → Front
front_found limit bytes None = if nat_le limit (length bytes) then too_long else unready
front_found limit bytes (Some n) = block n

unfoldable pub front_of : ℕ → List ℕ → Front
front_of limit bytes = front_found limit bytes (block_len (take limit bytes))

abbrev pub is_ready : Front → Bool
is_ready unready = false
is_ready too_long = true
is_ready (block n) = true

-- the head is complete: behind the empty lines stands a whole head block within the limit, or the limit's bytes hold none
abbrev pub head_begun : List ℕ → Bool
head_begun bytes = is_ready (front_of head_limit (drop (blank_len bytes) bytes))

abbrev pub HeadBegun : List ℕ → Type 0
HeadBegun bytes = IsTrue (head_begun bytes)
