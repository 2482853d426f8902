-- The frames of a script: what comes on control connections and on connections of clients.
use Rattle.std.specs.Prelude.{ℕ, ◌-◌, ◌≡◌, ◌&&◌, nat_le, Bool, List, [], ◌∷◌, length, take, drop, codes, bytes_eq, if◌then◌else◌, option_and_then, option_map, Option, Some, None, zero, suc}
use Rattle.unit_types.specs.Numeral.{plain_decimal_within}
use Rattle.unit_types.specs.Text.{cut}

-- a frame, with the bytes that come on its connection
pub data Frame : Type 0 where
  -- one control connection
  Control : (bytes : List ℕ) → Frame
  -- one connection to this listener
  Connection : (listener bytes : List ℕ) → Frame
  -- the same, where the client has hung up
  HungUp : (listener bytes : List ℕ) → Frame

-- ---- the line in front of a frame's bytes

-- a frame without its bytes
pub data Kind : Type 0 where
  control : Kind
  connection : (listener : List ℕ) → Kind
  hung_up : (listener : List ℕ) → Kind

abbrev pub frame_of : Kind → List ℕ → Frame
frame_of control bytes = Control bytes
frame_of (connection listener) bytes = Connection listener bytes
frame_of (hung_up listener) bytes = HungUp listener bytes

-- how many bytes a frame has: decimal digits without a leading zero, nine at most
abbrev pub most_bytes : ℕ
most_bytes = 999999999

abbrev pub length_of : List ℕ → Option ℕ
length_of text = plain_decimal_within most_bytes text

-- a listener's name in front of a space has neither space nor LF; it is 1 to 255 bytes long
abbrev pub is_listener : List ℕ → Bool
is_listener name = nat_le 1 (length name) && nat_le (length name) 255

-- `LISTENER LENGTH`
abbrev pub listener_head : (List ℕ → Kind) → Option (List ℕ × List ℕ) → Option (Kind × ℕ)
listener_head kind None = None
listener_head kind (Some parts) = if is_listener parts.0 then option_map (λ size. (kind parts.0, size)) (length_of parts.1) else None

-- what stands in front of the first space of a line and behind it
abbrev pub head_by_word : Option (List ℕ × List ℕ) → Option (Kind × ℕ)
head_by_word None = None
head_by_word (Some parts) =
    if bytes_eq parts.0 (codes "C") then option_map (λ size. (control, size)) (length_of parts.1)
    else if bytes_eq parts.0 (codes "H") then listener_head connection (cut 32 parts.1)
    else if bytes_eq parts.0 (codes "G") then listener_head hung_up (cut 32 parts.1)
    else None

-- `C LENGTH`, `H LISTENER LENGTH` or `G LISTENER LENGTH`: what the line says, and how many bytes come behind it
abbrev pub head_of : List ℕ → Option (Kind × ℕ)
head_of line = head_by_word (cut 32 line)

-- ---- frames

-- the first bytes, where there are so many, as a frame of that kind, and what stands behind them
abbrev pub with_bytes : List ℕ → Kind × ℕ → Option (Frame × List ℕ)
with_bytes bytes head = if nat_le head.1 (length bytes) then Some (frame_of head.0 (take head.1 bytes), drop head.1 bytes) else None

-- behind the LF of the line
abbrev pub behind_line : List ℕ × List ℕ → Option (Frame × List ℕ)
behind_line parts = option_and_then (with_bytes parts.1) (head_of parts.0)

-- the whole frame at the front, and what stands behind it
abbrev pub first_frame : List ℕ → Option (Frame × List ℕ)
first_frame bytes = option_and_then behind_line (cut 10 bytes)

-- the whole frames at the front, and what stands behind them
pub record Framed : Type 0 where
  pub frames : List Frame
  pub rest : List ℕ

abbrev pub and_more : List ℕ → Option (Frame × List ℕ) → (List ℕ → Framed) → Framed
and_more bytes None more = record { frames = []; rest = bytes }
and_more bytes (Some first) more = record { frames = first.0 ∷ (more first.1).frames; rest = (more first.1).rest }

-- so many frames at most
abbrev pub frames_within : ℕ → List ℕ → Framed
frames_within zero bytes = record { frames = []; rest = bytes }
frames_within (suc most) bytes = and_more bytes (first_frame bytes) (frames_within most)

-- each frame has a byte at least
abbrev pub framed : List ℕ → Framed
framed input = frames_within (length input) input

-- the frames of an input, up to the first broken one
abbrev pub frames_of : List ℕ → List Frame
frames_of input = (framed input).frames

-- the byte where the first broken frame begins, where one is
abbrev pub broken_at_rest : List ℕ → List ℕ → Option ℕ
broken_at_rest input [] = None
broken_at_rest input (b ∷ rest) = Some (length input - length (b ∷ rest))

abbrev pub broken_at : List ℕ → Option ℕ
broken_at input = broken_at_rest input (framed input).rest
