-- What a command makes of its input.
use Rattle.std.specs.Prelude.{ℕ, nat_le, nat_lt, List, [], length, if◌then◌else◌, Option, Some, None}
use Rattle.unit_types.specs.declared.message.Request.{Request}
use Rattle.unit_types.specs.declared.message.Reply.{Reply}
use Rattle.unit_io.specs.Status.{input_limit}
use Rattle.http_front.specs.Session.{once_of}
use Rattle.script_frames.specs.Frames.{broken_at}

-- what becomes of an input where no fault is met and memory isn't wanting
pub data Outcome : Type 0 where
  -- it is too long or broken: the limit, or the byte where the first broken part begins
  Refused : (place : ℕ) → Outcome
  -- this is written, and then the program ends with this status
  Written : (output : List ℕ) → (status : ℕ) → Outcome

abbrev pub output_in : Outcome → List ℕ
output_in (Refused place) = []
output_in (Written output status) = output

-- `once`: the answer to the connection that the input is
abbrev pub once_outcome : (List ℕ → Request → Reply) → List ℕ → List ℕ → Outcome
once_outcome reply_of handler input =
    if nat_le (length input) input_limit then Written (once_of reply_of handler input) 0 else Refused input_limit

-- ---- a script of which these bytes are written

-- they are written where no frame is broken, and else it is refused with the byte where the first broken one begins
abbrev pub frames_outcome : List ℕ → Option ℕ → Outcome
frames_outcome output None = Written output 0
frames_outcome output (Some place) = Refused place

-- too long comes before broken
abbrev pub script_outcome : List ℕ → List ℕ → Outcome
script_outcome output input =
    if nat_lt input_limit (length input) then Refused input_limit else frames_outcome output (broken_at input)
