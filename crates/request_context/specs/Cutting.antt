-- The reply to what was asked: its record, the parts of that, and the pieces of a part.
use Rattle.std.specs.Prelude.{◌≡◌, ◌<◌, ℕ, List}
use Rattle.unit_types.specs.Record.{reply_record}
use Rattle.unit_types.specs.declared.message.Reply.{Reply}
use Rattle.unit_types.specs.declared.message.Request.{Request}
use Rattle.request_context.specs.declared.asked.Asked.{Asked}
use Rattle.request_context.specs.Parts.{part_size, piece_size, stretch_count, stretch_of}

-- what contracts see of a piece: what was asked, the number of the part, the piece's number in that, and the bytes
pub record PieceValue : Type 0 where
  pub asked : Asked
  pub part : ℕ
  pub index : ℕ
  pub bytes : List ℕ

-- what is left of the parts of a reply: what was asked, and the number of the next part
pub record PartsValue : Type 0 where
  pub asked : Asked
  pub next : ℕ

-- what a collector of a reply has: what was asked, and the number of the part that it waits for
pub record Collected : Type 0 where
  pub asked : Asked
  pub next : ℕ

-- the record of the reply to what was asked, where `reply_of` is what the handlers mean
abbrev pub record_to : (List ℕ → Request → Reply) → Asked → List ℕ
record_to reply_of asked = reply_record (reply_of asked.name asked.request)

-- how many parts it has
abbrev pub part_count : (List ℕ → Request → Reply) → Asked → ℕ
part_count reply_of asked = stretch_count part_size (record_to reply_of asked)

-- one of its parts
abbrev pub part_to : (List ℕ → Request → Reply) → Asked → ℕ → List ℕ
part_to reply_of asked part = stretch_of part_size (record_to reply_of asked) part

-- one piece of one of its parts
abbrev pub piece_to : (List ℕ → Request → Reply) → Asked → ℕ → ℕ → List ℕ
piece_to reply_of asked part index = stretch_of piece_size (part_to reply_of asked part) index

-- how many pieces one of its parts has
abbrev pub piece_count : (List ℕ → Request → Reply) → Asked → ℕ → ℕ
piece_count reply_of asked part = stretch_count piece_size (part_to reply_of asked part)

-- the reply's record has a part with this number, the part has a piece with this one, and these are its bytes
pub record IsPiece (reply_of : List ℕ → Request → Reply) (asked : Asked) (part index : ℕ) (bytes : List ℕ) : Type 0 where
  pub part_within : part < part_count reply_of asked
  pub index_within : index < piece_count reply_of asked part
  pub bytes_of : bytes ≡ piece_to reply_of asked part index
