-- What the names and the replies of handlers keep.
use Rattle.std.specs.Prelude.{ℕ, ◌≤◌, List, length, All}
use Rattle.unit_types.specs.Limits.{IsShortName, record_limit}
use Rattle.unit_types.specs.Names.{Ascends}
use Rattle.unit_types.specs.Record.{reply_record}
use Rattle.unit_types.specs.Token.{IsToken, IsFieldValue}
use Rattle.unit_types.specs.declared.field.Field.{Field}
use Rattle.unit_types.specs.declared.message.Reply.{Reply}

-- the names of handlers: ascending, each of at most 255 bytes
pub record IsNameList (names : List (List ℕ)) : Type 0 where
  pub ascending : Ascends names
  pub short : All IsShortName names

-- a field whose name and value may be written
abbrev pub IsWritable : Field → Type 0
IsWritable field = IsToken field.name × IsFieldValue field.value

-- a final status code: of two hundreds to five hundreds (RFC 9110, section 15)
abbrev pub IsFinalStatus : ℕ → Type 0
IsFinalStatus status = (200 ≤ status) × (status ≤ 599)

-- a reply of a handler: a final status code, fields that may be written, and a record in its limit
pub record IsReply (reply : Reply) : Type 0 where
  pub final_status : IsFinalStatus reply.status
  pub writable : All IsWritable reply.fields
  pub short : length (reply_record reply) ≤ record_limit
