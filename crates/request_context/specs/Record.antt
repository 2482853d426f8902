-- The record of an asked request, which values have a record, and of which value bytes are the record.
-- The format is this project's own. Numbers stand with their highest byte first.
use Rattle.std.specs.Prelude.{◌≡◌, ◌≢◌, ℕ, ◌<◌, ◌≤◌, ◌+◌, ◌^◌, List, ◌++◌, length, sum_by, All, Option, Some, None}
use Rattle.std.specs.Int.{w8, w16, w32, w64}
use Rattle.unit_types.specs.Record.{number, length_prefixed, field_list_bytes, reply_record}
use Rattle.unit_types.specs.declared.field.Field.{Field}
use Rattle.unit_types.specs.declared.message.Addr.{Addr}
use Rattle.unit_types.specs.declared.message.Reply.{Reply}
use Rattle.unit_types.specs.declared.message.Request.{Request}
use Rattle.request_context.specs.declared.asked.Asked.{Asked}

-- ---- the request record

-- the address in four bytes and the port in two
unfoldable pub addr_bytes : Addr → List ℕ
addr_bytes addr = number w32 addr.ip ++ number w16 addr.port

-- the minor version in one byte, and then method, target, path, query and host
unfoldable pub head_bytes : Request → List ℕ
head_bytes request =
    number w8 request.minor ++ (length_prefixed request.method ++ (length_prefixed request.target
    ++ (length_prefixed request.path ++ (length_prefixed request.query ++ length_prefixed request.host))))

-- the stream in eight bytes, the handler's name, the head, both addresses, the fields, the body
unfoldable pub request_record : Asked → List ℕ
request_record asked =
    number w64 asked.stream ++ (length_prefixed asked.name ++ (head_bytes asked.request
    ++ (addr_bytes asked.request.from ++ (addr_bytes asked.request.to
    ++ (field_list_bytes asked.request.fields ++ length_prefixed asked.request.body)))))

-- what is asked under a stream, of the handler of that name
abbrev pub asked_with : ℕ → List ℕ → Request → Asked
asked_with stream name request = record { stream = stream; name = name; request = request }

-- ---- what has a record

-- four bytes hold the length
abbrev pub IsShort : List ℕ → Type 0
IsShort text = length text < 2 ^ 32

pub record IsShortField (field : Field) : Type 0 where
  pub name : IsShort field.name
  pub value : IsShort field.value

pub record AreShortFields (fields : List Field) : Type 0 where
  pub count : length fields < 2 ^ 32
  pub each : All IsShortField fields

-- the minor version is 0 or 1, and each length and the number of fields are below 2 ^ 32
pub record IsRecordable (asked : Asked) : Type 0 where
  pub minor : asked.request.minor ≤ 1
  pub name : IsShort asked.name
  pub method : IsShort asked.request.method
  pub target : IsShort asked.request.target
  pub path : IsShort asked.request.path
  pub query : IsShort asked.request.query
  pub host : IsShort asked.request.host
  pub fields : AreShortFields asked.request.fields
  pub body : IsShort asked.request.body

-- each length and the number of fields are below 2 ^ 32
pub record IsRecordableReply (reply : Reply) : Type 0 where
  pub fields : AreShortFields reply.fields
  pub body : IsShort reply.body

-- the numbers of an address are within their types
pub record IsAddr (addr : Addr) : Type 0 where
  pub ip : addr.ip < 2 ^ 32
  pub port : addr.port < 2 ^ 16

-- beside its lengths, its numbers are within their types, as they are for each value of the program
pub record HasRecord (asked : Asked) : Type 0 where
  pub stream : asked.stream < 2 ^ 64
  pub from : IsAddr asked.request.from
  pub to : IsAddr asked.request.to
  pub parts : IsRecordable asked

pub record HasReplyRecord (reply : Reply) : Type 0 where
  pub status : reply.status < 2 ^ 16
  pub parts : IsRecordableReply reply

-- ---- what bytes are the record of

-- some value has them as its record, and this is it; or none has
abbrev pub IsRecordOf : List ℕ → Option Asked → Type 0
IsRecordOf bytes (Some asked) = HasRecord asked × (bytes ≡ request_record asked)
IsRecordOf bytes None = (asked : Asked) → HasRecord asked → bytes ≢ request_record asked

abbrev pub IsReplyRecordOf : List ℕ → Option Reply → Type 0
IsReplyRecordOf bytes (Some reply) = HasReplyRecord reply × (bytes ≡ reply_record reply)
IsReplyRecordOf bytes None = (reply : Reply) → HasReplyRecord reply → bytes ≢ reply_record reply

-- ---- the length of a record

-- what a field has in a record
abbrev pub field_size : Field → ℕ
field_size field = 8 + length field.name + length field.value

abbrev pub field_list_size : List Field → ℕ
field_list_size fields = 4 + sum_by field_size fields

-- what the request has behind stream and name
abbrev pub request_size : Request → ℕ
request_size request =
    1 + (4 + length request.method) + (4 + length request.target) + (4 + length request.path)
    + (4 + length request.query) + (4 + length request.host) + 6 + 6 + field_list_size request.fields
    + (4 + length request.body)

abbrev pub request_record_size : Asked → ℕ
request_record_size asked = 8 + (4 + length asked.name) + request_size asked.request

abbrev pub reply_record_size : Reply → ℕ
reply_record_size reply = 2 + field_list_size reply.fields + (4 + length reply.body)
