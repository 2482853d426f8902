-- The record of a reply: the bytes in which it goes from a worker to an engine. A format of this project's own.
use Rattle.std.specs.Prelude.{ℕ, List, ◌++◌, length, flat_map}
use Rattle.std.specs.Int.{Width, w16, w32, to_be_bytes}
use Rattle.unit_types.specs.declared.field.Field.{Field}
use Rattle.unit_types.specs.declared.message.Reply.{Reply}

-- a number in as many bytes as the width has, the highest byte first
unfoldable pub number : Width → ℕ → List ℕ
number w n = to_be_bytes w n

-- the length of the bytes in four bytes, and then the bytes
unfoldable pub length_prefixed : List ℕ → List ℕ
length_prefixed bytes = number w32 (length bytes) ++ bytes

-- the name and the value of a field
unfoldable pub field_bytes : Field → List ℕ
field_bytes field = length_prefixed field.name ++ length_prefixed field.value

-- the number of fields in four bytes, and then each of them in order
unfoldable pub field_list_bytes : List Field → List ℕ
field_list_bytes fields = number w32 (length fields) ++ flat_map field_bytes fields

-- the status in two bytes, the fields, the body
unfoldable pub reply_record : Reply → List ℕ
reply_record reply = number w16 reply.status ++ (field_list_bytes reply.fields ++ length_prefixed reply.body)
