-- The fields that say where a message ends and whether its connection stays (RFC 9112, sections 6 and 9). Their names are
-- in lower case.
use Rattle.std.specs.Prelude.{ℕ, Bool, ◌||◌, List, codes, bytes_eq}
use Rattle.unit_types.specs.Text.{lowercase}

-- Content-Length (RFC 9110, section 8.6)
abbrev pub content_length : List ℕ
content_length = codes "content-length"

-- Transfer-Encoding (RFC 9112, section 6.1)
abbrev pub transfer_encoding : List ℕ
transfer_encoding = codes "transfer-encoding"

-- Connection (RFC 9110, section 7.6.1)
abbrev pub connection : List ℕ
connection = codes "connection"

-- the name of a field that frames a message, in any case
abbrev pub frames_message : List ℕ → Bool
frames_message name =
    bytes_eq (lowercase name) content_length
    || bytes_eq (lowercase name) connection
    || bytes_eq (lowercase name) transfer_encoding
