-- How the content behind a head is framed by its fields (RFC 9112, section 6).
use Rattle.std.specs.Prelude.{ℕ, ◌+◌, ◌-◌, ◌*◌, Bool, ◌&&◌, List, [], ◌∷◌, ◌==◌, codes, if◌then◌else◌, bytes_eq}
use Rattle.unit_types.specs.declared.field.Field.{Field}
use Rattle.unit_types.specs.Text.{lowercase}
use Rattle.http_front.specs.declared.framing.Framing.{Framing}
use Rattle.http_front.specs.declared.framing.Framing.TheVariants.{Length, Chunks}
use Rattle.http_front.specs.Fields.{count_of, value_of, has_some}

-- Content-Length stands there, and Transfer-Encoding (RFC 9112, sections 6.1 and 6.2)
abbrev pub has_length : List Field → Bool
has_length fields = has_some (codes "content-length") fields

abbrev pub has_coding : List Field → Bool
has_coding fields = has_some (codes "transfer-encoding") fields

-- the one transfer coding is `chunked` (RFC 9112, section 7.1)
abbrev pub is_chunked : List Field → Bool
is_chunked fields =
    count_of (codes "transfer-encoding") fields == 1
    && bytes_eq (lowercase (value_of (codes "transfer-encoding") fields)) (codes "chunked")

-- the text of Content-Length, or nothing
abbrev pub length_text : List Field → List ℕ
length_text fields = value_of (codes "content-length") fields

-- the number that decimal digits write behind those of n
abbrev pub number_from : ℕ → List ℕ → ℕ
number_from n [] = n
number_from n (b ∷ text) = number_from (10 * n + (b - 48)) text

abbrev pub number_of : List ℕ → ℕ
number_of text = number_from 0 text

-- the length of the content, which is 0 without Content-Length
abbrev pub content_length : List Field → ℕ
content_length fields = number_of (length_text fields)

-- how these fields frame it, given the largest content that is taken
abbrev pub framing_of : ℕ → List Field → Framing
framing_of limit fields = if is_chunked fields then Chunks limit else Length (content_length fields)
