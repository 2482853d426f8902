-- The content behind a head that the checks let through (RFC 9112, sections 6.3 and 7.1), told from the whole list at once.
use Rattle.std.specs.Prelude.{ℕ, Bool, ◌&&◌, ◌||◌, List, length, take, ◌==◌, nat_le, nat_lt, if◌then◌else◌, codes, bytes_eq}
use Rattle.std.specs.List.{list_any}
use Rattle.unit_types.specs.declared.field.Field.{Field}
use Rattle.http_front.specs.declared.framing.Framing.{Framing}
use Rattle.http_front.specs.declared.framing.Framing.TheVariants.{Length, Chunks}
use Rattle.http_front.specs.declared.content.Content.{Content}
use Rattle.http_front.specs.declared.content.Content.TheVariants.{Whole, Open}
use Rattle.unit_types.specs.Text.{lowercase}
use Rattle.http_front.specs.Fields.{is_named}
use Rattle.http_front.specs.Framing.{is_chunked, content_length}
use Rattle.http_front.specs.Chunks.{chunked_content}

-- a content of that many bytes (RFC 9112, section 6.2)
abbrev pub sized_content : ℕ → List ℕ → Content
sized_content n bytes = if nat_le n (length bytes) then Whole (take n bytes) n else Open

-- a content that is framed so
abbrev pub content_by : Framing → List ℕ → Content
content_by (Length n) bytes = sized_content n bytes
content_by (Chunks room) bytes = chunked_content room bytes

-- the content by its fields; a request with neither Content-Length nor Transfer-Encoding has none (RFC 9112, section 6.3)
unfoldable pub content_of : ℕ → List Field → List ℕ → Content
content_of limit fields bytes =
    if is_chunked fields then chunked_content limit bytes else sized_content (content_length fields) bytes

-- the client waits for `100 Continue` (RFC 9110, section 10.1.1): an HTTP/1.1 request with content expects it
abbrev pub is_expectation : Field → Bool
is_expectation f = is_named (codes "expect") f && bytes_eq (lowercase f.value) (codes "100-continue")

abbrev pub expects_continue : List Field → Bool
expects_continue fields = list_any is_expectation fields

abbrev pub has_content : List Field → Bool
has_content fields = nat_lt 0 (content_length fields) || is_chunked fields

abbrev pub is_continue_due : ℕ → List Field → Bool
is_continue_due minor fields = minor == 1 && has_content fields && expects_continue fields
