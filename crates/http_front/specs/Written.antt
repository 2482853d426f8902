-- A reply as the bytes of HTTP/1.1 (RFC 9112, sections 4 to 6).
use Rattle.std.specs.Prelude.{ℕ, ◌+◌, ◌/◌, ◌%◌, Bool, true, false, ◌||◌, List, [], ◌∷◌, ◌++◌, length, ◌==◌, codes, decimal, if◌then◌else◌}
use Rattle.std.specs.List.{flat_map}
use Rattle.unit_types.specs.Framing.{frames_message}
use Rattle.unit_types.specs.declared.field.Field.{Field}
use Rattle.unit_types.specs.declared.message.Reply.{Reply}

-- CR LF
abbrev pub crlf_text : List ℕ
crlf_text = 13 ∷ 10 ∷ []

-- a status code and its reason phrase (RFC 9110, section 15; RFC 6585 for 429 and 431)
pub record Phrase : Type 0 where
  pub status : ℕ
  pub text : List ℕ

abbrev pub phrase : ℕ → List ℕ → Phrase
phrase status text = record { status = status; text = text }

unfoldable pub phrases : List Phrase
phrases =
    phrase 100 (codes "Continue")
    ∷ phrase 200 (codes "OK")
    ∷ phrase 201 (codes "Created")
    ∷ phrase 202 (codes "Accepted")
    ∷ phrase 204 (codes "No Content")
    ∷ phrase 206 (codes "Partial Content")
    ∷ phrase 301 (codes "Moved Permanently")
    ∷ phrase 302 (codes "Found")
    ∷ phrase 303 (codes "See Other")
    ∷ phrase 304 (codes "Not Modified")
    ∷ phrase 307 (codes "Temporary Redirect")
    ∷ phrase 308 (codes "Permanent Redirect")
    ∷ phrase 400 (codes "Bad Request")
    ∷ phrase 401 (codes "Unauthorized")
    ∷ phrase 403 (codes "Forbidden")
    ∷ phrase 404 (codes "Not Found")
    ∷ phrase 405 (codes "Method Not Allowed")
    ∷ phrase 409 (codes "Conflict")
    ∷ phrase 410 (codes "Gone")
    ∷ phrase 413 (codes "Content Too Large")
    ∷ phrase 414 (codes "URI Too Long")
    ∷ phrase 429 (codes "Too Many Requests")
    ∷ phrase 431 (codes "Request Header Fields Too Large")
    ∷ phrase 500 (codes "Internal Server Error")
    ∷ phrase 501 (codes "Not Implemented")
    ∷ phrase 502 (codes "Bad Gateway")
    ∷ phrase 503 (codes "Service Unavailable")
    ∷ phrase 504 (codes "Gateway Timeout")
    ∷ []

-- the phrase of a status in a table, or nothing
abbrev pub phrase_in : List Phrase → ℕ → List ℕ
phrase_in [] status = []
phrase_in (entry ∷ entries) status = if entry.status == status then entry.text else phrase_in entries status

abbrev pub phrase_of : ℕ → List ℕ
phrase_of status = phrase_in phrases status

-- a status below 1000 in three digits
abbrev pub three_digits : ℕ → List ℕ
three_digits n = (48 + n / 100) ∷ (48 + n / 10 % 10) ∷ (48 + n % 10) ∷ []

-- status-line = HTTP-version SP status-code SP [ reason-phrase ] CRLF (RFC 9112, section 4)
abbrev pub status_line : ℕ → List ℕ
status_line status = codes "HTTP/1.1 " ++ (three_digits status ++ (32 ∷ (phrase_of status ++ crlf_text)))

-- field-line = field-name ":" SP field-value CRLF (RFC 9112, section 5)
abbrev pub field_line : List ℕ → List ℕ → List ℕ
field_line name value = name ++ (58 ∷ 32 ∷ (value ++ crlf_text))

-- the fields that say how the message is framed are the writer's own (RFC 9112, sections 6 and 9)
abbrev pub line_unless : Bool → Field → List ℕ
line_unless true f = []
line_unless false f = field_line f.name f.value

abbrev pub kept_line : Field → List ℕ
kept_line f = line_unless (frames_message f.name) f

-- 204 and 304 have no content and no Content-Length (RFC 9110, sections 8.6, 15.3.5 and 15.4.5)
abbrev pub has_no_content : ℕ → Bool
has_no_content status = status == 204 || status == 304

abbrev pub length_line : Bool → ℕ → List ℕ
length_line true n = []
length_line false n = field_line (codes "Content-Length") (decimal n)

abbrev pub close_line : Bool → List ℕ
close_line true = field_line (codes "Connection") (codes "close")
close_line false = []

abbrev pub content_unless : Bool → List ℕ → List ℕ
content_unless true body = []
content_unless false body = body

-- the bytes of a reply up to its content
abbrev pub head_text : Reply → Bool → List ℕ
head_text reply close =
    status_line reply.status
    ++ (flat_map kept_line reply.fields
    ++ (length_line (has_no_content reply.status) (length reply.body)
    ++ (close_line close
    ++ crlf_text)))

-- the content that is written: none to a HEAD request, and none for a status that has none
abbrev pub written_content : Reply → Bool → List ℕ
written_content reply head = content_unless (head || has_no_content reply.status) reply.body

-- the bytes of a reply, with `Connection: close` where the connection closes
unfoldable pub http_bytes : Reply → Bool → Bool → List ℕ
http_bytes reply head close = head_text reply close ++ written_content reply head

-- an error reply: its status in words of plain text (RFC 9110, section 15.5)
abbrev pub error_reply : ℕ → Reply
error_reply status = record {
  status = status;
  fields = record { name = codes "Content-Type"; value = codes "text/plain" } ∷ [];
  body = codes "Error " ++ (three_digits status ++ (46 ∷ crlf_text));
}

-- its bytes
abbrev pub error_bytes : ℕ → Bool → Bool → List ℕ
error_bytes status head close = http_bytes (error_reply status) head close

-- the interim reply that asks for the content (RFC 9110, section 15.2.1)
abbrev pub continue_bytes : Bool → List ℕ
continue_bytes true = status_line 100 ++ crlf_text
continue_bytes false = []
