-- What a head says of its request (RFC 9110, section 7; RFC 9112, section 3).
use Rattle.std.specs.Prelude.{ℕ, ◌-◌, Bool, ◌&&◌, ◌||◌, List, [], ◌∷◌, length, take, map, reverse, slice_index, ◌==◌, nat_lt, codes, if◌then◌else◌, bytes_eq}
use Rattle.std.specs.List.{list_any, slice_split}
use Rattle.std.specs.Char.{is_ascii_digit}
use Rattle.httparse.specs.Ascii.{colon, comma}
use Rattle.httparse.specs.Grammar.{RequestHead, field_value, trim_ows}
use Rattle.httparse.specs.Grammar as grammar
use Rattle.httparse.specs.Spans.{span_bytes}
use Rattle.httparse.specs.declared.spans.HeaderSpan.{HeaderSpan}
use Rattle.unit_types.specs.declared.field.Field.{Field}
use Rattle.unit_types.specs.declared.message.Addr.{Addr}
use Rattle.unit_types.specs.declared.message.Request.{Request}
use Rattle.path_normal.specs.Path.{normal_path_of}
use Rattle.unit_types.specs.Text.{lowercase}
use Rattle.http_front.specs.Fields.{is_named, value_of}
use Rattle.http_front.specs.Target.{has_scheme, authority_of, raw_path_of, query_of}

-- the field as a request has it: its name in lower case, its value without the white space around it (RFC 9110, sections 5.1 and 5.5)
abbrev pub field_of : grammar.Field → Field
field_of f = record { name = lowercase f.name; value = field_value f }

abbrev pub fields_of : RequestHead → List Field
fields_of h = map field_of h.fields

-- the field whose parts stand at these places of a block
abbrev pub field_at : List ℕ → HeaderSpan → Field
field_at block header = record { name = lowercase (span_bytes block header.name); value = span_bytes block header.value }

-- whether the text ends in that byte
abbrev pub ends_in : ℕ → List ℕ → Bool
ends_in b text = nat_lt 0 (length text) && slice_index text (length text - 1) == b

-- the text without its last byte
abbrev pub without_last : List ℕ → List ℕ
without_last text = take (length text - 1) text

-- the text without the digits at its end
abbrev pub skip_digits : List ℕ → List ℕ
skip_digits [] = []
skip_digits (b ∷ text) = if is_ascii_digit b then skip_digits text else b ∷ text

abbrev pub without_digits : List ℕ → List ℕ
without_digits text = reverse (skip_digits (reverse text))

-- a host without a colon at its end and the digits behind it (RFC 3986, section 3.2.3: port = *DIGIT)
abbrev pub without_port : List ℕ → List ℕ
without_port text = if ends_in colon (without_digits text) then without_last (without_digits text) else text

-- a host without the period at its end (RFC 3986, section 3.2.2)
abbrev pub without_period : List ℕ → List ℕ
without_period text = if ends_in 46 text then without_last text else text

-- the host that a request is for: the authority of its target, or else the value of its Host field, or nothing, in lower
-- case, without port and final period (RFC 9110, section 7.2; RFC 9112, section 3.2.2)
abbrev pub host_in : List ℕ → List Field → List ℕ
host_in target fields = if has_scheme target then authority_of target else value_of (codes "host") fields

abbrev pub host_of : List ℕ → List Field → List ℕ
host_of target fields = lowercase (without_period (without_port (host_in target fields)))

-- a request as its bytes say it: all but the addresses of its connection
pub record Message : Type 0 where
  pub method : List ℕ
  pub target : List ℕ
  pub path : List ℕ
  pub query : List ℕ
  pub host : List ℕ
  pub minor : ℕ
  pub fields : List Field
  pub body : List ℕ

abbrev pub message_of : RequestHead → List ℕ → Message
message_of h content = record {
  method = h.method;
  target = h.target;
  path = normal_path_of (raw_path_of h.target);
  query = query_of h.target;
  host = host_of h.target (fields_of h);
  minor = h.minor;
  fields = fields_of h;
  body = content;
}

-- the request of a connection between two addresses
abbrev pub request_of : Addr → Addr → Message → Request
request_of from to m = record {
  method = m.method;
  target = m.target;
  path = m.path;
  query = m.query;
  host = m.host;
  minor = m.minor;
  fields = m.fields;
  from = from;
  to = to;
  body = m.body;
}

-- whether the method is HEAD, to which a reply has no content (RFC 9110, section 9.3.2)
abbrev pub is_head_request : Request → Bool
is_head_request r = bytes_eq r.method (codes "HEAD")

-- the text without the white space at its ends
abbrev pub trimmed : List ℕ → List ℕ
trimmed text = trim_ows text

-- the elements of a list in a field's value (RFC 9110, section 5.6.1)
abbrev pub is_comma : ℕ → Bool
is_comma b = b == comma

abbrev pub elements_of : List ℕ → List (List ℕ)
elements_of value = slice_split is_comma value

-- whether the sender asks to close the connection: a Connection field has the element `close` (RFC 9112, section 9.6)
abbrev pub is_close : List ℕ → Bool
is_close element = bytes_eq (lowercase (trimmed element)) (codes "close")

abbrev pub lists_close : List ℕ → Bool
lists_close value = list_any is_close (elements_of value)

abbrev pub asks_close : Field → Bool
asks_close f = is_named (codes "connection") f && lists_close f.value

-- whether the connection ends with that request: HTTP/1.0 does not persist here, and a sender may ask for it (RFC 9112, section 9.3)
abbrev pub some_asks_close : List Field → Bool
some_asks_close fields = list_any asks_close fields

abbrev pub is_last_request : Request → Bool
is_last_request r = r.minor == 0 || some_asks_close r.fields
