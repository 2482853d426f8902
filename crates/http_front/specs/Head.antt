-- A block of bytes as one request head (RFC 9112, sections 2 to 5), as a function. The grammar is that of `httparse`.
-- A head is read by naming the one head that the block can be, line by line, and then comparing: the head's parts are
-- of their classes, and the head is written as that block.
use Rattle.std.specs.Prelude.{◌≡◌, ℕ, Bool, true, false, ◌&&◌, List, [], ◌∷◌, length, ◌==◌, nat_lt, nat_le, Option, Some, None, codes, if◌then◌else◌, bytes_eq}
use Rattle.std.specs.List.{list_all, list_any, before_first, after_first}
use Rattle.std.specs.Str.{is_utf8}
use Rattle.httparse.specs.Ascii.{line_feed, carriage_return, space, colon}
use Rattle.httparse.specs.Grammar.{LineEnd, crlf, lf, Field, is_token, is_uri_byte, is_value_byte, RequestHead, print_request, ReadsRequest}

abbrev pub is_line_feed : ℕ → Bool
is_line_feed b = b == line_feed

-- the whole lines, each without its LF. What follows the last LF is no line.
abbrev pub onto_line : ℕ → List (List ℕ) → List (List ℕ)
onto_line b [] = []
onto_line b (line ∷ lines) = (b ∷ line) ∷ lines

abbrev pub line_step : Bool → ℕ → List (List ℕ) → List (List ℕ)
line_step true b lines = [] ∷ lines
line_step false b lines = onto_line b lines

abbrev pub lines_in : List ℕ → List (List ℕ)
lines_in [] = []
lines_in (b ∷ bytes) = line_step (is_line_feed b) b (lines_in bytes)

abbrev pub is_return : ℕ → Bool
is_return b = b == carriage_return

abbrev pub is_space : ℕ → Bool
is_space b = b == space

abbrev pub is_colon : ℕ → Bool
is_colon b = b == colon

-- a line is what stands before an LF: its text is what stands before its CR (RFC 9112, section 2.2)
abbrev pub text_of : List ℕ → List ℕ
text_of line = before_first is_return line

-- how the line ends
abbrev pub end_of : List ℕ → LineEnd
end_of line = if list_any is_return line then crlf else lf

-- field-line = field-name ":" OWS field-value OWS (RFC 9112, section 5)
abbrev pub field_in : List ℕ → Field
field_in line = record {
  name = before_first is_colon (text_of line);
  raw = after_first is_colon (text_of line);
  end = end_of line;
}

-- a section: the field lines up to the first empty line, and how that one ends
abbrev pub section_of_line : List ℕ → List Field × LineEnd → List Field × LineEnd
section_of_line line rest = if length (text_of line) == 0 then ([], end_of line) else (field_in line ∷ rest.0, rest.1)

abbrev pub section_in : List (List ℕ) → List Field × LineEnd
section_in [] = ([], lf)
section_in (line ∷ lines) = section_of_line line (section_in lines)

-- HTTP-version (RFC 9112, section 2.3): the minor number
abbrev pub minor_in : List ℕ → ℕ
minor_in version = if bytes_eq version (codes "HTTP/1.0") then 0 else 1

-- request-line = method SP request-target SP HTTP-version (RFC 9112, section 3), and the section behind it
abbrev pub head_from : List ℕ → List Field × LineEnd → List ℕ → RequestHead
head_from text fields line = record {
  blank = [];
  method = before_first is_space text;
  target = before_first is_space (after_first is_space text);
  minor = minor_in (after_first is_space (after_first is_space text));
  line_end = end_of line;
  fields = fields.0;
  last = fields.1;
}

-- the only head that the block can be
unfoldable pub head_in : List ℕ → RequestHead
head_in block =
    head_from (text_of (before_first is_line_feed block))
    (section_in (lines_in (after_first is_line_feed block)))
    (before_first is_line_feed block)

-- a field's name is a token, and its value has no control byte but the tab (RFC 9110, section 5.5)
abbrev pub is_field : Field → Bool
is_field f = is_token f.name && list_all is_value_byte f.raw

-- each part of the head is of its class
abbrev pub is_request_head : RequestHead → Bool
is_request_head h =
    is_token h.method
    && (nat_lt 0 (length h.target) && list_all is_uri_byte h.target)
    && is_utf8 h.target
    && nat_le h.minor 1
    && list_all is_field h.fields

-- the block is that head and nothing else
abbrev pub is_head : List ℕ → RequestHead → Bool
is_head block h = is_request_head h && bytes_eq (print_request h) block

-- the head that the block is, if it is one
unfoldable pub head_of : List ℕ → Option RequestHead
head_of block = if is_head block (head_in block) then Some (head_in block) else None

-- the same as a fact, by the grammar of `httparse`: the whole block is the head h, with no empty line before it
abbrev pub IsHead : List ℕ → RequestHead → Type 0
IsHead block h = ReadsRequest block h [] × (h.blank ≡ [])
