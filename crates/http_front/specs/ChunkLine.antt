-- The line before the data of a chunk (RFC 9112, section 7.1), as a function. The grammar is that of `httparse`: the line is
-- read by naming the one line that the bytes can be, and then comparing.
use Rattle.std.specs.Prelude.{ℕ, Bool, true, ◌&&◌, ◌==◌, List, length, drop, nat_lt, nat_le, Option, Some, None, if◌then◌else◌, bytes_eq}
use Rattle.std.specs.List.{list_all, list_any, before_first, after_first}
use Rattle.std.specs.Char.{is_ascii_hexdigit}
use Rattle.httparse.specs.Ascii.{semicolon}
use Rattle.httparse.specs.Grammar.{ChunkLine, is_ows, is_extension_byte, print_chunk_line, chunk_size}
use Rattle.http_front.specs.Head.{text_of}

abbrev pub is_semicolon : ℕ → Bool
is_semicolon b = b == semicolon

abbrev pub extension_in : List ℕ → Option (List ℕ)
extension_in text = if list_any is_semicolon text then Some (after_first is_semicolon text) else None

-- chunk-size [ chunk-ext ], where spaces and tabs may follow the size
abbrev pub chunk_line_from : List ℕ → Option (List ℕ) → ChunkLine
chunk_line_from size extension = record {
  digits = before_first is_ows size;
  pad = drop (length (before_first is_ows size)) size;
  extension = extension;
}

-- the only line that the bytes can be
unfoldable pub chunk_line_in : List ℕ → ChunkLine
chunk_line_in line = chunk_line_from (before_first is_semicolon (text_of line)) (extension_in (text_of line))

abbrev pub is_extension : Option (List ℕ) → Bool
is_extension None = true
is_extension (Some text) = list_all is_extension_byte text

-- each part of the line is of its class
abbrev pub is_chunk_line : ChunkLine → Bool
is_chunk_line l =
    (nat_lt 0 (length l.digits) && (nat_le (length l.digits) 16 && list_all is_ascii_hexdigit l.digits))
    && list_all is_ows l.pad
    && is_extension l.extension

abbrev pub is_line : List ℕ → ChunkLine → Bool
is_line line l = is_chunk_line l && bytes_eq (print_chunk_line l) line

-- the size that the line says, its LF included, if it is one
unfoldable pub chunk_size_of : List ℕ → Option ℕ
chunk_size_of line = if is_line line (chunk_line_in line) then Some (chunk_size (chunk_line_in line)) else None
