-- Chunked coding (RFC 9112, section 7.1), told from the whole list at once.
use Rattle.std.specs.Prelude.{ℕ, zero, suc, ◌+◌, ◌-◌, List, [], ◌∷◌, ◌++◌, length, take, drop, ◌==◌, nat_le, nat_lt, Option, Some, None, if◌then◌else◌}
use Rattle.httparse.specs.Ascii.{carriage_return, line_feed}
use Rattle.http_front.specs.declared.content.Content.{Content}
use Rattle.http_front.specs.declared.chunk.Chunk.{Chunk}
use Rattle.http_front.specs.declared.chunk.Chunk.TheVariants.{Data, Last, Refused, Open}
use Rattle.http_front.specs.Head.{lines_in}
use Rattle.http_front.specs.Front.{Front, unready, too_long, block, front_found, front_of}
use Rattle.unit_types.specs.Limits.{head_limit}
use Rattle.http_front.specs.ChunkLine.{chunk_size_of}

-- ---- the first chunk

-- how many bytes the first line has, with its LF, if it is whole
abbrev pub first_len : List (List ℕ) → Option ℕ
first_len [] = None
first_len (line ∷ lines) = Some (length line + 1)

-- the most bytes of a line with a chunk's size
abbrev pub line_limit : ℕ
line_limit = 1024

-- the first line ends within the limit, or the limit's bytes hold no whole line, or more bytes are needed to tell
unfoldable pub line_front : List ℕ → Front
line_front bytes = front_found line_limit bytes (first_len (lines_in (take line_limit bytes)))

-- chunk-data is followed by CR LF: another byte is refused (400), and the data of that many bytes behind a line of so many
-- are whole once both have come
abbrev pub line_feed_chunk : ℕ → ℕ → List ℕ → Chunk
line_feed_chunk line size [] = Open
line_feed_chunk line size (b ∷ _) = if b == line_feed then Data line size else Refused 400

abbrev pub return_chunk : ℕ → ℕ → List ℕ → Chunk
return_chunk line size [] = Open
return_chunk line size (b ∷ bytes) = if b == carriage_return then line_feed_chunk line size bytes else Refused 400

abbrev pub data_chunk : ℕ → ℕ → List ℕ → Chunk
data_chunk line size bytes = if nat_le size (length bytes) then return_chunk line size (drop size bytes) else Open

-- behind the last chunk, trailer lines are dropped up to the first empty line (RFC 9112, section 7.1.2); they are too large
-- (431, RFC 6585, section 5) where as many bytes as a head may have hold none
abbrev pub last_chunk : ℕ → Front → Chunk
last_chunk line unready = Open
last_chunk line too_long = Refused 431
last_chunk line (block n) = Last (line + n)

-- a size above the content that may still come is refused (413, RFC 9110, section 15.5.14), and a size of 0 ends the chunks
abbrev pub sized_chunk : ℕ → ℕ → ℕ → List ℕ → Chunk
sized_chunk room line size bytes =
    if nat_lt room size then Refused 413
    else if size == 0 then last_chunk line (front_of head_limit bytes)
    else data_chunk line size bytes

-- a line that says no size is refused (400)
abbrev pub line_chunk : ℕ → ℕ → List ℕ → Option ℕ → Chunk
line_chunk room line bytes None = Refused 400
line_chunk room line bytes (Some size) = sized_chunk room line size bytes

-- and so is a line that is too long (400)
abbrev pub front_chunk : ℕ → List ℕ → Front → Chunk
front_chunk room bytes unready = Open
front_chunk room bytes too_long = Refused 400
front_chunk room bytes (block n) = line_chunk room n (drop n bytes) (chunk_size_of (take n bytes))

-- the chunk at the front of the bytes, where so much content may still come
unfoldable pub first_chunk : ℕ → List ℕ → Chunk
first_chunk room bytes = front_chunk room bytes (line_front bytes)

-- ---- all chunks

-- the data of a chunk before the content that follows, where so many bytes are used
abbrev pub content_behind : List ℕ → ℕ → Content → Content
content_behind bytes used (Content.Whole content len) = Content.Whole (bytes ++ content) (used + len)
content_behind bytes used (Content.Refused status) = Content.Refused status
content_behind bytes used Content.Open = Content.Open

-- how many bytes a chunk has, with its line and the CR LF behind its data
abbrev pub chunk_len : ℕ → ℕ → ℕ
chunk_len line size = line + size + 2

abbrev pub chunk_content : List ℕ → (ℕ → List ℕ → Content) → Chunk → Content
chunk_content bytes rest (Data line size) =
    content_behind (take size (drop line bytes)) (chunk_len line size) (rest size (drop (chunk_len line size) bytes))
chunk_content bytes rest (Last n) = Content.Whole [] n
chunk_content bytes rest (Refused status) = Content.Refused status
chunk_content bytes rest Open = Content.Open

-- the content of the chunks at the front of the bytes, where so much may still come. Each chunk takes a byte at least, so that
-- as many steps as there are bytes are enough.
unfoldable pub chunks_in : ℕ → ℕ → List ℕ → Content
chunks_in zero room bytes = Content.Open
chunks_in (suc steps) room bytes =
    chunk_content bytes (λ size rest. chunks_in steps (room - size) rest) (first_chunk room bytes)

abbrev pub chunked_content : ℕ → List ℕ → Content
chunked_content limit bytes = chunks_in (length bytes) limit bytes
