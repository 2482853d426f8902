-- The limits that more than one crate keeps.
use Rattle.std.specs.Prelude.{ℕ, ◌≤◌, List, length}

-- field lines of a head, the request line not counted; a head with more is refused with 431 (RFC 6585, section 5)
abbrev pub field_limit : ℕ
field_limit = 100

-- bytes of a head with its empty line; a longer one is refused with 431 (RFC 6585, section 5)
abbrev pub head_limit : ℕ
head_limit = 16384

-- bytes of a request's content where the configuration sets no other limit; a longer one is refused with 413 (RFC 9110,
-- section 15.5.14)
abbrev pub default_content_limit : ℕ
default_content_limit = 8388608

-- the highest limit of a request's content that a configuration may set
abbrev pub content_limit_max : ℕ
content_limit_max = 10000000

-- bytes of a name: of a handler, and of what a configuration names
abbrev pub name_limit : ℕ
name_limit = 255

-- a name within that limit
abbrev pub IsShortName : List ℕ → Type 0
IsShortName name = length name ≤ name_limit

-- bytes of the record of a request or a reply
abbrev pub record_limit : ℕ
record_limit = 1073741824

-- bytes of a chunk of shared memory, in each of which stands one piece of a record
abbrev pub chunk_size : ℕ
chunk_size = 16384
