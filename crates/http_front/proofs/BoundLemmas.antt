-- A request that is found is bounded.
use Rattle.std.proofs.Common.{ℕ, ◌≡◌, ◌+◌, ◌-◌, ◌≤◌, zero, suc, refl, ap, ◌∙◌, subst, List, [], ◌∷◌, ◌++◌, length, take, drop, map, Bool, true, false, nat_lt, nat_le, if◌then◌else◌, Option, Some, None, arith, length-append, length-take}
use Rattle.std.specs.Bool.{⊤}
use Rattle.std.specs.List.{flat_map}
use Rattle.std.specs.Char.{to_ascii_lowercase}
use Rattle.std.proofs.lemmas.Bool.Decides.{nat_tests}
use Rattle.std.proofs.lemmas.List.{length-map}
use Rattle.std.proofs.lemmas.List.Sums.{sum_by-cons}
use Rattle.httparse.specs.Grammar as grammar
use Rattle.httparse.specs.Grammar.{RequestHead, print_end, print_version, print_field, print_section}
use Rattle.unit_types.specs.Limits.{head_limit}
use Rattle.unit_types.specs.declared.field.Field.{Field}
use Rattle.http_front.specs.declared.content.Content.{Content}
use Rattle.http_front.specs.declared.content.Content.TheVariants.{Whole, Refused, Open}
use Rattle.http_front.specs.declared.chunk.Chunk.{Chunk}
use Rattle.http_front.specs.declared.chunk.Chunk.TheVariants as chunk
use Rattle.http_front.specs.Bounds.{field_len, fields_len, IsBounded}
use Rattle.http_front.specs.Checks.{has_too_many_lines, refusal_of}
use Rattle.http_front.specs.Chunks.{first_chunk, content_behind, chunk_len, chunk_content, chunks_in, chunked_content}
use Rattle.http_front.specs.Content.{sized_content, content_of}
use Rattle.http_front.specs.Framing.{is_chunked, content_length}
use Rattle.http_front.specs.Front.{Front, unready, too_long, block, blank_len, block_len, front_found, front_of}
use Rattle.http_front.specs.Head.{head_of, lines_in, IsHead}
use Rattle.http_front.specs.Message.{Message, field_of, fields_of, message_of}
use Rattle.http_front.specs.NextUnit.{Found, request, bad, cut, finished, wait, open_found, content_found, unready_found, end_found, checked_unit, block_unit, front_unit, next_unit}
use Rattle.http_front.specs.Target.{raw_path_of}
use Rattle.http_front.proofs.BlockLemmas.{block_within}
use Rattle.http_front.proofs.ContentStays.{FitsChunk, chunk_fits}
use Rattle.http_front.proofs.HeadLemmas.{request_text, head_shape, head_of-sound, head_lines}
use Rattle.http_front.proofs.LengthLemmas.{trim_length, normal_length, target_length, host_length}
use Rattle.http_front.proofs.ProgressLemmas.{length_within}

-- ---- a head

field_length : (f : grammar.Field) → field_len (field_of f) ≤ length (print_field f)
field_length f =
    let name : length (field_of f).name ≡ length f.name = length-map f.name to_ascii_lowercase in
    let value : length (field_of f).value ≤ length f.raw = trim_length f.raw in
    let line : length (print_field f) ≡ length (f.name ++ 58 ∷ f.raw) + length (print_end f.end) = length-append (f.name ++ 58 ∷ f.raw) (print_end f.end) in
    omega (arith, name, value, line, length-append f.name (58 ∷ f.raw))

fields_length : (fs : List grammar.Field) → fields_len (map field_of fs) ≤ length (flat_map print_field fs)
fields_length [] = omega arith
fields_length (f ∷ fs) =
    omega (arith, sum_by-cons field_len (field_of f) (map field_of fs), field_length f, fields_length fs, length-append (print_field f) (flat_map print_field fs))

head_length : (head : List ℕ) (h : RequestHead) → IsHead head h → length h.method + length h.target + fields_len (fields_of h) + 2 ≤ length head
head_length head h is =
    let end = print_end h.line_end ++ print_section h.fields h.last in
    let shape : head ≡ request_text h ++ end = is.0.1 ∙ head_shape h is.1 in
    let all : length head ≡ length (request_text h) + length end = ap length shape ∙ length-append (request_text h) end in
    let line : length (request_text h) ≡ length h.method + length (32 ∷ (h.target ++ 32 ∷ print_version h.minor)) =
    length-append h.method (32 ∷ (h.target ++ 32 ∷ print_version h.minor)) in
    let section : length (print_section h.fields h.last) ≡ length (flat_map print_field h.fields) + length (print_end h.last) =
    length-append (flat_map print_field h.fields) (print_end h.last) in
    let fields : fields_len (fields_of h) ≤ length (flat_map print_field h.fields) = fields_length h.fields in
    omega (arith, fields, all, line, section, length-append h.target (32 ∷ print_version h.minor), length-append (print_end h.line_end) (print_section h.fields h.last))

few_fields : (h : RequestHead) (lines : List (List ℕ)) → length lines ≡ length h.fields + 2 → nat_lt 102 (length lines) ≡ false → length (fields_of h) ≤ 100
few_fields h lines count few =
    let low : length lines ≤ 102 = grind (arith, nat_tests) in
    omega (arith, count, low, length-map h.fields field_of)

message_bounded : (limit : ℕ) (head : List ℕ) (h : RequestHead) (content : List ℕ) → head_of head ≡ Some h → length head ≤ head_limit
    → has_too_many_lines head ≡ false → length content ≤ limit → IsBounded limit (message_of h content)
message_bounded limit head h content found short few within =
    let is = head_of-sound head h found in
    let parts = head_length head h is in
    record {
      content = within;
      minor = is.0.0.minor;
      count = few_fields h (lines_in head) (head_lines head h is) few;
      head = omega (arith, short, parts);
      resource = omega (arith, short, parts, normal_length (raw_path_of h.target), target_length h.target);
      host = omega (arith, short, parts, host_length h.target (fields_of h));
    }

-- ---- a content

abbrev InRoom : ℕ → Content → Type 0
InRoom room (Whole content len) = length content ≤ room
InRoom room (Refused status) = ⊤
InRoom room Open = ⊤

behind_room : (text : List ℕ) (used left room : ℕ) (c : Content) → length text + left ≤ room → InRoom left c → InRoom room (content_behind text used c)
behind_room text used left room (Whole content len) low fits = omega (arith, low, fits, length-append text content)
behind_room text used left room (Refused status) low fits = tt
behind_room text used left room Open low fits = tt

chunks_room : (steps room : ℕ) (bytes : List ℕ) → InRoom room (chunks_in steps room bytes)
unfolding chunks_in
chunks_room zero room bytes = tt
chunks_room (suc steps) room bytes =
    by_chunk (λ line size. chunks_room steps (room - size) (drop (chunk_len line size) bytes)) (first_chunk room bytes) (chunk_fits room bytes)
  where
    by_chunk : ((line size : ℕ) → InRoom (room - size) (chunks_in steps (room - size) (drop (chunk_len line size) bytes)))
        → (c : Chunk) → FitsChunk room (length bytes) c → InRoom room (chunk_content bytes (λ size rest. chunks_in steps (room - size) rest) c)
    by_chunk later (chunk.Data line size) fits =
        behind_room (take size (drop line bytes)) (chunk_len line size) (room - size) room (chunks_in steps (room - size) (drop (chunk_len line size) bytes))
        (omega (arith, fits.1, length-take size (drop line bytes))) (later line size)
    by_chunk later (chunk.Last n) fits = omega arith
    by_chunk later (chunk.Refused status) fits = tt
    by_chunk later chunk.Open fits = tt

sized_room : (n limit : ℕ) (bytes : List ℕ) → n ≤ limit → InRoom limit (sized_content n bytes)
sized_room n limit bytes low = by_test (nat_le n (length bytes))
  where
    by_test : (t : Bool) → InRoom limit (if t then Whole (take n bytes) n else Open)
    by_test true = omega (arith, low, length-take n bytes)
    by_test false = tt

content_room : (limit minor : ℕ) (target : List ℕ) (fields : List Field) (bytes : List ℕ) → refusal_of limit minor target fields ≡ None → InRoom limit (content_of limit fields bytes)
unfolding content_of
content_room limit minor target fields bytes passes = by_coding (is_chunked fields)
  where
    by_coding : (t : Bool) → InRoom limit (if t then chunked_content limit bytes else sized_content (content_length fields) bytes)
    by_coding true = chunks_room (length bytes) limit bytes
    by_coding false = sized_room (content_length fields) limit bytes (length_within limit minor target fields passes)

-- ---- what is found

abbrev BoundedFound : ℕ → Found → Type 0
BoundedFound limit (request m used) = IsBounded limit m
BoundedFound limit (bad status) = ⊤
BoundedFound limit cut = ⊤
BoundedFound limit finished = ⊤
BoundedFound limit wait = ⊤

bounded_open : (limit : ℕ) (ended : Bool) → BoundedFound limit (open_found ended)
bounded_open limit false = tt
bounded_open limit true = tt

bounded_content : (limit used : ℕ) (h : RequestHead) (ended : Bool) (c : Content) → ((content : List ℕ) → length content ≤ limit → IsBounded limit (message_of h content))
    → InRoom limit c → BoundedFound limit (content_found h used ended c)
bounded_content limit used h ended (Whole content len) bounded fits = bounded content fits
bounded_content limit used h ended (Refused status) bounded fits = tt
bounded_content limit used h ended Open bounded fits = bounded_open limit ended

bounded_checked : (limit used : ℕ) (h : RequestHead) (rest : List ℕ) (ended : Bool) (refusal : Option ℕ) → ((content : List ℕ) → length content ≤ limit → IsBounded limit (message_of h content))
    → refusal_of limit h.minor h.target (fields_of h) ≡ refusal → BoundedFound limit (checked_unit h limit used rest ended refusal).found
bounded_checked limit used h rest ended (Some status) bounded is = tt
bounded_checked limit used h rest ended None bounded is =
    bounded_content limit used h ended (content_of limit (fields_of h) rest) bounded (content_room limit h.minor h.target (fields_of h) rest is)

bounded_block : (limit used : ℕ) (head rest : List ℕ) (ended many : Bool) (found : Option RequestHead) → length head ≤ head_limit → has_too_many_lines head ≡ many → head_of head ≡ found
    → BoundedFound limit (block_unit many limit used rest ended found).found
bounded_block limit used head rest ended true found short few is = tt
bounded_block limit used head rest ended false None short few is = tt
bounded_block limit used head rest ended false (Some h) short few is =
    bounded_checked limit used h rest ended (refusal_of limit h.minor h.target (fields_of h)) (λ content within. message_bounded limit head h content is short few within) refl

bounded_end : (limit : ℕ) (empty : Bool) → BoundedFound limit (end_found empty)
bounded_end limit true = tt
bounded_end limit false = tt

bounded_unready : (limit : ℕ) (ended : Bool) (bytes : List ℕ) → BoundedFound limit (unready_found ended bytes)
bounded_unready limit false bytes = tt
bounded_unready limit true bytes = bounded_end limit _

bounded_front : (limit blank : ℕ) (bytes : List ℕ) (ended : Bool) (front : Front) → ((n : ℕ) → front ≡ block n → n ≤ head_limit) → BoundedFound limit (front_unit limit blank bytes ended front).found
bounded_front limit blank bytes ended unready short = bounded_unready limit ended bytes
bounded_front limit blank bytes ended too_long short = tt
bounded_front limit blank bytes ended (block n) short =
    bounded_block limit (blank + n) (take n bytes) (drop n bytes) ended (has_too_many_lines (take n bytes)) (head_of (take n bytes))
    (omega (arith, short n refl, length-take n bytes)) refl refl

-- a block ends within the limit
front_short : (limit : ℕ) (bytes : List ℕ) (n : ℕ) → front_of limit bytes ≡ block n → n ≤ limit
unfolding front_of block_len
front_short limit bytes n is = by_len (block_len (take limit bytes)) refl is
  where
    by_length : (t : Bool) → (if t then too_long else unready) ≡ block n → n ≤ limit
    by_length true is = absurd (cc)
    by_length false is = absurd (cc)

    by_len : (o : Option ℕ) → block_len (take limit bytes) ≡ o → front_found limit bytes o ≡ block n → n ≤ limit
    by_len (Some k) is same =
        let e : k ≡ n = cc in
        omega (arith, block_within (take limit bytes) k is, e, length-take limit bytes)
    by_len None is same = by_length (nat_le limit (length bytes)) same

unit_bounded : (bytes : List ℕ) (ended : Bool) (limit : ℕ) → BoundedFound limit (next_unit bytes ended limit).found
unfolding next_unit
unit_bounded bytes ended limit =
    let rest = drop (blank_len bytes) bytes in
    bounded_front limit (blank_len bytes) rest ended (front_of head_limit rest) (front_short head_limit rest)

pub request_bounded : (bytes : List ℕ) (ended : Bool) (limit : ℕ) (m : Message) (used : ℕ) → (next_unit bytes ended limit).found ≡ request m used → IsBounded limit m
request_bounded bytes ended limit m used is = subst (λ (f : Found). BoundedFound limit f) is (unit_bounded bytes ended limit)
