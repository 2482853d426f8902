-- What is found of a content stays as it is, however the input goes on.
use Rattle.std.proofs.Common.{ℕ, ◌≡◌, ◌≢◌, ◌+◌, ◌-◌, ◌≤◌, ◌<◌, zero, suc, refl, ap, ◌∙◌, List, [], ◌∷◌, ◌++◌, length, take, drop, Bool, true, false, ◌==◌, nat_le, nat_lt, if◌then◌else◌, Option, Some, None, arith, length-drop, length-append}
use Rattle.std.specs.Bool.{⊤}
use Rattle.std.proofs.lemmas.List.{take-append-le, drop-append-le}
use Rattle.std.proofs.lemmas.Bool.{leb-true, le-leb}
use Rattle.std.proofs.lemmas.Bool.Decides.{nat_tests}
use Rattle.unit_types.specs.declared.field.Field.{Field}
use Rattle.http_front.specs.declared.content.Content.{Content}
use Rattle.http_front.specs.declared.framing.Framing.{Framing}
use Rattle.http_front.specs.declared.framing.Framing.TheVariants.{Length, Chunks}
use Rattle.http_front.specs.declared.chunk.Chunk.{Chunk}
use Rattle.http_front.specs.declared.chunk.Chunk.TheVariants.{Data, Last, Refused, Open}
use Rattle.http_front.specs.Front.{Front, unready, too_long, block, front_of, is_ready}
use Rattle.unit_types.specs.Limits.{head_limit}
use Rattle.http_front.specs.Framing.{is_chunked, content_length}
use Rattle.http_front.specs.ChunkLine.{chunk_size_of}
use Rattle.http_front.specs.Chunks.{line_feed_chunk, return_chunk, data_chunk, last_chunk, sized_chunk, line_chunk, front_chunk, line_front, first_chunk, content_behind, chunk_len, chunk_content, chunks_in, chunked_content}
use Rattle.http_front.specs.Content.{sized_content, content_by, content_of}
use Rattle.http_front.proofs.FrontStays.{front_stays, front_fits, line_stays, line_fits}

-- a status that refuses (RFC 9110, sections 15.5 and 15.6)
abbrev pub IsErrorStatus : ℕ → Type 0
IsErrorStatus status = (400 ≤ status) × (status < 600)

-- ---- a chunk lies in its bytes, and its data in the room for them

abbrev pub FitsChunk : ℕ → ℕ → Chunk → Type 0
FitsChunk room have (Data line size) = (line + size + 2 ≤ have) × (size ≤ room)
FitsChunk room have (Last n) = n ≤ have
FitsChunk room have (Refused status) = IsErrorStatus status
FitsChunk room have Open = ⊤

feed_fits : (room have line size : ℕ) (bytes : List ℕ) → line + size + 1 + length bytes ≤ have → size ≤ room → FitsChunk room have (line_feed_chunk line size bytes)
feed_fits room have line size [] low small = tt
feed_fits room have line size (b ∷ bytes) low small = by_test (b == 10)
  where
    by_test : (t : Bool) → FitsChunk room have (if t then Data line size else Refused 400)
    by_test true = (omega (arith, low), small)
    by_test false = omega arith

return_fits : (room have line size : ℕ) (bytes : List ℕ) → line + size + length bytes ≤ have → size ≤ room → FitsChunk room have (return_chunk line size bytes)
return_fits room have line size [] low small = tt
return_fits room have line size (b ∷ bytes) low small = by_test (b == 13)
  where
    by_test : (t : Bool) → FitsChunk room have (if t then line_feed_chunk line size bytes else Refused 400)
    by_test true = feed_fits room have line size bytes (omega (arith, low)) small
    by_test false = omega arith

data_fits : (room have line size : ℕ) (bytes : List ℕ) → line + length bytes ≤ have → size ≤ room → FitsChunk room have (data_chunk line size bytes)
data_fits room have line size bytes low small = by_test (nat_le size (length bytes)) refl
  where
    by_test : (t : Bool) → nat_le size (length bytes) ≡ t → FitsChunk room have (if t then return_chunk line size (drop size bytes) else Open)
    by_test true is =
        let within = leb-true size (length bytes) is in
        return_fits room have line size (drop size bytes) (omega (arith, low, within, length-drop size bytes)) small
    by_test false is = tt

last_fits : (room have line : ℕ) (bytes : List ℕ) → line + length bytes ≤ have → FitsChunk room have (last_chunk line (front_of head_limit bytes))
last_fits room have line bytes low = by_front (front_of head_limit bytes) refl
  where
    by_front : (f : Front) → front_of head_limit bytes ≡ f → FitsChunk room have (last_chunk line f)
    by_front unready is = tt
    by_front too_long is = omega arith
    by_front (block n) is = let within = front_fits head_limit bytes n is in omega (arith, low, within)

sized_fits : (room have line size : ℕ) (bytes : List ℕ) → line + length bytes ≤ have → FitsChunk room have (sized_chunk room line size bytes)
sized_fits room have line size bytes low = by_room (nat_lt room size) refl (size == 0)
  where
    by_room : (t : Bool) → nat_lt room size ≡ t → (u : Bool)
        → FitsChunk room have (if t then Refused 413 else if u then last_chunk line (front_of head_limit bytes) else data_chunk line size bytes)
    by_room true is u = omega arith
    by_room false is true = last_fits room have line bytes low
    by_room false is false = let small : size ≤ room = grind (arith, nat_tests) in data_fits room have line size bytes low small

line_chunk_fits : (room have line : ℕ) (bytes : List ℕ) (size : Option ℕ) → line + length bytes ≤ have → FitsChunk room have (line_chunk room line bytes size)
line_chunk_fits room have line bytes None low = omega arith
line_chunk_fits room have line bytes (Some size) low = sized_fits room have line size bytes low

pub chunk_fits : (room : ℕ) (bytes : List ℕ) → FitsChunk room (length bytes) (first_chunk room bytes)
unfolding first_chunk
chunk_fits room bytes = by_front (line_front bytes) refl
  where
    by_front : (f : Front) → line_front bytes ≡ f → FitsChunk room (length bytes) (front_chunk room bytes f)
    by_front unready is = tt
    by_front too_long is = omega arith
    by_front (block n) is =
        let within = line_fits bytes n is in
        line_chunk_fits room (length bytes) n (drop n bytes) (chunk_size_of (take n bytes)) (omega (arith, within, length-drop n bytes))

-- ---- so does a content

abbrev pub FitsContent : ℕ → Content → Type 0
FitsContent have (Content.Whole content len) = len ≤ have
FitsContent have (Content.Refused status) = IsErrorStatus status
FitsContent have Content.Open = ⊤

behind_fits : (bytes : List ℕ) (used left have : ℕ) (c : Content) → used + left ≤ have → FitsContent left c → FitsContent have (content_behind bytes used c)
behind_fits bytes used left have (Content.Whole content len) low fits = omega (arith, low, fits)
behind_fits bytes used left have (Content.Refused status) low fits = fits
behind_fits bytes used left have Content.Open low fits = tt

chunks_fit : (steps room : ℕ) (bytes : List ℕ) → FitsContent (length bytes) (chunks_in steps room bytes)
unfolding chunks_in
chunks_fit zero room bytes = tt
chunks_fit (suc steps) room bytes =
    by_chunk (λ line size. chunks_fit steps (room - size) (drop (chunk_len line size) bytes)) (first_chunk room bytes) (chunk_fits room bytes)
  where
    by_chunk : ((line size : ℕ) → FitsContent (length (drop (chunk_len line size) bytes)) (chunks_in steps (room - size) (drop (chunk_len line size) bytes)))
        → (c : Chunk) → FitsChunk room (length bytes) c → FitsContent (length bytes) (chunk_content bytes (λ size rest. chunks_in steps (room - size) rest) c)
    by_chunk later (Data line size) fits =
        behind_fits (take size (drop line bytes)) (chunk_len line size) (length (drop (chunk_len line size) bytes)) (length bytes)
        (chunks_in steps (room - size) (drop (chunk_len line size) bytes))
        (omega (arith, fits.0, length-drop (chunk_len line size) bytes)) (later line size)
    by_chunk later (Last n) fits = fits
    by_chunk later (Refused status) fits = fits
    by_chunk later Open fits = tt

sized_content_fits : (n : ℕ) (bytes : List ℕ) → FitsContent (length bytes) (sized_content n bytes)
sized_content_fits n bytes = by_test (nat_le n (length bytes)) refl
  where
    by_test : (t : Bool) → nat_le n (length bytes) ≡ t → FitsContent (length bytes) (if t then Content.Whole (take n bytes) n else Content.Open)
    by_test true is = leb-true n (length bytes) is
    by_test false is = tt

pub framed_fits : (framing : Framing) (bytes : List ℕ) → FitsContent (length bytes) (content_by framing bytes)
framed_fits (Length n) bytes = sized_content_fits n bytes
framed_fits (Chunks room) bytes = chunks_fit (length bytes) room bytes

pub content_fits : (limit : ℕ) (fields : List Field) (bytes : List ℕ) → FitsContent (length bytes) (content_of limit fields bytes)
unfolding content_of
content_fits limit fields bytes = by_coding (is_chunked fields)
  where
    by_coding : (t : Bool) → FitsContent (length bytes) (if t then chunked_content limit bytes else sized_content (content_length fields) bytes)
    by_coding true = chunks_fit (length bytes) limit bytes
    by_coding false = sized_content_fits (content_length fields) bytes

-- ---- a chunk in front of more

feed_stays : (line size : ℕ) (bytes more : List ℕ) → line_feed_chunk line size bytes ≢ Open → line_feed_chunk line size (bytes ++ more) ≡ line_feed_chunk line size bytes
feed_stays line size [] more told = absurd (told refl)
feed_stays line size (b ∷ bytes) more told = refl

return_stays : (line size : ℕ) (bytes more : List ℕ) → return_chunk line size bytes ≢ Open → return_chunk line size (bytes ++ more) ≡ return_chunk line size bytes
return_stays line size [] more told = absurd (told refl)
return_stays line size (b ∷ bytes) more told = by_test (b == 13) told
  where
    by_test : (t : Bool) → (if t then line_feed_chunk line size bytes else Refused 400) ≢ Open
        → (if t then line_feed_chunk line size (bytes ++ more) else Refused 400) ≡ (if t then line_feed_chunk line size bytes else Refused 400)
    by_test true told = feed_stays line size bytes more told
    by_test false told = refl

data_stays : (line size : ℕ) (bytes more : List ℕ) → data_chunk line size bytes ≢ Open → data_chunk line size (bytes ++ more) ≡ data_chunk line size bytes
data_stays line size bytes more told = by_test (nat_le size (length bytes)) refl
  where
    by_test : (t : Bool) → nat_le size (length bytes) ≡ t → data_chunk line size (bytes ++ more) ≡ data_chunk line size bytes
    by_test true is =
        let within = leb-true size (length bytes) is in
        let longer : nat_le size (length (bytes ++ more)) ≡ true = simp length-append (le-leb size (length bytes + length more) (omega (arith, within))) in
        let some : return_chunk line size (drop size bytes) ≢ Open = rw is at told in
        rw (longer, is, drop-append-le size bytes more within) (return_stays line size (drop size bytes) more some)
    by_test false is = absurd (told (rw is refl))

last_open : (line : ℕ) (f : Front) → last_chunk line f ≢ Open → is_ready f ≡ true
last_open line unready told = absurd (told refl)
last_open line too_long told = refl
last_open line (block n) told = refl

sized_stays : (room line size : ℕ) (bytes more : List ℕ) → sized_chunk room line size bytes ≢ Open → sized_chunk room line size (bytes ++ more) ≡ sized_chunk room line size bytes
sized_stays room line size bytes more told = by_room (nat_lt room size) (size == 0) told
  where
    by_room : (t u : Bool)
        → (if t then Refused 413 else if u then last_chunk line (front_of head_limit bytes) else data_chunk line size bytes) ≢ Open
        → (if t then Refused 413 else if u then last_chunk line (front_of head_limit (bytes ++ more)) else data_chunk line size (bytes ++ more))
        ≡ (if t then Refused 413 else if u then last_chunk line (front_of head_limit bytes) else data_chunk line size bytes)
    by_room true u told = refl
    by_room false true told = ap (last_chunk line) (front_stays head_limit bytes more (last_open line (front_of head_limit bytes) told))
    by_room false false told = data_stays line size bytes more told

line_chunk_stays : (room line : ℕ) (bytes more : List ℕ) (size : Option ℕ) → line_chunk room line bytes size ≢ Open → line_chunk room line (bytes ++ more) size ≡ line_chunk room line bytes size
line_chunk_stays room line bytes more None told = refl
line_chunk_stays room line bytes more (Some size) told = sized_stays room line size bytes more told

front_ready : (room : ℕ) (bytes : List ℕ) (f : Front) → front_chunk room bytes f ≢ Open → is_ready f ≡ true
front_ready room bytes unready told = absurd (told refl)
front_ready room bytes too_long told = refl
front_ready room bytes (block n) told = refl

pub chunk_stays : (room : ℕ) (bytes more : List ℕ) → first_chunk room bytes ≢ Open → first_chunk room (bytes ++ more) ≡ first_chunk room bytes
unfolding first_chunk
chunk_stays room bytes more told =
    ap (front_chunk room (bytes ++ more)) (line_stays bytes more (front_ready room bytes (line_front bytes) told))
    ∙ by_front (line_front bytes) refl told
  where
    by_front : (f : Front) → line_front bytes ≡ f → front_chunk room bytes f ≢ Open → front_chunk room (bytes ++ more) f ≡ front_chunk room bytes f
    by_front unready is told = absurd (told refl)
    by_front too_long is told = refl
    by_front (block n) is told =
        let within = line_fits bytes n is in
        (λ i. line_chunk room n (drop-append-le n bytes more within i) (chunk_size_of (take-append-le n bytes more within i)))
        ∙ line_chunk_stays room n (drop n bytes) more (chunk_size_of (take n bytes)) told

-- ---- chunks in front of more

behind_open : (bytes : List ℕ) (used : ℕ) (c : Content) → content_behind bytes used c ≢ Content.Open → c ≢ Content.Open
behind_open bytes used c told is = told (ap (content_behind bytes used) is)

chunks_stay : (f g room : ℕ) (bytes more : List ℕ) → f ≤ g → chunks_in f room bytes ≢ Content.Open → chunks_in g room (bytes ++ more) ≡ chunks_in f room bytes
unfolding chunks_in
chunks_stay zero g room bytes more low told = absurd (told refl)
chunks_stay (suc f) zero room bytes more low told = absurd (omega arith)
chunks_stay (suc f) (suc g) room bytes more low told =
    by_chunk (λ line size some. chunks_stay f g (room - size) (drop (chunk_len line size) bytes) more (omega (arith, low)) some)
    (first_chunk room bytes) refl (chunk_fits room bytes) told
  where
    by_chunk : ((line size : ℕ) → chunks_in f (room - size) (drop (chunk_len line size) bytes) ≢ Content.Open
        → chunks_in g (room - size) (drop (chunk_len line size) bytes ++ more) ≡ chunks_in f (room - size) (drop (chunk_len line size) bytes))
        → (c : Chunk) → first_chunk room bytes ≡ c → FitsChunk room (length bytes) c
        → chunk_content bytes (λ size rest. chunks_in f (room - size) rest) c ≢ Content.Open
        → chunk_content (bytes ++ more) (λ size rest. chunks_in g (room - size) rest) (first_chunk room (bytes ++ more))
        ≡ chunk_content bytes (λ size rest. chunks_in f (room - size) rest) (first_chunk room bytes)
    by_chunk later (Data line size) is fits told =
        let same : first_chunk room (bytes ++ more) ≡ Data line size = chunk_stays room bytes more (λ e. cc) ∙ is in
        let some = behind_open (take size (drop line bytes)) (chunk_len line size) (chunks_in f (room - size) (drop (chunk_len line size) bytes)) told in
        let front : drop line (bytes ++ more) ≡ drop line bytes ++ more = drop-append-le line bytes more (omega (arith, fits.0)) in
        let text : take size (drop line (bytes ++ more)) ≡ take size (drop line bytes) =
        ap (take size) front ∙ take-append-le size (drop line bytes) more (omega (arith, fits.0, length-drop line bytes)) in
        let rest : drop (chunk_len line size) (bytes ++ more) ≡ drop (chunk_len line size) bytes ++ more = drop-append-le (chunk_len line size) bytes more fits.0 in
        rw (same, is)
        (λ i. content_behind (text i) (chunk_len line size) ((ap (chunks_in g (room - size)) rest ∙ later line size some) i))
    by_chunk later (Last n) is fits told =
        let same : first_chunk room (bytes ++ more) ≡ Last n = chunk_stays room bytes more (λ e. cc) ∙ is in
        rw (same, is) refl
    by_chunk later (Refused status) is fits told =
        let same : first_chunk room (bytes ++ more) ≡ Refused status = chunk_stays room bytes more (λ e. cc) ∙ is in
        rw (same, is) refl
    by_chunk later Open is fits told = absurd (told refl)

sized_content_stays : (n : ℕ) (bytes more : List ℕ) → sized_content n bytes ≢ Content.Open → sized_content n (bytes ++ more) ≡ sized_content n bytes
sized_content_stays n bytes more told = by_test (nat_le n (length bytes)) refl
  where
    by_test : (t : Bool) → nat_le n (length bytes) ≡ t → sized_content n (bytes ++ more) ≡ sized_content n bytes
    by_test true is =
        let within = leb-true n (length bytes) is in
        let longer : nat_le n (length (bytes ++ more)) ≡ true = simp length-append (le-leb n (length bytes + length more) (omega (arith, within))) in
        rw (longer, is, take-append-le n bytes more within) refl
    by_test false is = absurd (told (rw is refl))

pub content_stays : (limit : ℕ) (fields : List Field) (bytes more : List ℕ) → content_of limit fields bytes ≢ Content.Open
    → content_of limit fields (bytes ++ more) ≡ content_of limit fields bytes
unfolding content_of
content_stays limit fields bytes more told = by_coding (is_chunked fields) told
  where
    by_coding : (t : Bool) → (if t then chunked_content limit bytes else sized_content (content_length fields) bytes) ≢ Content.Open
        → (if t then chunked_content limit (bytes ++ more) else sized_content (content_length fields) (bytes ++ more))
        ≡ (if t then chunked_content limit bytes else sized_content (content_length fields) bytes)
    by_coding true told = chunks_stay (length bytes) (length (bytes ++ more)) limit bytes more (simp length-append (omega arith)) told
    by_coding false told = sized_content_stays (content_length fields) bytes more told
