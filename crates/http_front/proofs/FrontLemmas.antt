-- What a reader tells of the front of its bytes.
use Rattle.std.proofs.Common.{ℕ, ◌≡◌, refl, sym, ap, ◌∙◌, List, [], length, take, drop, Bool, true, false, ◌+◌, ◌≤◌, nat_le, Option, Some, None}
use Rattle.std.proofs.lemmas.Bool.{le-ltb}
use Rattle.httparse.specs.Grammar.{RequestHead}
use Rattle.unit_types.specs.declared.message.Addr.{Addr}
use Rattle.http_front.specs.declared.content.Content.{Content}
use Rattle.http_front.specs.declared.content.Content.TheVariants.{Whole, Refused, Open}
use Rattle.http_front.specs.Head.{head_of, lines_in}
use Rattle.http_front.specs.Front.{block, blank_len, block_len, front_found, front_of, is_ready, head_begun}
use Rattle.unit_types.specs.Limits.{head_limit}
use Rattle.http_front.specs.Message.{fields_of, message_of, request_of}
use Rattle.http_front.specs.Checks.{has_too_many_lines, refusal_of}
use Rattle.http_front.specs.Content.{content_of, is_continue_due}
use Rattle.http_front.specs.NextUnit.{content_found, content_unit, checked_unit, block_unit, without_block, front_unit, next_unit}
use Rattle.http_front.specs.Reading.{told_of, told_request, refused}
use Rattle.http_front.proofs.FoundLemmas.{front_is}

-- a whole block
pub next_block : (from to : Addr) (bytes : List ℕ) (ended : Bool) (limit blank n : ℕ) (rest window : List ℕ)
    → blank ≡ blank_len bytes → rest ≡ drop (blank_len bytes) bytes → window ≡ take 16384 rest → Some n ≡ block_len window
    → told_of from to true (block_unit (has_too_many_lines (take n rest)) limit (blank + n) (drop n rest) ended (head_of (take n rest)))
    ≡ told_of from to (head_begun bytes) (next_unit bytes ended limit)
unfolding next_unit
next_block from to bytes ended limit blank n rest window passed behind window_is is =
    let front : block n ≡ front_of head_limit rest = front_is rest window (Some n) window_is is in
    λ i. told_of from to (is_ready ((front ∙ ap (front_of head_limit) behind) i)) (front_unit limit (passed i) (behind i) ended ((front ∙ ap (front_of head_limit) behind) i))

-- no whole block
pub next_unready : (from to : Addr) (bytes : List ℕ) (ended : Bool) (limit : ℕ) (rest window : List ℕ)
    → rest ≡ drop (blank_len bytes) bytes → window ≡ take 16384 rest → None ≡ block_len window
    → told_of from to (is_ready (front_found 16384 rest None)) (without_block 16384 rest ended)
    ≡ told_of from to (head_begun bytes) (next_unit bytes ended limit)
unfolding next_unit
next_unready from to bytes ended limit rest window behind window_is none =
    let front : front_found 16384 rest None ≡ front_of head_limit rest = front_is rest window None window_is none in
    by_long (nat_le 16384 (length rest)) refl
    ∙ (λ i. told_of from to (is_ready ((front ∙ ap (front_of head_limit) behind) i)) (front_unit limit (blank_len bytes) (behind i) ended ((front ∙ ap (front_of head_limit) behind) i)))
  where
    by_long : (t : Bool) → nat_le 16384 (length rest) ≡ t
        → told_of from to (is_ready (front_found 16384 rest None)) (front_unit 0 0 rest ended (front_found 16384 rest None))
        ≡ told_of from to (is_ready (front_found 16384 rest None)) (front_unit limit (blank_len bytes) rest ended (front_found 16384 rest None))
    by_long true is = rw is refl
    by_long false is = rw is refl

-- as many lines as there may be
pub few_lines : (bytes : List ℕ) → length (lines_in bytes) ≤ 102 → has_too_many_lines bytes ≡ false
few_lines bytes few = le-ltb 102 (length (lines_in bytes)) few

-- too many lines
pub told_many : (from to : Addr) (many : Bool) (limit used : ℕ) (rest : List ℕ) (ended : Bool) (head : Option RequestHead) → many ≡ true
    → refused 431 ≡ told_of from to true (block_unit many limit used rest ended head)
told_many from to many limit used rest ended head is = rw is refl

-- no head
pub told_none : (from to : Addr) (many : Bool) (limit used : ℕ) (rest : List ℕ) (ended : Bool) (head : Option RequestHead) → many ≡ false → head ≡ None
    → refused 400 ≡ told_of from to true (block_unit many limit used rest ended head)
told_none from to many limit used rest ended head few none = rw (few, none) refl

-- a head that is refused
pub told_refused : (from to : Addr) (many : Bool) (limit used : ℕ) (rest : List ℕ) (ended : Bool) (head : Option RequestHead) (h : RequestHead) (status : ℕ)
    → many ≡ false → head ≡ Some h → refusal_of limit h.minor h.target (fields_of h) ≡ Some status
    → refused status ≡ told_of from to true (block_unit many limit used rest ended head)
told_refused from to many limit used rest ended head h status few is refuses =
    (ap (λ refusal. told_of from to true (checked_unit h limit used rest ended refusal)) (sym refuses))
    ∙ (λ i. told_of from to true (block_unit (sym few i) limit used rest ended (sym is i)))

-- a request and its content
told_content : (from to : Addr) (h : RequestHead) (limit used : ℕ) (rest : List ℕ) (ended : Bool)
    → told_request (request_of from to (message_of h [])) used ended (content_of limit (fields_of h) rest)
    ≡ told_of from to true (content_unit h limit used rest ended)
told_content from to h limit used rest ended = by_content (content_of limit (fields_of h) rest) ended
  where
    by_content : (c : Content) (over : Bool) → told_request (request_of from to (message_of h [])) used over c
        ≡ told_of from to true (record { continue_due = is_continue_due h.minor (fields_of h); found = content_found h used over c })
    by_content (Whole content len) over = refl
    by_content (Refused status) over = refl
    by_content Open true = refl
    by_content Open false = refl

pub told_served : (from to : Addr) (many : Bool) (limit used : ℕ) (rest : List ℕ) (ended : Bool) (head : Option RequestHead) (h : RequestHead)
    → many ≡ false → head ≡ Some h → refusal_of limit h.minor h.target (fields_of h) ≡ None
    → told_request (request_of from to (message_of h [])) used ended (content_of limit (fields_of h) rest)
    ≡ told_of from to true (block_unit many limit used rest ended head)
told_served from to many limit used rest ended head h few is serves =
    told_content from to h limit used rest ended
    ∙ (ap (λ refusal. told_of from to true (checked_unit h limit used rest ended refusal)) (sym serves))
    ∙ (λ i. told_of from to true (block_unit (sym few i) limit used rest ended (sym is i)))
