-- What is found stays as it is, however the input goes on.
use Rattle.std.proofs.Common.{ℕ, ◌≡◌, ◌≢◌, ◌+◌, ◌≤◌, refl, sym, ap, ◌∙◌, List, [], ◌∷◌, ◌++◌, length, take, drop, Bool, true, false, ◌==◌, nat_eq, Option, Some, None, arith, drop-drop, length-take}
use Rattle.std.proofs.lemmas.List.{take-append-le, drop-append-le}
use Rattle.std.specs.List.{starts_with}
use Rattle.std.proofs.lemmas.Bool.{eqb-true, and_parts, or_parts, false≢true}
use Rattle.httparse.specs.Grammar.{RequestHead}
use Rattle.http_front.specs.declared.content.Content.{Content}
use Rattle.http_front.specs.declared.content.Content.TheVariants.{Whole, Refused, Open}
use Rattle.http_front.specs.Head.{head_of, lines_in}
use Rattle.http_front.specs.Front.{Front, unready, too_long, block, is_empty_line, blank_step, blank_in, block_step, block_in, blank_len, block_len, front_found, front_of, is_ready, head_begun}
use Rattle.unit_types.specs.Limits.{head_limit}
use Rattle.http_front.specs.Message.{fields_of}
use Rattle.http_front.specs.Checks.{has_too_many_lines, refusal_of}
use Rattle.http_front.specs.Content.{content_of, is_continue_due}
use Rattle.http_front.specs.NextUnit.{wait, content_found, checked_unit, block_unit, end_found, front_unit, next_unit}
use Rattle.http_front.proofs.BlockLemmas.{blank_feed, blank_return, blank_feed_yes, blank_return_yes, blank_neither, blank_dropped, blank_taken, blank_within, block_within}
use Rattle.http_front.proofs.FrontStays.{ready_long, some_injective, front_stays, front_fits}
use Rattle.http_front.proofs.ContentStays.{content_stays}

-- ---- empty lines in front of more

abbrev Adds : List ℕ → List ℕ → Type 0
Adds more xs = blank_in (lines_in (xs ++ more)) ≡ blank_in (lines_in xs) + blank_in (lines_in (drop (blank_in (lines_in xs)) xs ++ more))

feed_more : (xs more : List ℕ) → starts_with nat_eq xs (10 ∷ []) ≡ true → blank_in (lines_in (xs ++ more)) ≡ 1 + blank_in (lines_in (drop 1 xs ++ more))
feed_more [] more starts = cc
feed_more (x ∷ xs) more starts =
    let same : 10 ≡ x = eqb-true 10 x (and_parts (10 == x) true starts).0 in
    rw (← same) (blank_feed (xs ++ more))

return_more : (xs more : List ℕ) → starts_with nat_eq xs (13 ∷ 10 ∷ []) ≡ true → blank_in (lines_in (xs ++ more)) ≡ 2 + blank_in (lines_in (drop 2 xs ++ more))
return_more [] more starts = cc
return_more (x ∷ []) more starts = let both = and_parts (13 == x) false starts in absurd (false≢true both.1)
return_more (x ∷ y ∷ xs) more starts =
    let both = and_parts (13 == x) _ starts in
    let first : 13 ≡ x = eqb-true 13 x both.0 in
    let second : 10 ≡ y = eqb-true 10 y (and_parts (10 == y) true both.1).0 in
    rw (← first, ← second) (blank_return (xs ++ more))

adds_step : (more xs : List ℕ) (t u : Bool) → starts_with nat_eq xs (10 ∷ []) ≡ t → starts_with nat_eq xs (13 ∷ 10 ∷ []) ≡ u
    → Adds more (drop 1 xs) → Adds more (drop 2 xs) → Adds more xs
adds_step more xs true u feed return one two =
    let n = blank_in (lines_in (drop 1 xs)) in
    let passed = blank_feed_yes xs feed in
    let rest : drop (blank_in (lines_in xs)) xs ≡ drop n (drop 1 xs) = ap (λ k. drop k xs) passed ∙ sym (drop-drop n 1 xs) in
    let tail = ap (λ ys. blank_in (lines_in (ys ++ more))) rest in
    let whole = feed_more xs more feed in
    omega (arith, passed, tail, whole, one)
adds_step more xs false true feed return one two =
    let n = blank_in (lines_in (drop 2 xs)) in
    let passed = blank_return_yes xs return in
    let rest : drop (blank_in (lines_in xs)) xs ≡ drop n (drop 2 xs) = ap (λ k. drop k xs) passed ∙ sym (drop-drop n 2 xs) in
    let tail = ap (λ ys. blank_in (lines_in (ys ++ more))) rest in
    let whole = return_more xs more return in
    omega (arith, passed, tail, whole, two)
adds_step more xs false false feed return one two =
    let passed = blank_neither xs feed return in
    let tail = ap (λ k. blank_in (lines_in (drop k xs ++ more))) passed in
    omega (arith, passed, tail)

blank_more : (more xs : List ℕ) → Adds more xs
blank_more more [] = omega arith
blank_more more (x ∷ []) = adds_step more (x ∷ []) _ _ refl refl (omega arith) (omega arith)
blank_more more (x ∷ y ∷ ys) = adds_step more (x ∷ y ∷ ys) _ _ refl refl (blank_more more (y ∷ ys)) (blank_more more ys)

-- two bytes tell that no empty line begins
not_blank : (xs more : List ℕ) → 2 ≤ length xs → blank_in (lines_in xs) ≡ 0 → blank_in (lines_in (xs ++ more)) ≡ 0
not_blank [] more long none = absurd (omega arith)
not_blank (x ∷ []) more long none = absurd (omega arith)
not_blank (x ∷ y ∷ ys) more long none = by_start (starts_with nat_eq (x ∷ y ∷ ys) (10 ∷ [])) (starts_with nat_eq (x ∷ y ∷ ys) (13 ∷ 10 ∷ [])) refl refl
  where
    by_start : (t u : Bool) → starts_with nat_eq (x ∷ y ∷ ys) (10 ∷ []) ≡ t → starts_with nat_eq (x ∷ y ∷ ys) (13 ∷ 10 ∷ []) ≡ u
        → blank_in (lines_in (x ∷ y ∷ (ys ++ more))) ≡ 0
    by_start true u feed return = let passed = blank_feed_yes (x ∷ y ∷ ys) feed in absurd (omega (arith, passed, none))
    by_start false true feed return = let passed = blank_return_yes (x ∷ y ∷ ys) return in absurd (omega (arith, passed, none))
    by_start false false feed return = blank_neither (x ∷ y ∷ (ys ++ more)) feed return

-- a block behind empty lines has two bytes at least
block_long : (ls : List (List ℕ)) (n : ℕ) → blank_in ls ≡ 0 → block_in ls ≡ Some n → 2 ≤ n
block_long [] n none is = absurd (cc)
block_long (l ∷ ls) n none is = by_line (is_empty_line l) refl (block_in ls) none is
  where
    full : is_empty_line l ≡ false → length l ≢ 0
    full other e = false≢true (sym (or_parts (length l == 0) _ other).0 ∙ ap (λ k. k == 0) e)

    by_line : (t : Bool) → is_empty_line l ≡ t → (o : Option ℕ) → blank_step t (length l) (blank_in ls) ≡ 0 → block_step t (length l) o ≡ Some n → 2 ≤ n
    by_line true line o none is = absurd (omega arith)
    by_line false line None none is = absurd (cc)
    by_line false line (Some k) none is =
        let some : length l ≢ 0 = full line in
        let same : length l + 1 + k ≡ n = some_injective (length l + 1 + k) n is in
        omega (arith, some, same)

-- a front that is ready has two bytes at least
front_long : (limit : ℕ) (bytes : List ℕ) → 2 ≤ limit → blank_in (lines_in bytes) ≡ 0 → is_ready (front_of limit bytes) ≡ true → 2 ≤ length bytes
unfolding front_of block_len
front_long limit bytes wide none ready = by_block (block_in (lines_in (take limit bytes))) refl ready
  where
    by_block : (o : Option ℕ) → block_in (lines_in (take limit bytes)) ≡ o → is_ready (front_found limit bytes o) ≡ true → 2 ≤ length bytes
    by_block (Some n) is ready =
        let long = block_long (lines_in (take limit bytes)) n (blank_taken limit bytes none) is in
        let within = block_within (take limit bytes) n is in
        omega (arith, long, within, length-take limit bytes)
    by_block None is ready = let long = ready_long limit bytes ready in omega (arith, long, wide)

-- what is unready waits
unready_waits : (limit blank : ℕ) (bytes : List ℕ) (front : Front) → is_ready front ≡ false → (front_unit limit blank bytes false front).found ≡ wait
unready_waits limit blank bytes unready idle = refl
unready_waits limit blank bytes too_long idle = cc
unready_waits limit blank bytes (block n) idle = cc

-- ---- the unit of a block

not_open : (h : RequestHead) (used : ℕ) (c : Content) → content_found h used false c ≢ wait → c ≢ Open
not_open h used c told is = told (ap (content_found h used false) is)

-- but for content that is open, the end of the input is not looked at
either_end : (h : RequestHead) (used : ℕ) (ended : Bool) (c : Content) → c ≢ Open → content_found h used ended c ≡ content_found h used false c
either_end h used ended (Whole content len) told = refl
either_end h used ended (Refused status) told = refl
either_end h used ended Open told = absurd (told refl)

checked_stays : (h : RequestHead) (limit used : ℕ) (rest more : List ℕ) (ended : Bool) (refusal : Option ℕ)
    → (checked_unit h limit used rest false refusal).found ≢ wait
    → checked_unit h limit used (rest ++ more) ended refusal ≡ checked_unit h limit used rest false refusal
checked_stays h limit used rest more ended (Some status) told = refl
checked_stays h limit used rest more ended None told =
    let some = not_open h used (content_of limit (fields_of h) rest) told in
    let found : content_found h used ended (content_of limit (fields_of h) (rest ++ more)) ≡ content_found h used false (content_of limit (fields_of h) rest) =
    ap (content_found h used ended) (content_stays limit (fields_of h) rest more some) ∙ either_end h used ended (content_of limit (fields_of h) rest) some in
    λ i. record { continue_due = is_continue_due h.minor (fields_of h); found = found i }

block_stays : (many : Bool) (limit used : ℕ) (rest more : List ℕ) (ended : Bool) (head : Option RequestHead)
    → (block_unit many limit used rest false head).found ≢ wait
    → block_unit many limit used (rest ++ more) ended head ≡ block_unit many limit used rest false head
block_stays true limit used rest more ended head told = refl
block_stays false limit used rest more ended None told = refl
block_stays false limit used rest more ended (Some h) told =
    checked_stays h limit used rest more ended (refusal_of limit h.minor h.target (fields_of h)) told

-- the unit of a front that is ready
ready_unit : (limit blank : ℕ) (bytes more : List ℕ) (ended : Bool) (front : Front) → is_ready front ≡ true
    → ((n : ℕ) → front ≡ block n → n ≤ length bytes) → (front_unit limit blank bytes false front).found ≢ wait
    → front_unit limit blank (bytes ++ more) ended front ≡ front_unit limit blank bytes false front
ready_unit limit blank bytes more ended unready ready fits told = cc
ready_unit limit blank bytes more ended too_long ready fits told = refl
ready_unit limit blank bytes more ended (block n) ready fits told =
    let low = fits n refl in
    (λ i. block_unit (has_too_many_lines (take-append-le n bytes more low i)) limit (blank + n) (drop-append-le n bytes more low i) ended (head_of (take-append-le n bytes more low i)))
    ∙ block_stays (has_too_many_lines (take n bytes)) limit (blank + n) (drop n bytes) more ended (head_of (take n bytes)) told

-- ---- the law

-- a head that is complete stays so, and what is found stays
abbrev pub rest_of : List ℕ → List ℕ
rest_of bytes = drop (blank_len bytes) bytes

rest_blank : (bytes : List ℕ) → blank_in (lines_in (rest_of bytes)) ≡ 0
unfolding blank_len
rest_blank bytes = blank_dropped bytes

pub blank_within_len : (bytes : List ℕ) → blank_len bytes ≤ length bytes
unfolding blank_len
blank_within_len bytes = blank_within bytes

pub blank_stays : (bytes more : List ℕ) → head_begun bytes ≡ true → blank_len (bytes ++ more) ≡ blank_len bytes
unfolding blank_len
blank_stays bytes more begun =
    let long = front_long head_limit (rest_of bytes) (omega arith) (blank_dropped bytes) begun in
    let none = not_blank (rest_of bytes) more long (blank_dropped bytes) in
    let adds = blank_more more bytes in
    omega (arith, adds, none)

pub rest_stays : (bytes more : List ℕ) → head_begun bytes ≡ true → rest_of (bytes ++ more) ≡ rest_of bytes ++ more
rest_stays bytes more begun =
    ap (λ n. drop n (bytes ++ more)) (blank_stays bytes more begun) ∙ drop-append-le (blank_len bytes) bytes more (blank_within_len bytes)

pub begun_stays : (bytes more : List ℕ) → head_begun bytes ≡ true → front_of head_limit (rest_of (bytes ++ more)) ≡ front_of head_limit (rest_of bytes)
begun_stays bytes more begun =
    ap (front_of head_limit) (rest_stays bytes more begun) ∙ front_stays head_limit (rest_of bytes) more begun

next_stays : (bytes more : List ℕ) (ended : Bool) (limit : ℕ) → head_begun bytes ≡ true → (next_unit bytes false limit).found ≢ wait
    → next_unit (bytes ++ more) ended limit ≡ next_unit bytes false limit
unfolding next_unit
next_stays bytes more ended limit begun told =
    (λ i. front_unit limit (blank_stays bytes more begun i) (rest_stays bytes more begun i) ended (begun_stays bytes more begun i))
    ∙ (ready_unit limit (blank_len bytes) (rest_of bytes) more ended (front_of head_limit (rest_of bytes)) begun (front_fits head_limit (rest_of bytes)) told)

not_begun_waits : (bytes : List ℕ) (limit : ℕ) → head_begun bytes ≡ false → (next_unit bytes false limit).found ≡ wait
unfolding next_unit
not_begun_waits bytes limit idle = unready_waits limit (blank_len bytes) (rest_of bytes) (front_of head_limit (rest_of bytes)) idle

pub found_stays : (bytes more : List ℕ) (ended : Bool) (limit : ℕ) → (next_unit bytes false limit).found ≢ wait
    → next_unit (bytes ++ more) ended limit ≡ next_unit bytes false limit
found_stays bytes more ended limit told = by_begun (head_begun bytes) refl
  where
    by_begun : (t : Bool) → head_begun bytes ≡ t → next_unit (bytes ++ more) ended limit ≡ next_unit bytes false limit
    by_begun true begun = next_stays bytes more ended limit begun told
    by_begun false idle = absurd (told (not_begun_waits bytes limit idle))

-- ---- after the end of the input nothing waits

tells_end : (empty : Bool) → end_found empty ≢ wait
tells_end true is = cc
tells_end false is = cc

tells_content : (h : RequestHead) (used : ℕ) (c : Content) → content_found h used true c ≢ wait
tells_content h used (Whole content len) is = cc
tells_content h used (Refused status) is = cc
tells_content h used Open is = cc

tells_checked : (h : RequestHead) (limit used : ℕ) (rest : List ℕ) (refusal : Option ℕ) → (checked_unit h limit used rest true refusal).found ≢ wait
tells_checked h limit used rest (Some status) is = cc
tells_checked h limit used rest None is = tells_content h used (content_of limit (fields_of h) rest) is

tells_block : (many : Bool) (limit used : ℕ) (rest : List ℕ) (head : Option RequestHead) → (block_unit many limit used rest true head).found ≢ wait
tells_block true limit used rest head is = cc
tells_block false limit used rest None is = cc
tells_block false limit used rest (Some h) is = tells_checked h limit used rest (refusal_of limit h.minor h.target (fields_of h)) is

tells_front : (limit blank : ℕ) (bytes : List ℕ) (front : Front) → (front_unit limit blank bytes true front).found ≢ wait
tells_front limit blank bytes unready is = tells_end (length bytes == 0) is
tells_front limit blank bytes too_long is = cc
tells_front limit blank bytes (block n) is = tells_block (has_too_many_lines (take n bytes)) limit (blank + n) (drop n bytes) (head_of (take n bytes)) is

pub ended_tells : (bytes : List ℕ) (limit : ℕ) → (next_unit bytes true limit).found ≢ wait
unfolding next_unit
ended_tells bytes limit = tells_front limit (blank_len bytes) (rest_of bytes) (front_of head_limit (rest_of bytes))
