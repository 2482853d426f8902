-- When `100 Continue` is due.
use Rattle.std.proofs.Common.{ℕ, ◌≡◌, ◌≢◌, ◌+◌, ◌≤◌, refl, ap, ◌∙◌, List, ◌++◌, take, drop, length, Bool, true, false, Option, Some, None}
use Rattle.std.proofs.lemmas.List.{take-append-le, drop-append-le}
use Rattle.httparse.specs.Grammar.{RequestHead}
use Rattle.http_front.specs.declared.content.Content.{Content}
use Rattle.http_front.specs.declared.content.Content.TheVariants.{Whole, Refused, Open}
use Rattle.http_front.specs.Head.{head_of}
use Rattle.http_front.specs.Front.{Front, unready, too_long, block, blank_len, front_of, is_ready, head_begun}
use Rattle.unit_types.specs.Limits.{head_limit}
use Rattle.http_front.specs.Message.{fields_of}
use Rattle.http_front.specs.Checks.{has_too_many_lines, refusal_of}
use Rattle.http_front.specs.Content.{content_of}
use Rattle.http_front.specs.NextUnit.{finished, content_found, checked_unit, block_unit, front_unit, next_unit}
use Rattle.http_front.proofs.FrontStays.{front_fits}
use Rattle.http_front.proofs.StayLemmas.{rest_of, blank_stays, rest_stays, begun_stays}

-- ---- it is due by the head alone

due_checked : (h : RequestHead) (limit used : ℕ) (rest more : List ℕ) (ended over : Bool) (refusal : Option ℕ)
    → (checked_unit h limit used rest ended refusal).continue_due ≡ (checked_unit h limit used more over refusal).continue_due
due_checked h limit used rest more ended over (Some status) = refl
due_checked h limit used rest more ended over None = refl

due_block : (many : Bool) (limit used : ℕ) (rest more : List ℕ) (ended over : Bool) (head : Option RequestHead)
    → (block_unit many limit used rest ended head).continue_due ≡ (block_unit many limit used more over head).continue_due
due_block true limit used rest more ended over head = refl
due_block false limit used rest more ended over None = refl
due_block false limit used rest more ended over (Some h) = due_checked h limit used rest more ended over (refusal_of limit h.minor h.target (fields_of h))

due_front : (limit blank : ℕ) (bytes more : List ℕ) (ended over : Bool) (front : Front) → is_ready front ≡ true → ((n : ℕ) → front ≡ block n → n ≤ length bytes)
    → (front_unit limit blank (bytes ++ more) ended front).continue_due ≡ (front_unit limit blank bytes over front).continue_due
due_front limit blank bytes more ended over unready ready fits = cc
due_front limit blank bytes more ended over too_long ready fits = refl
due_front limit blank bytes more ended over (block n) ready fits =
    let low = fits n refl in
    (λ i. (block_unit (has_too_many_lines (take-append-le n bytes more low i)) limit (blank + n) (drop-append-le n bytes more low i) ended (head_of (take-append-le n bytes more low i))).continue_due)
    ∙ due_block (has_too_many_lines (take n bytes)) limit (blank + n) (drop n bytes ++ more) (drop n bytes) ended over (head_of (take n bytes))

-- however the input goes on behind a complete head, it stays due or not
pub due_stays : (bytes more : List ℕ) (ended : Bool) (limit : ℕ) → head_begun bytes ≡ true
    → (next_unit (bytes ++ more) ended limit).continue_due ≡ (next_unit bytes false limit).continue_due
unfolding next_unit
due_stays bytes more ended limit begun =
    (λ i. (front_unit limit (blank_stays bytes more begun i) (rest_stays bytes more begun i) ended (begun_stays bytes more begun i)).continue_due)
    ∙ due_front limit (blank_len bytes) (rest_of bytes) more ended false (front_of head_limit (rest_of bytes)) begun (front_fits head_limit (rest_of bytes))

pub complete_stays : (bytes more : List ℕ) → head_begun bytes ≡ true → head_begun (bytes ++ more) ≡ true
complete_stays bytes more begun = ap is_ready (begun_stays bytes more begun) ∙ begun

-- and before that it is not
due_ready : (limit blank : ℕ) (bytes : List ℕ) (ended : Bool) (front : Front) → (front_unit limit blank bytes ended front).continue_due ≡ true → is_ready front ≡ true
due_ready limit blank bytes ended unready due = absurd (cc)
due_ready limit blank bytes ended too_long due = refl
due_ready limit blank bytes ended (block n) due = refl

pub due_begun : (bytes : List ℕ) (ended : Bool) (limit : ℕ) → (next_unit bytes ended limit).continue_due ≡ true → head_begun bytes ≡ true
unfolding next_unit
due_begun bytes ended limit due = due_ready limit (blank_len bytes) (rest_of bytes) ended (front_of head_limit (rest_of bytes)) due

-- ---- an input that ended between requests

content_unfinished : (h : RequestHead) (used : ℕ) (ended : Bool) (c : Content) → content_found h used ended c ≢ finished
content_unfinished h used ended (Whole content len) is = cc
content_unfinished h used ended (Refused status) is = cc
content_unfinished h used true Open is = cc
content_unfinished h used false Open is = cc

block_unfinished : (many : Bool) (limit used : ℕ) (rest : List ℕ) (ended : Bool) (head : Option RequestHead) → (block_unit many limit used rest ended head).found ≢ finished
block_unfinished true limit used rest ended head is = cc
block_unfinished false limit used rest ended None is = cc
block_unfinished false limit used rest ended (Some h) is = by_refusal (refusal_of limit h.minor h.target (fields_of h)) is
  where
    by_refusal : (refusal : Option ℕ) → (checked_unit h limit used rest ended refusal).found ≢ finished
    by_refusal (Some status) is = cc
    by_refusal None is = content_unfinished h used ended (content_of limit (fields_of h) rest) is

finished_front : (limit blank : ℕ) (bytes : List ℕ) (ended : Bool) (front : Front) → (front_unit limit blank bytes ended front).found ≡ finished
    → (front_unit limit blank bytes ended front).continue_due ≡ false
finished_front limit blank bytes ended unready is = refl
finished_front limit blank bytes ended too_long is = refl
finished_front limit blank bytes ended (block n) is =
    absurd (block_unfinished (has_too_many_lines (take n bytes)) limit (blank + n) (drop n bytes) ended (head_of (take n bytes)) is)

pub finished_idle : (bytes : List ℕ) (ended : Bool) (limit : ℕ) → (next_unit bytes ended limit).found ≡ finished → (next_unit bytes ended limit).continue_due ≡ false
unfolding next_unit
finished_idle bytes ended limit is = finished_front limit (blank_len bytes) (rest_of bytes) ended (front_of head_limit (rest_of bytes)) is

begun_front : (limit blank : ℕ) (bytes : List ℕ) (ended : Bool) (front : Front) → is_ready front ≡ true → (front_unit limit blank bytes ended front).found ≢ finished
begun_front limit blank bytes ended unready ready is = absurd (cc ready)
begun_front limit blank bytes ended too_long ready is = cc
begun_front limit blank bytes ended (block n) ready is =
    block_unfinished (has_too_many_lines (take n bytes)) limit (blank + n) (drop n bytes) ended (head_of (take n bytes)) is

-- behind a complete head the input doesn't end between requests
pub begun_unfinished : (bytes : List ℕ) (ended : Bool) (limit : ℕ) → head_begun bytes ≡ true → (next_unit bytes ended limit).found ≢ finished
unfolding next_unit
begun_unfinished bytes ended limit begun is = begun_front limit (blank_len bytes) (rest_of bytes) ended (front_of head_limit (rest_of bytes)) begun is

-- ---- before the head is complete no limit counts

alike_front : (limit other blank : ℕ) (bytes : List ℕ) (ended : Bool) (front : Front) → is_ready front ≡ false
    → front_unit limit blank bytes ended front ≡ front_unit other blank bytes ended front
alike_front limit other blank bytes ended unready is = refl
alike_front limit other blank bytes ended too_long is = cc
alike_front limit other blank bytes ended (block n) is = cc

pub unbegun_alike : (bytes : List ℕ) (ended : Bool) (limit other : ℕ) → head_begun bytes ≡ false → next_unit bytes ended limit ≡ next_unit bytes ended other
unfolding next_unit
unbegun_alike bytes ended limit other is = alike_front limit other (blank_len bytes) (rest_of bytes) ended (front_of head_limit (rest_of bytes)) is
