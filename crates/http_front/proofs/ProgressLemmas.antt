-- What is known of the front of the bytes, and over more of them.
use Rattle.std.proofs.Common.{ℕ, ◌≡◌, ◌+◌, ◌≤◌, refl, sym, ap, ◌∙◌, subst, List, [], ◌++◌, length, take, drop, Bool, true, false, if◌then◌else◌, Option, Some, None, arith, length-append, length-drop, drop-drop, ltb-false, Result, Ok, Err, IfOk}
use Rattle.std.proofs.lemmas.List.{take-append-le, drop-append-le}
use Rattle.httparse.specs.Grammar.{RequestHead}
use Rattle.unit_types.specs.declared.field.Field.{Field}
use Rattle.unit_types.specs.declared.message.Addr.{Addr}
use Rattle.unit_types.specs.declared.message.Request.{Request}
use Rattle.http_front.specs.declared.arriving.Arriving.{Arriving}
use Rattle.http_front.specs.declared.content.Content.{Content}
use Rattle.http_front.specs.declared.content.Content.TheVariants.{Whole, Refused, Open}
use Rattle.http_front.specs.declared.framing.Framing.TheVariants.{Length, Chunks}
use Rattle.http_front.specs.declared.next_unit.Ahead.{Ahead}
use Rattle.http_front.specs.declared.next_unit.Ahead.TheVariants as Ahead
use Rattle.http_front.specs.declared.progress.Progress.{Progress}
use Rattle.http_front.specs.declared.progress.Progress.TheVariants as At
use Rattle.http_front.specs.declared.search.Search.{Search}
use Rattle.http_front.specs.Head.{head_of}
use Rattle.http_front.specs.Front.{block, blank_len, front_of, is_ready, head_begun}
use Rattle.unit_types.specs.Limits.{head_limit}
use Rattle.http_front.specs.Message.{fields_of, message_of, request_of}
use Rattle.http_front.specs.Target.{is_faulty_target}
use Rattle.http_front.specs.Checks.{has_too_many_lines, lacks_host, is_ambiguous, has_other_coding, has_faulty_length, is_too_long, refusal_step, refusal_of}
use Rattle.http_front.specs.Framing.{is_chunked, content_length, framing_of}
use Rattle.http_front.specs.Chunks.{content_behind, chunked_content}
use Rattle.http_front.specs.Content.{sized_content, content_of, is_continue_due, content_by}
use Rattle.http_front.specs.NextUnit.{Found, request, wait, plainly, content_unit, checked_unit, block_unit, front_unit, next_unit}
use Rattle.http_front.specs.NextUnit as unit
use Rattle.http_front.specs.Reading.{limit_or, kept_limit}
use Rattle.http_front.specs.Stands.{found_past, unit_past}
use Rattle.http_front.specs.Stands as stands
use Rattle.http_front.specs.Arriving.{arriving_unit}
use Rattle.http_front.specs.Kept.{Kept, Mark, begun_at, unit_of, Unchanged}
use Rattle.http_front.specs.Progress.{SearchedOn, Knows, Opens, Tells, TellsContent, OpensBehind, TellsBehind}
use Rattle.http_front.proofs.BlankLemmas.{open_past}
use Rattle.http_front.proofs.FrontStays.{front_fits}
use Rattle.http_front.proofs.KeptLemmas.{head_kept}
use Rattle.http_front.proofs.StayLemmas.{rest_of, blank_within_len, blank_stays, rest_stays, begun_stays}
use Rattle.http_front.proofs.SearchLemmas.{search_start, search_more, search_waits}

-- a content by its framing
pub content_framed : (limit : ℕ) (fields : List Field) (bytes : List ℕ) → content_of limit fields bytes ≡ content_by (framing_of limit fields) bytes
unfolding content_of
content_framed limit fields bytes = by_coding (is_chunked fields)
  where
    by_coding : (t : Bool) → (if t then chunked_content limit bytes else sized_content (content_length fields) bytes)
        ≡ content_by (if t then Chunks limit else Length (content_length fields)) bytes
    by_coding true = refl
    by_coding false = refl

-- a head that is served says no length above the limit
pub length_within : (limit minor : ℕ) (target : List ℕ) (fields : List Field) → refusal_of limit minor target fields ≡ None → content_length fields ≤ limit
length_within limit minor target fields is =
    by_six (is_faulty_target target) (lacks_host minor fields) (is_ambiguous minor fields) (has_other_coding fields) (has_faulty_length fields) (is_too_long limit fields) refl is
  where
    by_six : (a b c d e f : Bool) → is_too_long limit fields ≡ f
        → refusal_step a 400 (refusal_step b 400 (refusal_step c 400 (refusal_step d 501 (refusal_step e 400 (refusal_step f 413 None))))) ≡ None → content_length fields ≤ limit
    by_six true b c d e f long is = absurd (cc)
    by_six false true c d e f long is = absurd (cc)
    by_six false false true d e f long is = absurd (cc)
    by_six false false false true e f long is = absurd (cc)
    by_six false false false false true f long is = absurd (cc)
    by_six false false false false false true long is = absurd (cc)
    by_six false false false false false false long is = ltb-false limit (content_length fields) long

-- ---- the content of a complete head arrives

-- what is found behind its head is found behind what came
found_opens : (from to : Addr) (h : RequestHead) (used passed len : ℕ) (ended : Bool) (came : List ℕ) (c : Content) → len ≡ used + passed
    → unit.content_found h used ended (content_behind came passed c)
    ≡ found_past len (stands.content_found (record (request_of from to (message_of h [])) { body = came }) ended (content_behind came 0 c))
found_opens from to h used passed len ended came (Whole content n) place = ap (request (message_of h (came ++ content))) (omega (arith, place))
found_opens from to h used passed len ended came (Refused status) place = refl
found_opens from to h used passed len ended came Open place = open_past len ended

pub tells_behind : (from to : Addr) (many : Bool) (limit used : ℕ) (rest : List ℕ) (head : Option RequestHead) (h : RequestHead) (r : Request) (ahead : Ahead)
    → many ≡ false → head ≡ Some h → refusal_of limit h.minor h.target (fields_of h) ≡ None → r ≡ request_of from to (message_of h [])
    → TellsContent ahead used rest limit r → TellsBehind ahead used rest (λ bytes ended. block_unit many limit used bytes ended head)
tells_behind from to many limit used rest head h r (Ahead.Head s) few is serves same tells = tells
tells_behind from to many limit used rest head h r (Ahead.Content len a) few is serves same tells = record {
  passed = tells.passed;
  place = tells.place;
  within = tells.within;
  goes_on = λ more ended.
      let all = rest ++ more in
      let left = content_by a.framing (drop tells.passed rest ++ more) in
      let content : content_of limit (fields_of h) all ≡ content_behind a.content.items tells.passed left =
      ap (λ (q : Request). content_of limit q.fields all) (sym same) ∙ tells.goes_on more in
      let is_of : request_of from to (message_of h []) ≡ a.request = sym (tells.request ∙ same) in
      (λ i. block_unit (few i) limit used all ended (is i))
      ∙ ap (checked_unit h limit used all ended) serves
      ∙ (λ i. record { continue_due = is_continue_due h.minor (fields_of h); found = unit.content_found h used ended (content i) })
      ∙ ap (λ (f : Found). record { continue_due = is_continue_due h.minor (fields_of h); found = f })
      (found_opens from to h used tells.passed len ended a.content.items left tells.place)
      ∙ (λ i. unit_past len (stands.content_unit (record (is_of i) { body = a.content.items }) a.framing (drop tells.passed rest ++ more) ended));
}

opens_front : (bytes : List ℕ) (n limit len : ℕ) (a : Arriving) → front_of head_limit (rest_of bytes) ≡ block n
    → OpensBehind len a (blank_len bytes + n) (drop n (rest_of bytes))
    (λ ys ended. block_unit (has_too_many_lines (take n (rest_of bytes))) limit (blank_len bytes + n) ys ended (head_of (take n (rest_of bytes))))
    → Opens len a bytes limit
unfolding next_unit
opens_front bytes n limit len a front tells =
    let low : n ≤ length (rest_of bytes) = front_fits head_limit (rest_of bytes) n front in
    let begun : head_begun bytes ≡ true = ap is_ready front in
    let blank = blank_len bytes in
    let place : drop tells.passed (drop n (rest_of bytes)) ≡ drop len bytes =
    drop-drop tells.passed n (rest_of bytes) ∙ drop-drop (n + tells.passed) blank bytes
    ∙ ap (λ k. drop k bytes) (omega (arith, tells.place)) in
    record {
      within = omega (arith, tells.place, tells.within, low, blank_within_len bytes, length-drop blank bytes, length-drop n (rest_of bytes));
      complete = begun;
      goes_on = λ more ended.
          (λ i. front_unit limit (blank_stays bytes more begun i) (rest_stays bytes more begun i) ended ((begun_stays bytes more begun ∙ front) i))
          ∙ (λ i. block_unit (has_too_many_lines (take-append-le n (rest_of bytes) more low i)) limit (blank + n) (drop-append-le n (rest_of bytes) more low i)
          ended (head_of (take-append-le n (rest_of bytes) more low i)))
          ∙ tells.goes_on more ended
          ∙ ap (λ ys. unit_past len (arriving_unit a (ys ++ more) ended)) place;
    }

pub tells_front : (bytes : List ℕ) (n limit : ℕ) (ahead : Ahead) → front_of head_limit (rest_of bytes) ≡ block n
    → TellsBehind ahead (blank_len bytes + n) (drop n (rest_of bytes))
    (λ ys ended. block_unit (has_too_many_lines (take n (rest_of bytes))) limit (blank_len bytes + n) ys ended (head_of (take n (rest_of bytes))))
    → Tells ahead bytes limit
tells_front bytes n limit (Ahead.Head s) front tells = subst (λ (t : Search). Tells (Ahead.Head t) bytes limit) (sym tells) (search_start bytes)
tells_front bytes n limit (Ahead.Content len a) front tells = opens_front bytes n limit len a front tells

-- ---- over more bytes

-- a unit that waits leaves the reader
unchanged : (k : Kept) (limit : ℕ) → unit_of k limit ≡ plainly wait → kept_limit (begun_at k.stage k.bytes) k.limit limit ≡ k.limit → Unchanged k limit
unchanged k limit is kept = rw (is, kept) (refl, refl)

-- a head that isn't complete leaves it
pub searched_unchanged : (t : Search) (mark : Mark) (from to : Addr) (bytes : List ℕ) (ended : Bool) (kept : Option ℕ) (is_told : Bool) (limit : ℕ)
    → SearchedOn t bytes → ended ≡ false → Unchanged (head_kept mark from to bytes ended kept is_told) limit
searched_unchanged t mark from to bytes ended kept is_told limit on going =
    let waits = search_waits t bytes on.0 on.1 on.2 in
    unchanged (head_kept mark from to bytes ended kept is_told) limit
    (ap (λ e. next_unit bytes e (limit_or kept limit)) going ∙ waits.1 (limit_or kept limit))
    (ap (λ t. kept_limit t kept limit) waits.0)

knows_more : (p : Progress) (bytes more : List ℕ) → Knows p bytes → Knows p (bytes ++ more)
knows_more (At.Head s) bytes more knows = search_more s bytes more knows
knows_more At.Content bytes more knows = tt

-- a piece more behind the bytes that were used, or none
pub knows_fed : (p : Progress) (items piece : List ℕ) (used : ℕ) (is_fed : Bool) → used ≤ length items → Knows p (drop used items)
    → (used ≤ length (if is_fed then items ++ piece else items)) × Knows p (drop used (if is_fed then items ++ piece else items))
knows_fed p items piece used true within knows = (
  simp length-append (omega (arith, within)),
  subst (λ (ys : List ℕ). Knows p ys) (sym (drop-append-le used items piece within)) (knows_more p (drop used items) piece knows),
)
knows_fed p items piece used false within knows = (within, knows)

pub ok_weaker : {A E : Type 0} (r : Result A E) (P Q : A → Type 0) → ((x : A) → P x → Q x) → IfOk r P → IfOk r Q
ok_weaker (Ok x) P Q weaker is = weaker x is
ok_weaker (Err e) P Q weaker is = tt
