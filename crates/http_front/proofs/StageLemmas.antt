-- A content that arrives: what stands for its bytes, and how it is marked.
use Rattle.std.proofs.Common.{ℕ, ◌≡◌, ◌+◌, ◌<◌, ◌≤◌, refl, sym, ap, ◌∙◌, subst, List, [], ◌++◌, length, take, drop, Bool, true, false, if◌then◌else◌, Option, Some, None, arith, append-nil, drop-drop, length-append, length-drop}
use Rattle.std.proofs.lemmas.List.{drop-append-le, take-append-le}
use Rattle.std.proofs.Math.Seq.{take-length}
use Rattle.unit_types.specs.declared.message.Addr.{Addr}
use Rattle.unit_types.specs.declared.message.Request.{Request}
use Rattle.http_front.specs.declared.arriving.Arriving.{Arriving}
use Rattle.http_front.specs.declared.arriving.Came.{Came}
use Rattle.http_front.specs.declared.arriving.End.{End}
use Rattle.http_front.specs.declared.arriving.End.TheVariants as End
use Rattle.http_front.specs.declared.content.Content.{Content}
use Rattle.http_front.specs.declared.content.Content.TheVariants.{Whole, Refused, Open}
use Rattle.http_front.specs.declared.next_unit.Ahead.{Ahead}
use Rattle.http_front.specs.declared.next_unit.Ahead.TheVariants as Ahead
use Rattle.http_front.specs.declared.next_unit.Next.TheVariants as Answer
use Rattle.http_front.specs.declared.next_unit.Told.{Told}
use Rattle.http_front.specs.declared.progress.Progress.{Progress}
use Rattle.http_front.specs.declared.progress.Progress.TheVariants as At
use Rattle.http_front.specs.Arriving.{request_with, arriving_unit, content_at, end_len, told_end, Decodes}
use Rattle.http_front.specs.Front.{is_ready, head_begun}
use Rattle.http_front.specs.Chunks.{content_behind}
use Rattle.http_front.specs.Content.{is_continue_due, content_by}
use Rattle.http_front.specs.Message.{request_of}
use Rattle.http_front.specs.NextUnit.{Found, request, bad, cut, finished, wait, NextUnit, next_unit}
use Rattle.http_front.specs.Progress.{IsSearched, Opens, Tells}
use Rattle.http_front.specs.Reading.{Reading, answer_at, is_request, limit_or, kept_limit, told_of, HasSmallStatus}
use Rattle.http_front.specs.Stands.{found_past, unit_past, Stands, head_unit, message_with, content_found, content_unit}
use Rattle.http_front.specs.Kept.{Stage, head, content, unit_at, begun_at, Kept, Mark, marked, Counts, HasRead, unit_of, asks_of, kept_answer, kept_behind, limited, kept_next, told_in, came_in, is_arriving, EndsIn, Enters}
use Rattle.http_front.specs.Inside.{stage_of, stage_at, IsThere}
use Rattle.http_front.proofs.BlankLemmas.{open_past}
use Rattle.http_front.proofs.ChunkLemmas.{behind_both}
use Rattle.http_front.proofs.ArrivingLemmas.{end_within, end_refuses}
use Rattle.http_front.proofs.KeptLemmas.{remarked}
use Rattle.http_front.proofs.StandsLemmas.{stands_step}
use Rattle.http_front.proofs.StayLemmas.{begun_stays}

-- ---- a head is let go behind which a content arrives

pub has_read_opens : (r : Reading) (k : Kept) (mark : Mark) (len limit : ℕ) (a : Arriving) → k.stage ≡ head → k.limit ≡ Some limit → Opens len a k.bytes limit
    → HasRead r k → HasRead r (record k { bytes = drop len k.bytes; stage = content (request_with a) a.framing; mark = mark })
has_read_opens r k mark len limit a at_head counts opens is = record {
  from = is.from;
  to = is.to;
  ended = is.ended;
  limit = is.limit;
  is_told = is.is_told;
  stands = λ at now.
      let same : at ≡ limit = subst (λ (o : Option ℕ). Counts o at) counts now in
      let whole : Stands r.unread at (head_unit at) k.bytes = subst (λ (s : Stage). Stands r.unread at (unit_at s at) k.bytes) at_head (is.stands at now) in
      stands_step r.unread at len (head_unit at) (arriving_unit a) k.bytes (drop len k.bytes) whole
      (λ more ended. ap (next_unit (k.bytes ++ more) ended) same ∙ opens.goes_on more ended)
      (λ more. drop-append-le len k.bytes more opens.within);
  begun = λ more.
      is.begun more ∙ ap (λ s. begun_at s (k.bytes ++ more)) at_head
      ∙ ap is_ready (begun_stays k.bytes more opens.complete) ∙ opens.complete;
}

-- ---- some of the content is decoded

found_decoded : (q : Request) (before now : List ℕ) (passed : ℕ) (ended : Bool) (c : Content)
    → content_found (record q { body = before }) ended (content_behind now (0 + passed) c) ≡ found_past passed (content_found (record q { body = now }) ended (content_behind now 0 c))
found_decoded q before now passed ended (Whole text n) = ap (request (message_with q (now ++ text))) (omega arith)
found_decoded q before now passed ended (Refused status) = refl
found_decoded q before now passed ended Open = open_past passed ended

unit_decoded : (old new : Arriving) (items : List ℕ) (before after : ℕ) (d : Decodes old new items before after) (more : List ℕ) (ended : Bool)
    → arriving_unit old (drop before items ++ more) ended ≡ unit_past d.passed (arriving_unit new (drop after items ++ more) ended)
unit_decoded old new items before after d more ended =
    let left = content_by new.framing (drop after items ++ more) in
    let unit : Found → NextUnit = λ f. record { continue_due = is_continue_due old.request.minor old.request.fields; found = f } in
    ap (λ c. unit (content_found (request_with old) ended (content_behind old.content.items 0 c))) (d.goes_on more)
    ∙ ap (λ c. unit (content_found (request_with old) ended c)) (behind_both old.content.items d.came 0 d.passed left)
    ∙ ap unit (found_decoded old.request old.content.items (old.content.items ++ d.came) d.passed ended left)
    ∙ (λ i. unit_past d.passed (content_unit (record (sym d.request i) { body = sym d.content i }) new.framing (drop after items ++ more) ended))

pub has_read_decoded : (r : Reading) (k : Kept) (mark : Mark) (old new : Arriving) (items : List ℕ) (before after : ℕ) → Decodes old new items before after
    → HasRead r (record k { bytes = drop before items; stage = content (request_with old) old.framing })
    → HasRead r (record k { bytes = drop after items; stage = content (request_with new) new.framing; mark = mark })
has_read_decoded r k mark old new items before after d is = record {
  from = is.from;
  to = is.to;
  ended = is.ended;
  limit = is.limit;
  is_told = is.is_told;
  stands = λ at now.
      let low : d.passed ≤ length (drop before items) = omega (arith, d.place, d.within, length-drop before items) in
      let left : drop d.passed (drop before items) ≡ drop after items = drop-drop d.passed before items ∙ ap (λ n. drop n items) (sym d.place) in
      stands_step r.unread at d.passed (arriving_unit old) (arriving_unit new) (drop before items) (drop after items) (is.stands at now)
      (unit_decoded old new items before after d)
      (λ more. drop-append-le d.passed (drop before items) more low ∙ ap (λ ys. ys ++ more) left);
  begun = is.begun;
}

-- ---- where a reader is marked

pub marked_stage : (p : Progress) (a : Option Arriving) → stage_at (came_in (stage_of p a)) a ≡ stage_of p a
marked_stage (At.Head s) a = refl
marked_stage At.Content None = refl
marked_stage At.Content (Some a) = ap (λ text. content (record a.request { body = text }) a.framing) (take-length a.content.items)

pub marked_there : (p : Progress) (a : Option Arriving) → IsThere (came_in (stage_of p a)) a
marked_there (At.Head s) a = tt
marked_there At.Content None = tt
marked_there At.Content (Some a) = omega arith

-- no content arrives
pub none_arrives : (p : Progress) (a : Option Arriving) → is_arriving (stage_of p a) ≡ false → stage_of p None ≡ stage_of p a
none_arrives (At.Head s) a none = refl
none_arrives At.Content None none = refl
none_arrives At.Content (Some a) none = absurd (cc none)

pub marked_read : (r : Reading) (k : Kept) (mark : Mark) → mark.bytes ≡ k.bytes → mark.stage ≡ k.stage → mark.ended ≡ k.ended → mark.limit ≡ k.limit → mark.is_told ≡ k.is_told
    → HasRead r k → HasRead r (marked (record k { mark = mark }))
marked_read r k mark bytes stage ended limit told is =
    subst (λ (q : Kept). HasRead r q)
    (λ i. record {
      from = k.from;
      to = k.to;
      bytes = sym bytes i;
      stage = sym stage i;
      ended = sym ended i;
      limit = sym limit i;
      is_told = sym told i;
      mark = mark;
    })
    (remarked r k mark is)

-- decoding leaves where it is marked
pub came_stays : (came : Option Came) (old new : Arriving) (items : List ℕ) (before after : ℕ) → Decodes old new items before after → IsThere came (Some old)
    → stage_at came (Some new) ≡ stage_at came (Some old)
came_stays None old new items before after d there = refl
came_stays (Some came) old new items before after d there =
    let text : take came.len new.content.items ≡ take came.len old.content.items =
    ap (take came.len) d.content ∙ take-append-le came.len old.content.items d.came there in
    λ i. content (record (d.request i) { body = text i }) came.framing

pub still_there : (came : Option Came) (old new : Arriving) (items : List ℕ) (before after : ℕ) → Decodes old new items before after → IsThere came (Some old) → IsThere came (Some new)
still_there None old new items before after d there = tt
still_there (Some came) old new items before after d there = omega (arith, there, ap length d.content, length-append old.content.items d.came)

-- ---- what is told of a content

pub told_content : (from to : Addr) (a : Arriving) (bytes : List ℕ) (ended : Bool) (end : End) → content_by a.framing bytes ≡ content_at end
    → told_end from to a end ended ≡ told_of from to true (arriving_unit a bytes ended)
told_content from to a bytes ended end is = by_end end ended ∙ ap (told ended) (sym is)
  where
    told : Bool → Content → Told
    told over c = told_of from to true (record {
      continue_due = is_continue_due a.request.minor a.request.fields;
      found = content_found (request_with a) over (content_behind a.content.items 0 c);
    })

    by_end : (end : End) (over : Bool) → told_end from to a end over ≡ told over (content_at end)
    by_end (End.Whole len) over =
        let text : a.content.items ≡ a.content.items ++ [] = sym (append-nil a.content.items) in
        let used : len ≡ 0 + len = omega arith in
        λ i. record {
          answer = Answer.Request (request_of from to (message_with a.request (text i)));
          used = used i;
          is_due = is_continue_due a.request.minor a.request.fields;
          is_begun = true;
        }
    by_end (End.Refused status) over = refl
    by_end End.Open true = refl
    by_end End.Open false = refl

end_in : (end : End) (bytes : List ℕ) (stage : Stage) → EndsIn end bytes stage → end_len end ≤ length bytes
end_in end bytes head is = absurd is
end_in end bytes (content r framing) is = end_within framing bytes end is

pub told_fits : (from to : Addr) (a : Arriving) (end : End) (ended : Bool) (bytes : List ℕ) (stage : Stage) (told : Told) → EndsIn end bytes stage
    → told ≡ told_end from to a end ended → told.used ≤ length bytes
told_fits from to a end ended bytes stage told is same = omega (arith, ap (λ (t : Told). t.used) same, end_in end bytes stage is)

refused_small : (bytes : List ℕ) (stage : Stage) (status : ℕ) → EndsIn (End.Refused status) bytes stage → status < 1000
refused_small bytes head status is = absurd is
refused_small bytes (content r framing) status is = let low = end_refuses framing bytes status is in omega (arith, low.1)

pub told_small : (from to : Addr) (a : Arriving) (end : End) (ended : Bool) (bytes : List ℕ) (stage : Stage) (told : Told) → EndsIn end bytes stage
    → told ≡ told_end from to a end ended → HasSmallStatus told.answer
told_small from to a end ended bytes stage told is same status answers = by_end end ended is (sym (ap (λ (t : Told). t.answer) same) ∙ answers)
  where
    by_end : (end : End) (over : Bool) → EndsIn end bytes stage → (told_end from to a end over).answer ≡ Answer.Bad status → status < 1000
    by_end (End.Whole len) over is answers = absurd (cc answers)
    by_end (End.Refused refused) over is answers =
        let e : refused ≡ status = cc answers in
        subst (λ (n : ℕ). n < 1000) e (refused_small bytes stage refused is)
    by_end End.Open true is answers = absurd (cc answers)
    by_end End.Open false is answers = absurd (cc answers)

-- some of it is decoded, whichever way the reader keeps it
pub stage_decoded : (r : Reading) (k : Kept) (mark : Mark) (p : Progress) (old new : Arriving) (items : List ℕ) (before after : ℕ) → Decodes old new items before after
    → is_arriving (stage_of p (Some old)) ≡ true
    → HasRead r (record k { bytes = drop before items; stage = stage_of p (Some old) })
    → HasRead r (record k { bytes = drop after items; stage = stage_of p (Some new); mark = mark })
stage_decoded r k mark (At.Head s) old new items before after d arrives is = absurd (cc arrives)
stage_decoded r k mark At.Content old new items before after d arrives is = has_read_decoded r k mark old new items before after d is

-- ---- what a step enters

next_stage : (k : Kept) (limit : ℕ) → k.stage ≡ head → (kept_next k limit).stage ≡ head
next_stage k limit at_head = by_asks (asks_of k limit)
  where
    by_found : (f : Found) → (kept_behind (limited k limit) f).stage ≡ head
    by_found (request m used) = refl
    by_found (bad status) = at_head
    by_found cut = at_head
    by_found finished = at_head
    by_found wait = at_head

    by_asks : (t : Bool) → (if t then record (limited k limit) { is_told = true } else kept_behind (limited k limit) (unit_of k limit).found).stage ≡ head
    by_asks true = at_head
    by_asks false = by_found (unit_of k limit).found

-- without a request the bytes stay, with the limit that counts
next_waits : (k : Kept) (limit : ℕ) → is_request (kept_answer k limit) ≡ false
    → ((kept_next k limit).bytes ≡ k.bytes) × ((kept_next k limit).limit ≡ kept_limit (begun_at k.stage k.bytes) k.limit limit)
next_waits k limit none = by_asks (asks_of k limit) none
  where
    by_found : (f : Found) → is_request (answer_at k.from k.to f) ≡ false
        → ((kept_behind (limited k limit) f).bytes ≡ k.bytes) × ((kept_behind (limited k limit) f).limit ≡ (limited k limit).limit)
    by_found (request m used) none = absurd (cc none)
    by_found (bad status) none = (refl, refl)
    by_found cut none = (refl, refl)
    by_found finished none = (refl, refl)
    by_found wait none = (refl, refl)

    by_asks : (t : Bool) → is_request (if t then Answer.Continue else answer_at k.from k.to (unit_of k limit).found) ≡ false
        → ((if t then record (limited k limit) { is_told = true } else kept_behind (limited k limit) (unit_of k limit).found).bytes ≡ k.bytes)
        × ((if t then record (limited k limit) { is_told = true } else kept_behind (limited k limit) (unit_of k limit).found).limit ≡ (limited k limit).limit)
    by_asks true none = (refl, refl)
    by_asks false none = by_found (unit_of k limit).found none

pub enters_next : (k : Kept) (limit : ℕ) (ahead : Ahead) → k.stage ≡ head → is_request (kept_answer k limit) ≡ false → Tells ahead k.bytes (limit_or k.limit limit)
    → ((kept_next k limit).stage ≡ head) × Enters ahead (kept_next k limit)
enters_next k limit (Ahead.Head s) at_head none tells = (
  next_stage k limit at_head,
  subst (λ (ys : List ℕ). IsSearched s ys) (sym (next_waits k limit none).0) tells,
)
enters_next k limit (Ahead.Content len a) at_head none tells =
    let waits = next_waits k limit none in
    let begun : begun_at k.stage k.bytes ≡ true = ap (λ s. begun_at s k.bytes) at_head ∙ tells.complete in (
      next_stage k limit at_head,
      (
        limit_or k.limit limit,
        waits.1 ∙ ap (λ t. kept_limit t k.limit limit) begun,
        subst (λ (ys : List ℕ). Opens len a ys (limit_or k.limit limit)) (sym waits.0) tells,
      ),
    )

-- what is told where no content arrives
pub told_head : (k : Kept) (limit : ℕ) → k.stage ≡ head → told_of k.from k.to (head_begun k.bytes) (next_unit k.bytes k.ended (limit_or k.limit limit)) ≡ told_in k limit
told_head k limit at_head = ap (λ s. told_of k.from k.to (begun_at s k.bytes) (unit_at s (limit_or k.limit limit) k.bytes k.ended)) (sym at_head)

pub not_arriving : (s : Stage) → is_arriving s ≡ false → s ≡ head
not_arriving head none = refl
not_arriving (content r framing) none = absurd (cc none)
