-- A reader's step by what it keeps is the step by all that it has read.
use Rattle.std.proofs.Common.{ℕ, ◌≡◌, ◌+◌, refl, sym, ap, ◌∙◌, subst, List, [], ◌++◌, drop, take, Bool, true, false, not, ◌&&◌, if◌then◌else◌, Option, Some, None, append_assoc, append-nil, length, length-append, arith, ◌≤◌, Result, Ok, Err, IfOk, OnOk, OnErr}
use Rattle.std.proofs.lemmas.List.{take-append-le}
use Rattle.std.specs.Result.{is_ok}
use Rattle.unit_types.specs.declared.message.Addr.{Addr}
use Rattle.http_front.specs.declared.next_unit.Next.TheVariants as Answer
use Rattle.http_front.specs.declared.arriving.Arriving.{Arriving}
use Rattle.http_front.specs.declared.reader.Place.{Place}
use Rattle.http_front.specs.declared.search.Search.{Search}
use Rattle.http_front.specs.Front.{head_begun}
use Rattle.http_front.specs.NextUnit.{Found, request, bad, cut, finished, wait, NextUnit, next_unit}
use Rattle.http_front.specs.Progress.{IsSearched}
use Rattle.http_front.specs.Reading.{Reading, reading_of, limit_or, kept_limit, answer_at, behind_found, next_answer, next_reading}
use Rattle.http_front.specs.Stands.{found_past, unit_past, Stands, head_unit}
use Rattle.http_front.specs.Inside.{mark_of}
use Rattle.http_front.specs.Kept.{head, Kept, Mark, marked, unit_at, begun_at, Counts, HasRead, fed, at_end, unit_of, asks_of, kept_answer, kept_behind, limited, kept_next}
use Rattle.http_front.proofs.BlankLemmas.{begun_past, blank_gone}
use Rattle.http_front.proofs.StandsLemmas.{stands_whole, stands_fed, stands_blank, stands_now, stands_left}

-- what is kept where no content is
abbrev pub head_kept : Mark → Addr → Addr → List ℕ → Bool → Option ℕ → Bool → Kept
head_kept mark from to bytes ended limit is_told =
    record { from = from; to = to; bytes = bytes; stage = head; ended = ended; limit = limit; is_told = is_told; mark = mark }

counts_now : (kept : Option ℕ) (limit : ℕ) → Counts kept (limit_or kept limit)
counts_now None limit = tt
counts_now (Some kept) limit = refl

counts_kept : (begun : Bool) (kept : Option ℕ) (limit now : ℕ) → Counts (kept_limit begun kept limit) now → Counts kept now
counts_kept true None limit now is = tt
counts_kept true (Some kept) limit now is = is
counts_kept false kept limit now is = is

-- with the fields of what is kept
abbrev alike : Reading → Kept → Reading
alike r k = record { from = k.from; to = k.to; unread = r.unread; ended = k.ended; limit = k.limit; is_told = k.is_told }

alike_is : (r : Reading) (k : Kept) → HasRead r k → r ≡ alike r k
alike_is r k is = λ i. record { from = is.from i; to = is.to i; unread = r.unread; ended = is.ended i; limit = is.limit i; is_told = is.is_told i }

-- ---- a reader at the begin of a request, more bytes, and their end

pub has_read_whole : (mark : Mark) (from to : Addr) (bytes kept : List ℕ) (ended : Bool) → bytes ≡ kept
    → HasRead (reading_of from to bytes ended) (head_kept mark from to kept ended None false)
has_read_whole mark from to bytes kept ended same = record {
  from = refl;
  to = refl;
  ended = refl;
  limit = refl;
  is_told = refl;
  stands = λ limit now. subst (λ (ys : List ℕ). Stands bytes limit (head_unit limit) ys) same (stands_whole bytes limit);
  begun = λ more. ap (λ ys. head_begun (ys ++ more)) same;
}

pub has_read_fed : (r : Reading) (k : Kept) (piece : List ℕ) → HasRead r k → HasRead (fed r piece) (record k { bytes = k.bytes ++ piece })
has_read_fed r k piece is = record {
  from = is.from;
  to = is.to;
  ended = is.ended;
  limit = is.limit;
  is_told = is.is_told;
  stands = λ limit now. stands_fed r.unread limit (unit_at k.stage limit) k.bytes piece (is.stands limit now);
  begun = λ more.
      ap head_begun (append_assoc r.unread piece more) ∙ is.begun (piece ++ more)
      ∙ ap (begun_at k.stage) (sym (append_assoc k.bytes piece more));
}

pub has_read_end : (r : Reading) (k : Kept) → HasRead r k → HasRead (at_end r) (record k { ended = true })
has_read_end r k is = record {
  from = is.from;
  to = is.to;
  ended = refl;
  limit = is.limit;
  is_told = is.is_told;
  stands = is.stands;
  begun = is.begun;
}

-- the empty lines are let go that a search has passed
pub has_read_blank : (s : Search) (mark : Mark) (from to : Addr) (bytes : List ℕ) (ended : Bool) (limit : Option ℕ) (is_told : Bool) (r : Reading) → IsSearched s bytes
    → HasRead r (head_kept mark from to bytes ended limit is_told) → HasRead r (head_kept mark from to (drop s.blank bytes) ended limit is_told)
has_read_blank s mark from to bytes ended limit is_told r searched is =
    let left = drop s.blank bytes in
    let whole : bytes ≡ searched.blank ++ left = searched.whole ∙ ap (λ rest. searched.blank ++ rest) (sym (blank_gone s bytes searched)) in
    record {
      from = is.from;
      to = is.to;
      ended = is.ended;
      limit = is.limit;
      is_told = is.is_told;
      stands = λ at now.
          stands_blank r.unread at searched.blank left searched.drops
          (subst (λ (ys : List ℕ). Stands r.unread at (head_unit at) ys) whole (is.stands at now));
      begun = λ more.
          is.begun more ∙ ap (λ ys. head_begun (ys ++ more)) whole ∙ ap head_begun (append_assoc searched.blank left more)
          ∙ begun_past searched.blank (left ++ more) searched.drops;
    }

-- ---- what is found, and what is left

pub answer_past : (from to : Addr) (gone : ℕ) (f : Found) → answer_at from to (found_past gone f) ≡ answer_at from to f
answer_past from to gone (request m used) = refl
answer_past from to gone (bad status) = refl
answer_past from to gone cut = refl
answer_past from to gone finished = refl
answer_past from to gone wait = refl

found_now : (r : Reading) (k : Kept) (limit : ℕ) (is : HasRead r k)
    → next_unit r.unread k.ended (limit_or k.limit limit)
    ≡ unit_past (is.stands (limit_or k.limit limit) (counts_now k.limit limit)).gone (unit_of k limit)
found_now r k limit is =
    let at = limit_or k.limit limit in
    stands_now r.unread at (unit_at k.stage at) k.bytes k.ended (is.stands at (counts_now k.limit limit))

pub has_read_answer : (r : Reading) (k : Kept) (limit : ℕ) → HasRead r k → kept_answer k limit ≡ next_answer r limit
has_read_answer r k limit is =
    let at = limit_or k.limit limit in
    let gone = (is.stands at (counts_now k.limit limit)).gone in
    let u = unit_of k limit in
    let step : (if asks_of k limit then Answer.Continue else answer_at k.from k.to (found_past gone u.found)) ≡ kept_answer k limit =
    ap (λ a. if asks_of k limit then Answer.Continue else a) (answer_past k.from k.to gone u.found) in
    sym (ap (λ (q : Reading). next_answer q limit) (alike_is r k is)
    ∙ ap (λ (v : NextUnit). if v.continue_due && not k.is_told then Answer.Continue else answer_at k.from k.to v.found) (found_now r k limit is)
    ∙ step)

pub has_read_next : (r : Reading) (k : Kept) (limit : ℕ) → HasRead r k → HasRead (next_reading r limit) (kept_next k limit)
has_read_next r k limit is =
    let at = limit_or k.limit limit in
    let stands = is.stands at (counts_now k.limit limit) in
    let begun : head_begun r.unread ≡ begun_at k.stage k.bytes =
    ap head_begun (sym (append-nil r.unread)) ∙ is.begun [] ∙ ap (begun_at k.stage) (append-nil k.bytes) in
    let lim = kept_limit (begun_at k.stage k.bytes) k.limit limit in
    let whole : next_reading r limit ≡ behind (alike r k) lim (unit_past stands.gone (unit_of k limit)) =
    ap (λ (q : Reading). next_reading q limit) (alike_is r k is)
    ∙ (λ i. behind (alike r k) (kept_limit (begun i) k.limit limit) (found_now r k limit is i)) in
    subst (λ (q : Reading). HasRead q (kept_next k limit)) (sym whole)
    (by_asks lim (λ now. counts_kept (begun_at k.stage k.bytes) k.limit limit now) (asks_of k limit))
  where
    behind : Reading → Option ℕ → NextUnit → Reading
    behind q lim v = if v.continue_due && not q.is_told then record q { limit = lim; is_told = true } else behind_found (record q { limit = lim }) v.found

    with_limit : (lim : Option ℕ) (told : Bool) → ((now : ℕ) → Counts lim now → Counts k.limit now)
        → HasRead (record (alike r k) { limit = lim; is_told = told }) (record k { limit = lim; is_told = told })
    with_limit lim told narrower = record {
      from = refl;
      to = refl;
      ended = refl;
      limit = refl;
      is_told = refl;
      stands = λ now count. is.stands now (narrower now count);
      begun = is.begun;
    }

    by_found : (lim : Option ℕ) → ((now : ℕ) → Counts lim now → Counts k.limit now) → (f : Found)
        → HasRead (behind_found (record (alike r k) { limit = lim }) (found_past (is.stands (limit_or k.limit limit) (counts_now k.limit limit)).gone f))
        (kept_behind (record k { limit = lim }) f)
    by_found lim narrower (request m used) =
        let at = limit_or k.limit limit in
        let stands = is.stands at (counts_now k.limit limit) in
        has_read_whole k.mark k.from k.to (drop (stands.gone + used) r.unread) (drop used k.bytes) k.ended
        (stands_left r.unread at (unit_at k.stage at) k.bytes used stands)
    by_found lim narrower (bad status) = with_limit lim k.is_told narrower
    by_found lim narrower cut = with_limit lim k.is_told narrower
    by_found lim narrower finished = with_limit lim k.is_told narrower
    by_found lim narrower wait = with_limit lim k.is_told narrower

    by_asks : (lim : Option ℕ) → ((now : ℕ) → Counts lim now → Counts k.limit now) → (t : Bool)
        → HasRead (if t then record (alike r k) { limit = lim; is_told = true }
        else behind_found (record (alike r k) { limit = lim }) (found_past (is.stands (limit_or k.limit limit) (counts_now k.limit limit)).gone (unit_of k limit).found))
        (if t then record k { limit = lim; is_told = true } else kept_behind (record k { limit = lim }) (unit_of k limit).found)
    by_asks lim narrower true = with_limit lim true narrower
    by_asks lim narrower false = by_found lim narrower (unit_of k limit).found

-- ---- what a call ensures

pub on_ok : {A E : Type 0} (o : Result A E) (P Q : Type 0) → (P → Q) → OnOk o P → OnOk o Q
on_ok (Ok v) P Q f p = f p
on_ok (Err e) P Q f p = tt

pub on_err : {A E : Type 0} (o : Result A E) (P Q : Type 0) → (P → Q) → OnErr o P → OnErr o Q
on_err (Ok v) P Q f p = tt
on_err (Err e) P Q f p = f p

pub with_err : {A E : Type 0} (o : Result A E) (Q : Type 0) → Q → OnErr o Q
with_err (Ok v) Q q = tt
with_err (Err e) Q q = q

pub if_ok : {A E : Type 0} (o : Result A E) (P Q : A → Type 0) → ((a : A) → P a → Q a) → IfOk o P → IfOk o Q
if_ok (Ok v) P Q f p = f v p
if_ok (Err e) P Q f p = tt

pub fed_ok : {A E : Type 0} (o : Result A E) (items piece after : List ℕ) (P : List ℕ → Type 0)
    → after ≡ (if is_ok o then items ++ piece else items) → P (items ++ piece) → OnOk o (P after)
fed_ok (Ok v) items piece after P is p = subst P (sym is) p
fed_ok (Err e) items piece after P is p = tt

pub fed_err : {A E : Type 0} (o : Result A E) (items piece after : List ℕ) (P : List ℕ → Type 0)
    → after ≡ (if is_ok o then items ++ piece else items) → P items → OnErr o (P after)
fed_err (Ok v) items piece after P is p = tt
fed_err (Err e) items piece after P is p = subst P (sym is) p

-- a step leaves whether the input ended
found_ended : (k : Kept) (f : Found) → (kept_behind k f).ended ≡ k.ended
found_ended k (request m used) = refl
found_ended k (bad status) = refl
found_ended k cut = refl
found_ended k finished = refl
found_ended k wait = refl

pub next_ended : (k : Kept) (limit : ℕ) → (kept_next k limit).ended ≡ k.ended
next_ended k limit = by_asks (asks_of k limit)
  where
    by_asks : (t : Bool) → (if t then record (limited k limit) { is_told = true } else kept_behind (limited k limit) (unit_of k limit).found).ended ≡ k.ended
    by_asks true = refl
    by_asks false = found_ended (limited k limit) (unit_of k limit).found

-- a step leaves where it was marked
found_marked : (k : Kept) (f : Found) → marked (kept_behind k f) ≡ marked k
found_marked k (request m used) = refl
found_marked k (bad status) = refl
found_marked k cut = refl
found_marked k finished = refl
found_marked k wait = refl

pub next_marked : (k : Kept) (limit : ℕ) → marked (kept_next k limit) ≡ marked k
next_marked k limit = by_asks (asks_of k limit)
  where
    by_asks : (t : Bool) → marked (if t then record (limited k limit) { is_told = true } else kept_behind (limited k limit) (unit_of k limit).found) ≡ marked k
    by_asks true = refl
    by_asks false = found_marked (limited k limit) (unit_of k limit).found

-- another mark
pub remarked : (r : Reading) (k : Kept) (mark : Mark) → HasRead r k → HasRead r (record k { mark = mark })
remarked r k mark is = record {
  from = is.from;
  to = is.to;
  ended = is.ended;
  limit = is.limit;
  is_told = is.is_told;
  stands = is.stands;
  begun = is.begun;
}

-- bytes behind the others leave where it was marked
pub fed_within : (is_fed : Bool) (items piece : List ℕ) (n : ℕ) → n ≤ length items → n ≤ length (if is_fed then items ++ piece else items)
fed_within true items piece n within = simp length-append (omega (arith, within))
fed_within false items piece n within = within

mark_fed : (is_fed : Bool) (items piece : List ℕ) (n : ℕ) → n ≤ length items → take n (if is_fed then items ++ piece else items) ≡ take n items
mark_fed true items piece n within = take-append-le n items piece within
mark_fed false items piece n within = refl

pub marked_fed : (is_fed : Bool) (items piece : List ℕ) (arriving : Option Arriving) (place : Place) → place.len ≤ length items → (k : Kept)
    → marked (record k { mark = mark_of (if is_fed then items ++ piece else items) arriving place }) ≡ marked (record k { mark = mark_of items arriving place })
marked_fed is_fed items piece arriving place within k =
    ap (λ (front : List ℕ). marked (record k { mark = record (mark_of items arriving place) { bytes = drop place.used front } })) (mark_fed is_fed items piece place.len within)

-- where it was marked is forgotten
pub forgotten : (r : Reading) (old new : Kept) → new ≡ record old { mark = new.mark } → HasRead r old → HasRead r new
forgotten r old new same is = subst (λ (k : Kept). HasRead r k) (sym same) (remarked r old new.mark is)

pub with_ok : {A E : Type 0} (o : Result A E) (Q : Type 0) → Q → OnOk o Q
with_ok (Ok v) Q q = q
with_ok (Err e) Q q = tt
