-- What an answer of a reader can be.
use Rattle.std.proofs.Common.{ℕ, List, ◌++◌, ◌<◌, ◌≡◌, ◌≢◌, ◌∙◌, sym, ap, refl, arith, Bool, true, false, if◌then◌else◌, ◌&&◌, ◌||◌, not, Option}
use Rattle.std.proofs.lemmas.Bool.{false≢true}
use Rattle.std.specs.Option.{is_some}
use Rattle.http_front.specs.declared.next_unit.Next.{Next}
use Rattle.http_front.specs.declared.next_unit.Next.TheVariants as Answer
use Rattle.http_front.specs.Front.{head_begun}
use Rattle.http_front.specs.NextUnit.{Found, request, bad, cut, finished, wait, NextUnit, next_unit}
use Rattle.http_front.specs.Reading.{Reading, limit_or, unit_in, answer_for, is_request, is_final, asks_now, unit_answer, kept_limit, next_answer, next_reading, has_begun}
use Rattle.http_front.proofs.ReaderLemmas.{error_status}
use Rattle.http_front.proofs.StayLemmas.{found_stays, ended_tells}
use Rattle.http_front.proofs.UnitLemmas.{unbegun_alike}

-- but for `Continue`, an answer tells what was found
pub found_answer : (r : Reading) (unit : NextUnit) (answer : Next) → unit_answer r unit ≡ answer → (answer ≡ Answer.Continue → ⊥)
    → (asks_now r unit ≡ false) × (answer_for r unit.found ≡ answer)
found_answer r unit answer is other = by_asks (asks_now r unit) refl is
  where
    by_asks : (t : Bool) → asks_now r unit ≡ t → (if t then Answer.Continue else answer_for r unit.found) ≡ answer
        → (asks_now r unit ≡ false) × (answer_for r unit.found ≡ answer)
    by_asks true asks same = absurd (other (sym same))
    by_asks false asks same = (asks, same)

-- and no found thing is told by it
found_other : (r : Reading) (f : Found) → answer_for r f ≡ Answer.Continue → ⊥
found_other r (request m used) is = absurd (cc is)
found_other r (bad status) is = absurd (cc is)
found_other r cut is = absurd (cc is)
found_other r finished is = absurd (cc is)
found_other r wait is = absurd (cc is)

pub continue_answer : (r : Reading) (unit : NextUnit) → unit_answer r unit ≡ Answer.Continue → asks_now r unit ≡ true
continue_answer r unit is = by_asks (asks_now r unit) refl is
  where
    by_asks : (t : Bool) → asks_now r unit ≡ t → (if t then Answer.Continue else answer_for r unit.found) ≡ Answer.Continue → asks_now r unit ≡ true
    by_asks true asks same = asks
    by_asks false asks same = absurd (found_other r unit.found same)

-- the status of an answer, or another
pub status_or : Next → ℕ → ℕ
status_or (Answer.Bad status) other = status
status_or _ other = other

pub bad_answer : (r : Reading) (f : Found) (status : ℕ) → answer_for r f ≡ Answer.Bad status → f ≡ bad status
unfolding status_or
bad_answer r (request m used) status is = absurd (cc is)
bad_answer r (bad found) status is = ap bad (ap (λ (a : Next). status_or a status) is)
bad_answer r cut status is = absurd (cc is)
bad_answer r finished status is = absurd (cc is)
bad_answer r wait status is = absurd (cc is)

-- a refusal has a status of three digits
pub bad_is_small : (r : Reading) (limit status : ℕ) → next_answer r limit ≡ Answer.Bad status → status < 1000
bad_is_small r limit status is =
    let found = found_answer r (unit_in r limit) (Answer.Bad status) is (λ same. cc) in
    let error = error_status r.unread r.ended (limit_or r.limit limit) status (bad_answer r (unit_in r limit).found status found.1) in
    omega (arith, error.1)

wait_answer : (r : Reading) (f : Found) → answer_for r f ≡ Answer.NeedMore → f ≡ wait
wait_answer r (request m used) is = absurd (cc is)
wait_answer r (bad found) is = absurd (cc is)
wait_answer r cut is = absurd (cc is)
wait_answer r finished is = absurd (cc is)
wait_answer r wait is = refl

-- behind the end of an input nothing is awaited
pub ended_awaits_nothing : (r : Reading) (limit : ℕ) → r.ended ≡ true → next_answer r limit ≡ Answer.NeedMore → ⊥
ended_awaits_nothing r limit ended is =
    let found = found_answer r (unit_in r limit) Answer.NeedMore is (λ same. cc) in
    ended_tells r.unread (limit_or r.limit limit)
    (ap (λ over. (next_unit r.unread over (limit_or r.limit limit)).found) (sym ended) ∙ wait_answer r (unit_in r limit).found found.1)

-- once told, `100 Continue` is not told again
told_idle : (r : Reading) (unit : NextUnit) → r.is_told ≡ true → unit_answer r unit ≡ Answer.Continue → ⊥
told_idle r unit told is =
    let asks = continue_answer r unit is in
    false≢true (sym (and_false unit.continue_due) ∙ ap (λ t. unit.continue_due && not t) (sym told) ∙ asks)
  where
    and_false : (b : Bool) → (b && false) ≡ false
    and_false true = refl
    and_false false = refl

pub continue_once : (r : Reading) (limit again : ℕ) → next_answer r limit ≡ Answer.Continue → next_answer (next_reading r limit) again ≡ Answer.Continue → ⊥
continue_once r limit again is =
    let asks : asks_now r (unit_in r limit) ≡ true = continue_answer r (unit_in r limit) is in
    let after : (next_reading r limit).is_told ≡ true = rw asks refl in
    told_idle (next_reading r limit) (unit_in (next_reading r limit) again) after

pub told_once : (r : Reading) (limit : ℕ) → r.is_told ≡ true → next_answer r limit ≡ Answer.Continue → ⊥
told_once r limit told is = told_idle r (unit_in r limit) told is

-- ---- what an answer leaves that is no request

-- a reading with the limit that counts
abbrev with_limit : Reading → ℕ → Reading
with_limit r limit = record r { limit = kept_limit (head_begun r.unread) r.limit limit }

answer_is : (r : Reading) (limit : ℕ) (asks : Bool) → asks_now r (unit_in r limit) ≡ asks
    → next_answer r limit ≡ (if asks then Answer.Continue else answer_for r (unit_in r limit).found)
answer_is r limit asks is = ap (λ t. if t then Answer.Continue else answer_for r (unit_in r limit).found) is

next_found : (r : Reading) (limit : ℕ) (f : Found) → asks_now r (unit_in r limit) ≡ false → (unit_in r limit).found ≡ f → is_request (answer_for r f) ≡ false
    → next_reading r limit ≡ with_limit r limit
next_found r limit (request m used) idle is none = cc
next_found r limit (bad status) idle is none = rw (idle, is) refl
next_found r limit cut idle is none = rw (idle, is) refl
next_found r limit finished idle is none = rw (idle, is) refl
next_found r limit wait idle is none = rw (idle, is) refl

-- the reading behind an answer: `Continue` was told, or all stays but the limit
next_left : (r : Reading) (limit : ℕ) (asks : Bool) → asks_now r (unit_in r limit) ≡ asks → is_request (next_answer r limit) ≡ false
    → next_reading r limit ≡ record (with_limit r limit) { is_told = if asks then true else r.is_told }
next_left r limit true asks none = rw asks refl
next_left r limit false idle none = next_found r limit (unit_in r limit).found idle refl (sym (ap is_request (answer_is r limit false idle)) ∙ none)

told_kept : (asks told : Bool) → told ≡ true → (if asks then true else told) ≡ true
told_kept true told is = refl
told_kept false told is = is

pub told_stays : (r : Reading) (limit : ℕ) → r.is_told ≡ true → is_request (next_answer r limit) ≡ false → (next_reading r limit).is_told ≡ true
told_stays r limit told none =
    let asks = asks_now r (unit_in r limit) in
    ap (λ (q : Reading). q.is_told) (next_left r limit asks refl none) ∙ told_kept asks r.is_told told

pub told_now : (r : Reading) (limit : ℕ) → next_answer r limit ≡ Answer.Continue → (next_reading r limit).is_told ≡ true
told_now r limit is = let asks : asks_now r (unit_in r limit) ≡ true = continue_answer r (unit_in r limit) is in rw asks refl

some_limit : (begun : Bool) (kept : Option ℕ) (limit : ℕ) → is_some (kept_limit begun kept limit) ≡ (begun || is_some kept)
some_limit true kept limit = refl
some_limit false kept limit = refl

pub begun_now : (r : Reading) (limit : ℕ) → is_request (next_answer r limit) ≡ false → has_begun (next_reading r limit) ≡ (head_begun r.unread || has_begun r)
begun_now r limit none =
    ap has_begun (next_left r limit (asks_now r (unit_in r limit)) refl none) ∙ some_limit (head_begun r.unread) r.limit limit

-- ---- the last answer comes again

unit_again : (r : Reading) (limit again : ℕ) → unit_in (with_limit r limit) again ≡ unit_in r limit
unit_again r limit again = by_begun (head_begun r.unread) refl
  where
    by_begun : (t : Bool) → head_begun r.unread ≡ t
        → next_unit r.unread r.ended (limit_or (kept_limit t r.limit limit) again) ≡ unit_in r limit
    by_begun true is = refl
    by_begun false is = unbegun_alike r.unread r.ended (limit_or r.limit again) (limit_or r.limit limit) is

final_found : (answer : Next) → is_final answer ≡ true → is_request answer ≡ false
final_found (Answer.Request q) is = cc
final_found (Answer.Bad status) is = refl
final_found Answer.Cut is = refl
final_found Answer.End is = refl
final_found Answer.NeedMore is = refl
final_found Answer.Continue is = refl

final_idle : (r : Reading) (limit : ℕ) (asks : Bool) → asks_now r (unit_in r limit) ≡ asks → is_final (next_answer r limit) ≡ true → asks ≡ false
final_idle r limit true asks final = absurd (false≢true (sym (ap is_final (answer_is r limit true asks)) ∙ final))
final_idle r limit false idle final = refl

pub final_again : (r : Reading) (limit again : ℕ) → is_final (next_answer r limit) ≡ true → next_answer (next_reading r limit) again ≡ next_answer r limit
final_again r limit again final =
    let idle = final_idle r limit (asks_now r (unit_in r limit)) refl final in
    ap (λ (q : Reading). next_answer q again) (next_left r limit false idle (final_found (next_answer r limit) final))
    ∙ ap (unit_answer r) (unit_again r limit again)

-- a last answer needed no more bytes
final_tells : (r : Reading) (unit : NextUnit) → is_final (unit_answer r unit) ≡ true → asks_now r unit ≡ false → unit.found ≡ wait → ⊥
final_tells r unit final idle is =
    let answer : unit_answer r unit ≡ Answer.NeedMore = rw (idle, is) refl in
    false≢true (sym (ap is_final answer) ∙ final)

-- so it comes again whatever follows, also at the end of the input
pub final_fed : (r : Reading) (limit again : ℕ) (more : List ℕ) (ended : Bool) → r.ended ≡ false → is_final (next_answer r limit) ≡ true
    → next_answer (record (next_reading r limit) { unread = (next_reading r limit).unread ++ more; ended = ended }) again ≡ next_answer r limit
final_fed r limit again more ended running final =
    let idle = final_idle r limit (asks_now r (unit_in r limit)) refl final in
    let counts : ℕ = limit_or (kept_limit (head_begun r.unread) r.limit limit) again in
    let alike : next_unit r.unread false counts ≡ unit_in r limit =
    ap (λ over. next_unit r.unread over counts) (sym running) ∙ unit_again r limit again in
    let tells : (next_unit r.unread false counts).found ≢ wait =
    λ is. final_tells r (unit_in r limit) final idle (ap (λ (u : NextUnit). u.found) (sym alike) ∙ is) in
    ap (λ (q : Reading). next_answer (record q { unread = q.unread ++ more; ended = ended }) again)
    (next_left r limit false idle (final_found (next_answer r limit) final))
    ∙ ap (unit_answer r) (found_stays r.unread more ended counts tells ∙ alike)
