-- What a reader's step uses up, and what is left of its reading.
use Rattle.std.proofs.Common.{ℕ, ◌≡◌, ◌+◌, ◌≤◌, ◌<◌, refl, sym, ap, ◌∙◌, subst, List, length, take, drop, Bool, true, false, not, ◌&&◌, Option, Some, None, arith, drop-drop, length-drop}
use Rattle.std.specs.Bool.{⊤}
use Rattle.httparse.specs.Grammar.{RequestHead}
use Rattle.unit_types.specs.declared.field.Field.{Field}
use Rattle.http_front.specs.declared.content.Content.{Content}
use Rattle.http_front.specs.declared.content.Content.TheVariants.{Whole, Refused, Open}
use Rattle.http_front.specs.Head.{head_of}
use Rattle.http_front.specs.Front.{Front, unready, too_long, block, blank_len, front_of}
use Rattle.unit_types.specs.Limits.{head_limit}
use Rattle.http_front.specs.Message.{Message, fields_of}
use Rattle.http_front.specs.Target.{is_faulty_target}
use Rattle.http_front.specs.Checks.{has_too_many_lines, lacks_host, is_ambiguous, has_other_coding, has_faulty_length, is_too_long, refusal_step, refusal_of}
use Rattle.http_front.specs.Content.{content_of}
use Rattle.http_front.specs.NextUnit.{Found, request, bad, cut, finished, wait, open_found, content_found, unready_found, end_found, checked_unit, block_unit, front_unit, next_unit}
use Rattle.unit_types.specs.declared.message.Addr.{Addr}
use Rattle.http_front.specs.declared.next_unit.Told.{Told}
use Rattle.http_front.specs.declared.next_unit.Next.TheVariants as Answer
use Rattle.http_front.specs.Reading.{answer_at, is_request, used_by, kept_limit}
use Rattle.http_front.specs.Kept.{Kept, begun_at, unit_of, asks_of, kept_behind, limited, kept_next, told_in}
use Rattle.http_front.proofs.KeptLemmas.{head_kept}
use Rattle.http_front.proofs.BlockLemmas.{blank_within}
use Rattle.http_front.proofs.FrontStays.{front_some, front_fits}
use Rattle.http_front.proofs.ContentStays.{IsErrorStatus, FitsContent, content_fits}

-- ---- a unit lies in its bytes, and a status is one of an error

abbrev pub FitsFound : ℕ → Found → Type 0
FitsFound have (request m used) = (0 < used) × (used ≤ have)
FitsFound have (bad status) = IsErrorStatus status
FitsFound have cut = ⊤
FitsFound have finished = ⊤
FitsFound have wait = ⊤

fits_open : (have : ℕ) (ended : Bool) → FitsFound have (open_found ended)
fits_open have false = tt
fits_open have true = tt

fits_content : (h : RequestHead) (used left have : ℕ) (ended : Bool) (c : Content) → 0 < used → used + left ≤ have → FitsContent left c → FitsFound have (content_found h used ended c)
fits_content h used left have ended (Whole content len) some low fits = omega (arith, some, low, fits)
fits_content h used left have ended (Refused status) some low fits = fits
fits_content h used left have ended Open some low fits = fits_open have ended

-- each check refuses with the status of an error
error_refusal : (limit minor : ℕ) (target : List ℕ) (fields : List Field) (status : ℕ) → refusal_of limit minor target fields ≡ Some status → IsErrorStatus status
error_refusal limit minor target fields status is =
    by_six (is_faulty_target target) (lacks_host minor fields) (is_ambiguous minor fields) (has_other_coding fields) (has_faulty_length fields) (is_too_long limit fields) is
  where
    small : (n : ℕ) → IsErrorStatus n → Some n ≡ Some status → IsErrorStatus status
    small n is same = let e : n ≡ status = cc in omega (arith, is, e)

    by_six : (a b c d e f : Bool)
        → refusal_step a 400 (refusal_step b 400 (refusal_step c 400 (refusal_step d 501 (refusal_step e 400 (refusal_step f 413 None))))) ≡ Some status → IsErrorStatus status
    by_six true b c d e f is = small 400 (omega arith) is
    by_six false true c d e f is = small 400 (omega arith) is
    by_six false false true d e f is = small 400 (omega arith) is
    by_six false false false true e f is = small 501 (omega arith) is
    by_six false false false false true f is = small 400 (omega arith) is
    by_six false false false false false true is = small 413 (omega arith) is
    by_six false false false false false false is = absurd (cc)

fits_checked : (h : RequestHead) (limit used have : ℕ) (rest : List ℕ) (ended : Bool) (refusal : Option ℕ) → 0 < used → used + length rest ≤ have
    → ((status : ℕ) → refusal ≡ Some status → IsErrorStatus status) → FitsFound have (checked_unit h limit used rest ended refusal).found
fits_checked h limit used have rest ended (Some status) some low small = small status refl
fits_checked h limit used have rest ended None some low small =
    fits_content h used (length rest) have ended (content_of limit (fields_of h) rest) some low (content_fits limit (fields_of h) rest)

fits_block : (many : Bool) (limit used have : ℕ) (rest : List ℕ) (ended : Bool) (head : Option RequestHead) → 0 < used → used + length rest ≤ have
    → FitsFound have (block_unit many limit used rest ended head).found
fits_block true limit used have rest ended head some low = omega arith
fits_block false limit used have rest ended None some low = omega arith
fits_block false limit used have rest ended (Some h) some low =
    fits_checked h limit used have rest ended (refusal_of limit h.minor h.target (fields_of h)) some low (error_refusal limit h.minor h.target (fields_of h))

fits_end : (have : ℕ) (empty : Bool) → FitsFound have (end_found empty)
fits_end have true = tt
fits_end have false = tt

fits_unready : (have : ℕ) (ended : Bool) (bytes : List ℕ) → FitsFound have (unready_found ended bytes)
fits_unready have false bytes = tt
fits_unready have true bytes = fits_end have _

fits_front : (limit blank have : ℕ) (bytes : List ℕ) (ended : Bool) (front : Front) → blank + length bytes ≤ have → ((n : ℕ) → front ≡ block n → (0 < n) × (n ≤ length bytes))
    → FitsFound have (front_unit limit blank bytes ended front).found
fits_front limit blank have bytes ended unready low within = fits_unready have ended bytes
fits_front limit blank have bytes ended too_long low within = omega arith
fits_front limit blank have bytes ended (block n) low within =
    let inside = within n refl in
    fits_block (has_too_many_lines (take n bytes)) limit (blank + n) have (drop n bytes) ended (head_of (take n bytes)) (omega (arith, inside.0)) (omega (arith, low, inside.1, length-drop n bytes))

unit_fits : (bytes : List ℕ) (ended : Bool) (limit : ℕ) → FitsFound (length bytes) (next_unit bytes ended limit).found
unfolding next_unit blank_len
unit_fits bytes ended limit =
    let blank = blank_len bytes in
    let rest = drop blank bytes in
    let passed = blank_within bytes in
    fits_front limit blank (length bytes) rest ended (front_of head_limit rest) (omega (arith, passed, length-drop blank bytes))
    (λ n is. (front_some head_limit rest n is, front_fits head_limit rest n is))

used_found : (have : ℕ) (f : Found) → FitsFound have f → used_by f ≤ have
used_found have (request m used) fits = fits.1
used_found have (bad status) fits = omega arith
used_found have cut fits = omega arith
used_found have finished fits = omega arith
used_found have wait fits = omega arith

pub used_within : (bytes : List ℕ) (ended : Bool) (limit : ℕ) → used_by (next_unit bytes ended limit).found ≤ length bytes
used_within bytes ended limit = used_found (length bytes) (next_unit bytes ended limit).found (unit_fits bytes ended limit)

pub request_within : (bytes : List ℕ) (ended : Bool) (limit : ℕ) (m : Message) (used : ℕ) → (next_unit bytes ended limit).found ≡ request m used → (0 < used) × (used ≤ length bytes)
request_within bytes ended limit m used is = subst (λ (f : Found). FitsFound (length bytes) f) is (unit_fits bytes ended limit)

pub error_status : (bytes : List ℕ) (ended : Bool) (limit status : ℕ) → (next_unit bytes ended limit).found ≡ bad status → IsErrorStatus status
error_status bytes ended limit status is = subst (λ (f : Found). FitsFound (length bytes) f) is (unit_fits bytes ended limit)

-- ---- a reader's step

pub step_continue : (k : Kept) (limit : ℕ) (told : Told) → told ≡ told_in k limit → (told.is_due && not k.is_told) ≡ true
    → record k { limit = kept_limit told.is_begun k.limit limit; is_told = true } ≡ kept_next k limit
step_continue k limit told is asks =
    let begun : told.is_begun ≡ begun_at k.stage k.bytes = ap (λ (t : Told). t.is_begun) is in
    let due : asks_of k limit ≡ true = ap (λ (t : Told). t.is_due && not k.is_told) (sym is) ∙ asks in
    rw (begun, due) refl

not_asks : (k : Kept) (limit : ℕ) (told : Told) → told ≡ told_in k limit → (told.is_due && not k.is_told) ≡ false → asks_of k limit ≡ false
not_asks k limit told is asks = ap (λ (t : Told). t.is_due && not k.is_told) (sym is) ∙ asks

pub step_request : (k : Kept) (items : List ℕ) (used limit : ℕ) (told : Told) → k.bytes ≡ drop used items
    → told ≡ told_in k limit → (told.is_due && not k.is_told) ≡ false → is_request told.answer ≡ true
    → head_kept k.mark k.from k.to (drop (used + told.used) items) k.ended None false ≡ kept_next k limit
step_request k items used limit told left is asks serves =
    let idle : asks_of k limit ≡ false = not_asks k limit told is asks in
    let uses : told.used ≡ used_by (unit_of k limit).found = ap (λ (t : Told). t.used) is in
    let served : is_request (answer_at k.from k.to (unit_of k limit).found) ≡ true = ap (λ (t : Told). is_request t.answer) (sym is) ∙ serves in
    rw (idle, uses) (by_found (unit_of k limit).found served)
  where
    by_found : (g : Found) → is_request (answer_at k.from k.to g) ≡ true
        → head_kept k.mark k.from k.to (drop (used + used_by g) items) k.ended None false ≡ kept_behind (limited k limit) g
    by_found (request m n) asks =
        ap (λ bytes. head_kept k.mark k.from k.to bytes k.ended None false) (sym (drop-drop n used items) ∙ ap (drop n) (sym left))
    by_found (bad status) asks = cc
    by_found cut asks = cc
    by_found finished asks = cc
    by_found wait asks = cc

pub step_other : (k : Kept) (limit : ℕ) (told : Told) → told ≡ told_in k limit → (told.is_due && not k.is_told) ≡ false → is_request told.answer ≡ false
    → record k { limit = kept_limit told.is_begun k.limit limit } ≡ kept_next k limit
step_other k limit told is asks serves =
    let idle : asks_of k limit ≡ false = not_asks k limit told is asks in
    let begun : told.is_begun ≡ begun_at k.stage k.bytes = ap (λ (t : Told). t.is_begun) is in
    let none : is_request (answer_at k.from k.to (unit_of k limit).found) ≡ false = ap (λ (t : Told). is_request t.answer) (sym is) ∙ serves in
    rw (idle, begun) (by_found (limited k limit) (unit_of k limit).found none)
  where
    by_found : (q : Kept) (g : Found) → is_request (answer_at q.from q.to g) ≡ false → q ≡ kept_behind q g
    by_found q (request m n) other = cc
    by_found q (bad status) other = refl
    by_found q cut other = refl
    by_found q finished other = refl
    by_found q wait other = refl

-- bytes are refused with a status of three digits
answer_bad : (from to : Addr) (f : Found) (status : ℕ) → answer_at from to f ≡ Answer.Bad status → f ≡ bad status
answer_bad from to (request m used) status is = absurd (cc is)
answer_bad from to (bad other) status is = cc is
answer_bad from to cut status is = absurd (cc is)
answer_bad from to finished status is = absurd (cc is)
answer_bad from to wait status is = absurd (cc is)

pub small_answer : (from to : Addr) (bytes : List ℕ) (ended : Bool) (limit status : ℕ) → answer_at from to (next_unit bytes ended limit).found ≡ Answer.Bad status → status < 1000
small_answer from to bytes ended limit status is =
    let low = error_status bytes ended limit status (answer_bad from to (next_unit bytes ended limit).found status is) in omega (arith, low.1)
