-- What every course says of its receipts, and that a longer list of configurations leaves it.
use Rattle.std.proofs.Common.{ℕ, zero, suc, ◌≡◌, ◌-◌, ◌≤◌, arith, refl, sym, ap, ◌∙◌, subst, List, [], ◌∷◌, ◌++◌, length, drop, Bool, true, false, not, ◌&&◌, ◌||◌, ◌==◌, nat_le, if◌then◌else◌, Option, Some, None, option_map, option_and_then, slice_get}
use Rattle.std.proofs.lemmas.Bool.{leb-true}
use Rattle.std.proofs.lemmas.Bool.Decides.{Decides-eqb}
use Rattle.unit_types.specs.declared.message.Request.{Request}
use Rattle.conf_validate.specs.Configuration.{Configuration}
use Rattle.http_front.specs.Front.{head_begun}
use Rattle.http_front.specs.Message.{is_last_request}
use Rattle.http_front.specs.NextUnit.{next_unit}
use Rattle.http_front.specs.Session.{Session, request_limit}
use Rattle.http_front.specs.Written.{continue_bytes, http_bytes}
use Rattle.conn_machine.specs.declared.receipt.Receipt.{Receipt}
use Rattle.conn_machine.specs.Answers.{Connection, closes, is_to_head, reply_line}
use Rattle.conn_machine.specs.Laws.{NeverFall}
use Rattle.conn_machine.specs.Sessions.{Course, behind, closed_course, unanswered, unbegun, turn_course, unit_course, receipt_course, course_from, course_of, session_in, session_of, log_lines_of}
use Rattle.conn_machine.specs.Turns.{Turn, replies, ends, unfit, turn_of, ends_between}

-- ---- a walk that comes to the same wherever another one comes to something

abbrev pub Refines : Option Course → Option Course → Type 0
Refines o p = (course : Course) → o ≡ Some course → p ≡ Some course

refines_same : (o : Option Course) → Refines o o
refines_same o course is = is

behind_refines : (written lines : List ℕ) (o p : Option Course) → Refines o p → Refines (behind written lines o) (behind written lines p)
behind_refines written lines None p to course is = absurd (cc is)
behind_refines written lines (Some inner) p to course is = ap (behind written lines) (to inner refl) ∙ is

if_refines : (close : Bool) (x o p : Option Course) → Refines o p → Refines (if close then x else o) (if close then x else p)
if_refines true x o p to course is = is
if_refines false x o p to course is = to course is

turn_refines : (c : Connection) (conf : Configuration) (left : ℕ) (bytes : List ℕ) (receipts : List Receipt) (rest other : List ℕ → Option Course) (turn : Turn)
    → ((bytes : List ℕ) → Refines (rest bytes) (other bytes))
    → Refines (turn_course c conf left bytes receipts rest turn) (turn_course c conf left bytes receipts other turn)
turn_refines c conf left bytes receipts rest other (replies request reply used) to =
    let close = closes request left in
    behind_refines (http_bytes reply (is_to_head request) close) (reply_line conf c.from request reply)
    (if close then closed_course receipts else rest (drop used bytes)) (if close then closed_course receipts else other (drop used bytes))
    (if_refines close (closed_course receipts) (rest (drop used bytes)) (other (drop used bytes)) (to (drop used bytes)))
turn_refines c conf left bytes receipts rest other ends to = refines_same (closed_course receipts)
turn_refines c conf left bytes receipts rest other unfit to = refines_same None

receipt_refines : (c : Connection) (o p : Option Configuration) (ended : Bool) (left : ℕ) (told : Bool) (bytes : List ℕ) (r : Receipt) (rs : List Receipt)
    (rest other : List ℕ → Option Course) → ((conf : Configuration) → o ≡ Some conf → p ≡ Some conf)
    → ((bytes : List ℕ) → Refines (rest bytes) (other bytes))
    → Refines (receipt_course c o ended left told bytes r rs rest) (receipt_course c p ended left told bytes r rs other)
receipt_refines c None p ended left told bytes r rs rest other same to course is = absurd (cc is)
receipt_refines c (Some conf) p ended left told bytes r rs rest other same to course is =
    ap (λ o. receipt_course c o ended left told bytes r rs other) (same conf refl) ∙ by (head_begun bytes) course is
  where
    by : (begun : Bool) → Refines
        (if begun then unit_course c conf left told bytes r rs rest (next_unit bytes ended conf.max_body) else unbegun r rs)
        (if begun then unit_course c conf left told bytes r rs other (next_unit bytes ended conf.max_body) else unbegun r rs)
    by true =
        let next = next_unit bytes ended conf.max_body in
        let turn = turn_of c conf r next.found in
        behind_refines (continue_bytes (next.continue_due && not told)) []
        (turn_course c conf left bytes rs rest turn) (turn_course c conf left bytes rs other turn)
        (turn_refines c conf left bytes rs rest other turn to)
    by false = refines_same (unbegun r rs)

get_longer : (confs more : List Configuration) (n : ℕ) (conf : Configuration) → slice_get confs n ≡ Some conf → slice_get (confs ++ more) n ≡ Some conf
get_longer [] more n conf is = absurd (cc is)
get_longer (x ∷ xs) more zero conf is = is
get_longer (x ∷ xs) more (suc n) conf is = get_longer xs more n conf is

course_longer : (c : Connection) (confs more : List Configuration) (ended : Bool) (receipts : List Receipt) (left last : ℕ) (told : Bool) (bytes : List ℕ)
    → Refines (course_from c confs ended receipts left last told bytes) (course_from c (confs ++ more) ended receipts left last told bytes)
unfolding course_from
course_longer c confs more ended [] left last told bytes = refines_same (unanswered bytes)
course_longer c confs more ended (r ∷ rs) left last told bytes =
    by (λ bytes. course_longer c confs more ended rs (left - 1) r.conf false bytes) (nat_le last r.conf)
  where
    by : ((bytes : List ℕ) → Refines (course_from c confs ended rs (left - 1) r.conf false bytes) (course_from c (confs ++ more) ended rs (left - 1) r.conf false bytes))
        → (low : Bool) → Refines
        (if low then receipt_course c (slice_get confs r.conf) ended left told bytes r rs (course_from c confs ended rs (left - 1) r.conf false) else None)
        (if low then receipt_course c (slice_get (confs ++ more) r.conf) ended left told bytes r rs (course_from c (confs ++ more) ended rs (left - 1) r.conf false) else None)
    by next true =
        receipt_refines c (slice_get confs r.conf) (slice_get (confs ++ more) r.conf) ended left told bytes r rs
        (course_from c confs ended rs (left - 1) r.conf false) (course_from c (confs ++ more) ended rs (left - 1) r.conf false)
        (λ conf is. get_longer confs more r.conf conf is)
        next
    by next false = refines_same None

-- a session is that of a course
some_of : {A B : Type 0} (f : A → Option B) (o : Option A) (y : B) → option_and_then f o ≡ Some y → (x : A) × (o ≡ Some x)
some_of f None y is = absurd (cc is)
some_of f (Some x) y is = (x, refl)

some_mapped : {A B : Type 0} (f : A → B) (o : Option A) (y : B) → option_map f o ≡ Some y → (x : A) × (o ≡ Some x)
some_mapped f None y is = absurd (cc is)
some_mapped f (Some x) y is = (x, refl)

abbrev in_course : Course → Option Session
in_course course = session_in course.written course.mark

pub session_longer : (c : Connection) (confs more : List Configuration) (receipts : List Receipt) (bytes : List ℕ) (ended : Bool) (session : Session)
    → session_of c confs receipts bytes ended ≡ Some session → session_of c (confs ++ more) receipts bytes ended ≡ Some session
session_longer c confs more receipts bytes ended session is =
    let there = some_of in_course (course_of c confs receipts bytes ended) session is in
    ap (option_and_then in_course) (course_longer c confs more ended receipts request_limit 0 false bytes there.0 there.1 ∙ sym there.1) ∙ is

pub lines_longer : (c : Connection) (confs more : List Configuration) (receipts : List Receipt) (bytes : List ℕ) (ended : Bool) (lines : List ℕ)
    → log_lines_of c confs receipts bytes ended ≡ Some lines → log_lines_of c (confs ++ more) receipts bytes ended ≡ Some lines
lines_longer c confs more receipts bytes ended lines is =
    let lines_in : Course → List ℕ = λ course. course.lines in
    let there = some_mapped lines_in (course_of c confs receipts bytes ended) lines is in
    ap (option_map lines_in) (course_longer c confs more ended receipts request_limit 0 false bytes there.0 there.1 ∙ sym there.1) ∙ is

-- ---- what holds of the receipts of a walk that comes to something

abbrev Tells : Option Course → Type 0 → Type 0
Tells o P = (course : Course) → o ≡ Some course → P

behind_tells : (written lines : List ℕ) (o : Option Course) (P : Type 0) → Tells o P → Tells (behind written lines o) P
behind_tells written lines None P tells course is = absurd (cc is)
behind_tells written lines (Some inner) P tells course is = tells inner refl

closed_tells : (receipts : List Receipt) (P : Type 0) → (receipts ≡ [] → P) → Tells (closed_course receipts) P
closed_tells [] P empty course is = empty refl
closed_tells (r ∷ rs) P empty course is = absurd (cc is)

-- where the connection goes on more requests may come
goes_low : (request : Option Request) (left : ℕ) → closes request left ≡ false → ((left - 1) == 0) ≡ false
goes_low None left is = absurd (cc is)
goes_low (Some r) left is = by (is_last_request r) is
  where
    by : (last : Bool) → (last || (left - 1) == 0) ≡ false → ((left - 1) == 0) ≡ false
    by true is = absurd (cc is)
    by false is = is

turn_tells : (c : Connection) (conf : Configuration) (left : ℕ) (bytes : List ℕ) (receipts : List Receipt) (rest : List ℕ → Option Course) (turn : Turn) (P : Type 0)
    → (receipts ≡ [] → P) → (((left - 1) == 0) ≡ false → (bytes : List ℕ) → Tells (rest bytes) P)
    → Tells (turn_course c conf left bytes receipts rest turn) P
turn_tells c conf left bytes receipts rest (replies request reply used) P empty next =
    behind_tells (http_bytes reply (is_to_head request) (closes request left)) (reply_line conf c.from request reply)
    (if closes request left then closed_course receipts else rest (drop used bytes)) P (by (closes request left) refl)
  where
    by : (close : Bool) → closes request left ≡ close → Tells (if close then closed_course receipts else rest (drop used bytes)) P
    by true is = closed_tells receipts P empty
    by false is = next (goes_low request left is) (drop used bytes)
turn_tells c conf left bytes receipts rest ends P empty next = closed_tells receipts P empty
turn_tells c conf left bytes receipts rest unfit P empty next = λ course is. absurd (cc is)

receipt_tells : (c : Connection) (o : Option Configuration) (ended : Bool) (left : ℕ) (told : Bool) (bytes : List ℕ) (r : Receipt) (rs : List Receipt)
    (rest : List ℕ → Option Course) (P : Type 0)
    → (rs ≡ [] → P) → (((left - 1) == 0) ≡ false → (bytes : List ℕ) → Tells (rest bytes) P)
    → Tells (receipt_course c o ended left told bytes r rs rest) P
receipt_tells c None ended left told bytes r rs rest P empty next = λ course is. absurd (cc is)
receipt_tells c (Some conf) ended left told bytes r rs rest P empty next = by (head_begun bytes)
  where
    at_kind : (may : Bool) → Tells (if may then closed_course rs else None) P
    at_kind true = closed_tells rs P empty
    at_kind false = λ course is. absurd (cc is)

    by : (begun : Bool)
        → Tells (if begun then unit_course c conf left told bytes r rs rest (next_unit bytes ended conf.max_body) else unbegun r rs) P
    by true =
        let unit = next_unit bytes ended conf.max_body in
        behind_tells (continue_bytes (unit.continue_due && not told)) [] (turn_course c conf left bytes rs rest (turn_of c conf r unit.found)) P
        (turn_tells c conf left bytes rs rest (turn_of c conf r unit.found) P empty next)
    by false = at_kind (ends_between r.kind)

-- numbers that never fall, and at most so many receipts
abbrev pub Kept : ℕ → ℕ → List Receipt → Type 0
Kept left last receipts = NeverFall last receipts × (length receipts ≤ left)

-- one more than what is left at least
left_low : (left : ℕ) (rs : List Receipt) → 1 ≤ left → rs ≡ [] → length rs ≤ left - 1
left_low left rs low is = let e : length rs ≡ 0 = ap length is in omega (arith, e)

one_low : (n : ℕ) → (n == 0) ≡ false → 1 ≤ n
one_low zero is = absurd (cc (sym ((Decides-eqb 0 0).1 refl) ∙ is))
one_low (suc n) is = omega arith

course_tells : (c : Connection) (confs : List Configuration) (ended : Bool) (receipts : List Receipt) (left last : ℕ) (told : Bool) (bytes : List ℕ)
    → 1 ≤ left → Tells (course_from c confs ended receipts left last told bytes) (Kept left last receipts)
unfolding course_from
course_tells c confs ended [] left last told bytes low = λ course is. (tt, omega arith)
course_tells c confs ended (r ∷ rs) left last told bytes low =
    by (λ more bytes. course_tells c confs ended rs (left - 1) r.conf false bytes (one_low (left - 1) more)) (nat_le last r.conf) refl
  where
    empty : rs ≡ [] → Kept (left - 1) r.conf rs
    empty is = (subst (NeverFall r.conf) (sym is) tt, left_low left rs low is)

    grown : last ≤ r.conf → Kept (left - 1) r.conf rs → Kept left last (r ∷ rs)
    grown rises kept = ((rises, kept.0), (let shorter : length rs ≤ left - 1 = kept.1 in omega (arith, shorter, low)))

    by : (((left - 1) == 0) ≡ false → (bytes : List ℕ) → Tells (course_from c confs ended rs (left - 1) r.conf false bytes) (Kept (left - 1) r.conf rs))
        → (b : Bool) → nat_le last r.conf ≡ b
        → Tells (if b then receipt_course c (slice_get confs r.conf) ended left told bytes r rs (course_from c confs ended rs (left - 1) r.conf false) else None) (Kept left last (r ∷ rs))
    by next true is course found =
        grown (leb-true last r.conf is)
        (receipt_tells c (slice_get confs r.conf) ended left told bytes r rs (course_from c confs ended rs (left - 1) r.conf false)
        (Kept (left - 1) r.conf rs) empty next course found)
    by next false is course found = absurd (cc found)

pub session_tells : (c : Connection) (confs : List Configuration) (receipts : List Receipt) (bytes : List ℕ) (ended : Bool) (session : Session)
    → session_of c confs receipts bytes ended ≡ Some session → Kept request_limit 0 receipts
session_tells c confs receipts bytes ended session is =
    let there = some_of in_course (course_of c confs receipts bytes ended) session is in
    let low : 1 ≤ request_limit = omega arith in
    course_tells c confs ended receipts request_limit 0 false bytes low there.0 there.1
