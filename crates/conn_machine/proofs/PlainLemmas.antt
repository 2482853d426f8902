-- Where each request was answered by a handler or by the server, under one configuration, the session is the plain one.
use Rattle.std.proofs.Common.{ℕ, zero, suc, ◌≡◌, ◌-◌, arith, refl, sym, ap, ◌∙◌, subst, List, [], ◌∷◌, ◌++◌, drop, Bool, true, false, not, ◌&&◌, ◌||◌, ◌==◌, ◌⊎◌, inl, inr, nat_lt, nat_le, if◌then◌else◌, Option, Some, None, option_and_then, slice_get, append-nil}
use Rattle.std.proofs.lemmas.Bool.Decides.{Decides-eqb}
use Rattle.unit_types.specs.declared.message.Request.{Request}
use Rattle.conf_validate.specs.Configuration.{Configuration}
use Rattle.http_front.specs.Front.{head_begun}
use Rattle.http_front.specs.Message.{Message, request_of, is_last_request}
use Rattle.http_front.specs.NextUnit.{Found, request, bad, cut, finished, wait, NextUnit, next_unit}
use Rattle.http_front.specs.Session as plain
use Rattle.http_front.specs.Session.{Session, found_session, request_limit, session_from, plain_session_of}
use Rattle.http_front.specs.Written.{continue_bytes, error_bytes, error_reply}
use Rattle.conn_machine.specs.declared.receipt.Kind.{Kind}
use Rattle.conn_machine.specs.declared.receipt.Kind.TheVariants as kind
use Rattle.conn_machine.specs.declared.receipt.Receipt.{Receipt}
use Rattle.conn_machine.specs.Answers.{Connection, answer_of, closes, reply_line, reply_to}
use Rattle.conn_machine.specs.Asking.{is_app}
use Rattle.conn_machine.specs.Laws.{ArePlain, is_plain_kind, plain_connection}
use Rattle.conn_machine.specs.Sessions.{Course, Mark, still_open, under_way, closed, behind, stands, closed_course, unbegun, turn_course, unit_course, receipt_course, course_from, session_in, session_of}
use Rattle.conn_machine.specs.Turns.{replies, ends, when, target_for, kind_turn, turn_of, ends_between}
use Rattle.conn_machine.proofs.FrontLaws.{IsIdle, unbegun_idle}

abbrev pub in_course : Course → Option Session
in_course course = session_in course.written course.mark

-- a session of this course is that one
abbrev Gives : Option Course → Session → Type 0
Gives o other = (session : Session) → option_and_then in_course o ≡ Some session → session ≡ other

gives_nothing : (o : Option Course) (other : Session) → option_and_then in_course o ≡ None → Gives o other
gives_nothing o other none session is = absurd (cc (sym none ∙ is))

at_mark : (text written : List ℕ) (mark : Mark) (other : Session)
    → ((session : Session) → session_in written mark ≡ Some session → session ≡ other)
    → (session : Session) → session_in (text ++ written) mark ≡ Some session → session ≡ plain.behind text other
at_mark text written still_open other gives session is =
    let now : record { written = text ++ written; closed = false } ≡ session = cc is in
    sym now ∙ ap (plain.behind text) (gives (record { written = written; closed = false }) refl)
at_mark text written under_way other gives session is = absurd (cc is)
at_mark text written closed other gives session is =
    let now : record { written = text ++ written; closed = true } ≡ session = cc is in
    sym now ∙ ap (plain.behind text) (gives (record { written = written; closed = true }) refl)

gives_behind : (text lines : List ℕ) (o : Option Course) (other : Session) → Gives o other → Gives (behind text lines o) (plain.behind text other)
gives_behind text lines None other gives session is = absurd (cc is)
gives_behind text lines (Some course) other gives session is = at_mark text course.written course.mark other gives session is

gives_closed : (receipts : List Receipt) → Gives (closed_course receipts) (record { written = []; closed = true })
gives_closed [] session is = let now : record { written = []; closed = true } ≡ session = cc is in sym now
gives_closed (r ∷ rs) session is = absurd (cc is)

-- ---- an answer

-- the two counts of what is left are the same
pub same_close : (q : Request) (left : ℕ) → closes (Some q) (suc left) ≡ (is_last_request q || left == 0)
same_close q left = let e : suc left - 1 ≡ left = omega arith in ap (λ n. is_last_request q || n == 0) e

answered_gives : (c : Connection) (conf : Configuration) (q : Request) (close : Bool) (lines : List ℕ) (rs : List Receipt) (rest : Option Course) (other : Session)
    → (close ≡ false → Gives rest other)
    → Gives (behind (answer_of c conf q close) lines (if close then closed_course rs else rest)) (plain.answered (plain_connection c conf) q close other)
answered_gives c conf q true lines rs rest other gives session is =
    gives_behind (answer_of c conf q true) lines (closed_course rs) (record { written = []; closed = true }) (gives_closed rs) session is
    ∙ ap (λ written. record { written = written; closed = true }) (append-nil (answer_of c conf q true))
answered_gives c conf q false lines rs rest other gives session is = gives_behind (answer_of c conf q false) lines rest other (gives refl) session is

-- where the connection goes on
abbrev Follow : ℕ → (List ℕ → Option Course) → (List ℕ → Session) → Type 0
Follow left rest other = (left == 0) ≡ false → (bytes : List ℕ) → Gives (rest bytes) (other bytes)

pub more_left : (q : Request) (left : ℕ) → (is_last_request q || left == 0) ≡ false → (left == 0) ≡ false
more_left q left is = by (is_last_request q) is
  where
    by : (last : Bool) → (last || left == 0) ≡ false → (left == 0) ≡ false
    by true is = absurd (cc is)
    by false is = is

request_gives : (c : Connection) (conf : Configuration) (bytes : List ℕ) (rs : List Receipt) (left : ℕ) (rest : List ℕ → Option Course) (other : List ℕ → Session)
    (b : Bool) (m : Message) (used : ℕ) → Follow left rest other
    → Gives (turn_course c conf (suc left) bytes rs rest (when b (replies (Some (request_of c.from c.to m)) (reply_to c conf (request_of c.from c.to m)) used)))
    (found_session (plain_connection c conf) left bytes other (request m used))
request_gives c conf bytes rs left rest other false m used follow = λ session is. absurd (cc is)
request_gives c conf bytes rs left rest other true m used follow =
    let q = request_of c.from c.to m in
    let line = reply_line conf c.from (Some q) (reply_to c conf q) in
    subst (λ close. Gives (behind (answer_of c conf q close) line (if close then closed_course rs else rest (drop used bytes))) (plain.answered (plain_connection c conf) q (is_last_request q || left == 0) (other (drop used bytes))))
    (sym (same_close q left))
    (answered_gives c conf q (is_last_request q || left == 0) line rs (rest (drop used bytes)) (other (drop used bytes))
    (λ goes_on. follow (more_left q left goes_on) (drop used bytes)))

refused_gives : (c : Connection) (conf : Configuration) (bytes : List ℕ) (rs : List Receipt) (left : ℕ) (rest : List ℕ → Option Course) (other : List ℕ → Session)
    (b : Bool) (status : ℕ)
    → Gives (turn_course c conf (suc left) bytes rs rest (when b (replies None (error_reply status) 0)))
    (found_session (plain_connection c conf) left bytes other (bad status))
refused_gives c conf bytes rs left rest other false status = λ session is. absurd (cc is)
refused_gives c conf bytes rs left rest other true status = λ session is.
    gives_behind (error_bytes status false true) (reply_line conf c.from None (error_reply status)) (closed_course rs)
    (record { written = []; closed = true }) (gives_closed rs) session is
    ∙ ap (λ written. record { written = written; closed = true }) (append-nil (error_bytes status false true))

cut_gives : (c : Connection) (conf : Configuration) (bytes : List ℕ) (rs : List Receipt) (left : ℕ) (rest : List ℕ → Option Course) (other : List ℕ → Session)
    (b : Bool) → head_begun bytes ≡ true
    → Gives (turn_course c conf (suc left) bytes rs rest (when b ends)) (found_session (plain_connection c conf) left bytes other cut)
cut_gives c conf bytes rs left rest other false begun = λ session is. absurd (cc is)
cut_gives c conf bytes rs left rest other true begun = λ session is.
    gives_closed rs session is ∙ ap (λ over. record { written = []; closed = over }) (sym begun)

-- ---- by kind

kind_gives : (c : Connection) (conf : Configuration) (bytes : List ℕ) (rs : List Receipt) (left : ℕ) (rest : List ℕ → Option Course) (other : List ℕ → Session)
    (stream : ℕ) (k : Kind) (found : Found) → is_plain_kind k ≡ true → head_begun bytes ≡ true → Follow left rest other
    → Gives (turn_course c conf (suc left) bytes rs rest (kind_turn c conf stream k found)) (found_session (plain_connection c conf) left bytes other found)
kind_gives c conf bytes rs left rest other stream kind.App (request m used) plainly begun follow =
    let q = request_of c.from c.to m in
    request_gives c conf bytes rs left rest other (is_app (target_for c conf q) && nat_lt 0 stream) m used follow
kind_gives c conf bytes rs left rest other stream kind.App (bad status) plainly begun follow = λ session is. absurd (cc is)
kind_gives c conf bytes rs left rest other stream kind.App cut plainly begun follow = λ session is. absurd (cc is)
kind_gives c conf bytes rs left rest other stream kind.App finished plainly begun follow = λ session is. absurd (cc is)
kind_gives c conf bytes rs left rest other stream kind.App wait plainly begun follow = λ session is. absurd (cc is)
kind_gives c conf bytes rs left rest other stream kind.Own (request m used) plainly begun follow =
    let q = request_of c.from c.to m in
    request_gives c conf bytes rs left rest other (not (is_app (target_for c conf q)) && stream == 0) m used follow
kind_gives c conf bytes rs left rest other stream kind.Own (bad status) plainly begun follow =
    refused_gives c conf bytes rs left rest other (stream == 0) status
kind_gives c conf bytes rs left rest other stream kind.Own cut plainly begun follow = λ session is. absurd (cc is)
kind_gives c conf bytes rs left rest other stream kind.Own finished plainly begun follow = λ session is. absurd (cc is)
kind_gives c conf bytes rs left rest other stream kind.Own wait plainly begun follow = λ session is. absurd (cc is)
kind_gives c conf bytes rs left rest other stream (kind.Busy cause) found plainly begun follow = absurd (cc plainly)
kind_gives c conf bytes rs left rest other stream (kind.Late deadline now) found plainly begun follow = absurd (cc plainly)
kind_gives c conf bytes rs left rest other stream kind.Gone found plainly begun follow = absurd (cc plainly)
kind_gives c conf bytes rs left rest other stream kind.Memory found plainly begun follow = absurd (cc plainly)
kind_gives c conf bytes rs left rest other stream kind.Cut (request m used) plainly begun follow = λ session is. absurd (cc is)
kind_gives c conf bytes rs left rest other stream kind.Cut (bad status) plainly begun follow = λ session is. absurd (cc is)
kind_gives c conf bytes rs left rest other stream kind.Cut cut plainly begun follow = cut_gives c conf bytes rs left rest other (stream == 0) begun
kind_gives c conf bytes rs left rest other stream kind.Cut finished plainly begun follow = λ session is. absurd (cc is)
kind_gives c conf bytes rs left rest other stream kind.Cut wait plainly begun follow = λ session is. absurd (cc is)

-- a request that none of these kinds ends is none between two
plain_between : (k : Kind) → is_plain_kind k ≡ true → ends_between k ≡ false
plain_between kind.App is = refl
plain_between kind.Own is = refl
plain_between (kind.Busy cause) is = absurd (cc is)
plain_between (kind.Late deadline now) is = absurd (cc is)
plain_between kind.Gone is = absurd (cc is)
plain_between kind.Cut is = refl
plain_between kind.Memory is = absurd (cc is)

-- ---- the walk

-- without a complete head the plain session is empty and open
idle_session : (c : Connection) (conf : Configuration) (left : ℕ) (bytes : List ℕ) (rest : List ℕ → Session) (unit : NextUnit) → head_begun bytes ≡ false → IsIdle unit
    → record { written = []; closed = false } ≡ plain.unit_session (plain_connection c conf) left bytes rest unit
idle_session c conf left bytes rest unit unbegun idle = by idle.1
  where
    by : (unit.found ≡ finished) ⊎ (unit.found ≡ cut)
        → record { written = []; closed = false } ≡ plain.unit_session (plain_connection c conf) left bytes rest unit
    by (inl is) = λ i. plain.behind (continue_bytes (sym idle.0 i)) (found_session (plain_connection c conf) left bytes rest (sym is i))
    by (inr is) =
        ap (λ over. record { written = []; closed = over }) (sym unbegun)
        ∙ (λ i. plain.behind (continue_bytes (sym idle.0 i)) (found_session (plain_connection c conf) left bytes rest (sym is i)))

and_true : (b : Bool) → (b && not false) ≡ b
and_true true = refl
and_true false = refl

walk_gives : (c : Connection) (confs : List Configuration) (conf : Configuration) (number : ℕ) (receipts : List Receipt) (left last : ℕ) (bytes : List ℕ)
    → slice_get confs number ≡ Some conf → ArePlain number receipts
    → Gives (course_from c confs true receipts (suc left) last false bytes) (session_from (plain_connection c conf) true (suc left) bytes)
unfolding course_from session_from turn_of
walk_gives c confs conf number [] left last bytes there plainly = by (head_begun bytes) refl
  where
    by : (begun : Bool) → head_begun bytes ≡ begun
        → Gives (if begun then stands under_way else stands still_open) (session_from (plain_connection c conf) true (suc left) bytes)
    by true is session found = absurd (cc found)
    by false is session found =
        let now : record { written = []; closed = false } ≡ session = cc found in
        sym now ∙ idle_session c conf left bytes (session_from (plain_connection c conf) true left) (next_unit bytes true conf.max_body) is (unbegun_idle bytes conf.max_body is)
walk_gives c confs conf number (r ∷ rs) left last bytes there plainly =
    at_low (λ n bytes. walk_gives c confs conf number rs n r.conf bytes there plainly.2) (nat_le last r.conf)
  where
    follow : ((n : ℕ) (bytes : List ℕ) → Gives (course_from c confs true rs (suc n) r.conf false bytes) (session_from (plain_connection c conf) true (suc n) bytes)) → Follow left (course_from c confs true rs (suc left - 1) r.conf false) (session_from (plain_connection c conf) true left)
    follow next more bytes = at_left left more
      where
        at_left : (n : ℕ) → (n == 0) ≡ false → Gives (course_from c confs true rs (suc n - 1) r.conf false bytes) (session_from (plain_connection c conf) true n bytes)
        at_left zero is = absurd (cc (sym ((Decides-eqb 0 0).1 refl) ∙ is))
        at_left (suc n) is =
            let e : suc (suc n) - 1 ≡ suc n = omega arith in
            subst (λ k. Gives (course_from c confs true rs k r.conf false bytes) (session_from (plain_connection c conf) true (suc n) bytes)) (sym e)
            (next n bytes)

    at_begun : ((n : ℕ) (bytes : List ℕ) → Gives (course_from c confs true rs (suc n) r.conf false bytes) (session_from (plain_connection c conf) true (suc n) bytes)) → (begun : Bool) → head_begun bytes ≡ begun
        → Gives (if begun then unit_course c conf (suc left) false bytes r rs (course_from c confs true rs (suc left - 1) r.conf false) (next_unit bytes true conf.max_body) else unbegun r rs)
        (session_from (plain_connection c conf) true (suc left) bytes)
    at_begun next true is =
        let unit = next_unit bytes true conf.max_body in
        subst (λ due. Gives (behind (continue_bytes due) [] (turn_course c conf (suc left) bytes rs (course_from c confs true rs (suc left - 1) r.conf false) (kind_turn c conf r.stream r.kind unit.found))) (session_from (plain_connection c conf) true (suc left) bytes))
        (sym (and_true unit.continue_due))
        (gives_behind (continue_bytes unit.continue_due) []
        (turn_course c conf (suc left) bytes rs (course_from c confs true rs (suc left - 1) r.conf false) (kind_turn c conf r.stream r.kind unit.found))
        (found_session (plain_connection c conf) left bytes (session_from (plain_connection c conf) true left) unit.found)
        (kind_gives c conf bytes rs left (course_from c confs true rs (suc left - 1) r.conf false) (session_from (plain_connection c conf) true left)
        r.stream r.kind unit.found plainly.1 is (follow next)))
    at_begun next false is =
        gives_nothing (unbegun r rs) (session_from (plain_connection c conf) true (suc left) bytes)
        (ap (λ b. option_and_then in_course (if b then closed_course rs else None)) (plain_between r.kind plainly.1))

    at_low : ((n : ℕ) (bytes : List ℕ) → Gives (course_from c confs true rs (suc n) r.conf false bytes) (session_from (plain_connection c conf) true (suc n) bytes)) → (low : Bool)
        → Gives (if low then receipt_course c (slice_get confs r.conf) true (suc left) false bytes r rs (course_from c confs true rs (suc left - 1) r.conf false) else None)
        (session_from (plain_connection c conf) true (suc left) bytes)
    at_low next true =
        subst (λ o. Gives (receipt_course c o true (suc left) false bytes r rs (course_from c confs true rs (suc left - 1) r.conf false)) (session_from (plain_connection c conf) true (suc left) bytes))
        (sym (ap (slice_get confs) plainly.0 ∙ there)) (at_begun next (head_begun bytes) refl)
    at_low next false = λ session is. absurd (cc is)

pub session_plain : (c : Connection) (confs : List Configuration) (conf : Configuration) (number : ℕ) (receipts : List Receipt) (bytes : List ℕ) (session : Session)
    → slice_get confs number ≡ Some conf → ArePlain number receipts → session_of c confs receipts bytes true ≡ Some session
    → session ≡ plain_session_of (plain_connection c conf) true bytes
session_plain c confs conf number receipts bytes session there plainly is =
    walk_gives c confs conf number receipts 999 0 bytes there plainly session is
