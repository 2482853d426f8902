-- The session one unit at a time.
use Rattle.std.proofs.Common.{ℕ, ◌≡◌, ◌≢◌, ◌||◌, ◌==◌, refl, sym, ap, ◌∙◌, subst, List, [], ◌++◌, drop, Bool, true, false, zero, suc, append_assoc, append-nil}
use Rattle.std.proofs.lemmas.List.{drop-append-le}
use Rattle.unit_types.specs.declared.message.Request.{Request}
use Rattle.http_front.specs.Message.{Message, request_of, is_last_request}
use Rattle.http_front.specs.NextUnit.{Found, request, bad, cut, finished, wait, NextUnit, next_unit}
use Rattle.http_front.specs.Session.{Connection, Session, answered, found_session, unit_session, session_from}
use Rattle.http_front.specs.Written.{continue_bytes}
use Rattle.http_front.proofs.ReaderLemmas.{request_within}
use Rattle.http_front.proofs.StayLemmas.{found_stays}
use Rattle.http_front.proofs.UnitLemmas.{due_stays, due_begun}

-- the session of some bytes is that of the unit at their front
pub session-next : (c : Connection) (left : ℕ) (ended : Bool) (bytes : List ℕ)
    → session_from c ended (suc left) bytes ≡ unit_session c left bytes (session_from c ended left) (next_unit bytes ended c.limit)
unfolding session_from
session-next c left ended bytes = refl

-- ---- bytes that go on

-- the first bytes are a front of the second
abbrev pub Begins : List ℕ → List ℕ → Type 0
Begins front whole = (rest : List ℕ) × (whole ≡ front ++ rest)

begins_same : (bytes : List ℕ) → Begins bytes bytes
begins_same bytes = ([], sym (append-nil bytes))

begins_behind : (bytes front whole : List ℕ) → Begins front whole → Begins (bytes ++ front) (bytes ++ whole)
begins_behind bytes front whole is = (is.0, ap (λ ys. bytes ++ ys) is.1 ∙ sym (append_assoc bytes front is.0))

answered_begins : (c : Connection) (r : Request) (close : Bool) (front whole : Session) → Begins front.written whole.written
    → Begins (answered c r close front).written (answered c r close whole).written
answered_begins c r true front whole is = begins_same (c.answer r true)
answered_begins c r false front whole is = begins_behind (c.answer r false) front.written whole.written is

found_begins : (c : Connection) (left : ℕ) (bytes all : List ℕ) (front whole : List ℕ → Session) (f : Found)
    → ((m : Message) (used : ℕ) → f ≡ request m used → Begins (front (drop used bytes)).written (whole (drop used all)).written)
    → Begins (found_session c left bytes front f).written (found_session c left all whole f).written
found_begins c left bytes all front whole (request m used) goes =
    let r = request_of c.from c.to m in
    answered_begins c r (is_last_request r || left == 0) (front (drop used bytes)) (whole (drop used all)) (goes m used refl)
found_begins c left bytes all front whole (bad status) goes = begins_same _
found_begins c left bytes all front whole cut goes = begins_same _
found_begins c left bytes all front whole finished goes = begins_same _
found_begins c left bytes all front whole wait goes = begins_same _

unit_begins : (c : Connection) (left : ℕ) (ended : Bool) (bytes more : List ℕ) (front whole : List ℕ → Session)
    → ((rest : List ℕ) → Begins (front rest).written (whole (rest ++ more)).written)
    → Begins (unit_session c left bytes front (next_unit bytes false c.limit)).written
    (unit_session c left (bytes ++ more) whole (next_unit (bytes ++ more) ended c.limit)).written
unit_begins c left ended bytes more front whole goes = by_found (next_unit bytes false c.limit).found refl
  where
    unit : NextUnit
    unit = next_unit bytes false c.limit

    over : NextUnit
    over = next_unit (bytes ++ more) ended c.limit

    stays : unit.found ≢ wait → Begins (unit_session c left bytes front unit).written (unit_session c left (bytes ++ more) whole over).written
    stays told =
        subst (λ (v : NextUnit). Begins (unit_session c left bytes front unit).written (unit_session c left (bytes ++ more) whole v).written)
        (sym (found_stays bytes more ended c.limit told))
        (begins_behind (continue_bytes unit.continue_due) _ _ (found_begins c left bytes (bytes ++ more) front whole unit.found
        (λ m used is.
        let within = request_within bytes false c.limit m used is in
        subst (λ (ys : List ℕ). Begins (front (drop used bytes)).written (whole ys).written) (sym (drop-append-le used bytes more within.1)) (goes (drop used bytes)))))

    waits : (due : Bool) → unit.continue_due ≡ due → unit.found ≡ wait
        → Begins (unit_session c left bytes front unit).written (unit_session c left (bytes ++ more) whole over).written
    waits true due is =
        let rest = (found_session c left (bytes ++ more) whole over.found).written in
        let same : over.continue_due ≡ true = due_stays bytes more ended c.limit (due_begun bytes false c.limit due) ∙ due in (
          rest,
          ap (λ t. continue_bytes t ++ rest) same
              ∙ ap (λ ys. ys ++ rest) (sym (append-nil (continue_bytes true)))
              ∙ (λ i. (continue_bytes (sym due i) ++ (found_session c left bytes front (sym is i)).written) ++ rest),
        )
    waits false due is =
        let rest = (unit_session c left (bytes ++ more) whole over).written in
        (rest, λ i. (continue_bytes (sym due i) ++ (found_session c left bytes front (sym is i)).written) ++ rest)

    by_found : (f : Found) → unit.found ≡ f → Begins (unit_session c left bytes front unit).written (unit_session c left (bytes ++ more) whole over).written
    by_found (request m used) is = stays (λ e. cc (sym is ∙ e))
    by_found (bad status) is = stays (λ e. cc (sym is ∙ e))
    by_found cut is = stays (λ e. cc (sym is ∙ e))
    by_found finished is = stays (λ e. cc (sym is ∙ e))
    by_found wait is = waits unit.continue_due refl is

pub session_begins : (c : Connection) (left : ℕ) (ended : Bool) (bytes more : List ℕ)
    → Begins (session_from c false left bytes).written (session_from c ended left (bytes ++ more)).written
unfolding session_from
session_begins c zero ended bytes more = begins_same []
session_begins c (suc left) ended bytes more =
    unit_begins c left ended bytes more (session_from c false left) (session_from c ended left) (λ rest. session_begins c left ended rest more)
