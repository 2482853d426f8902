-- The receipts of an input that ended, under one configuration: they are plain, and the connection has a session with them.
use Rattle.std.proofs.Common.{ℕ, zero, suc, ◌≡◌, ◌≢◌, ◌<◌, ◌≤◌, ◌-◌, arith, refl, sym, ap, ◌∙◌, subst, List, [], ◌∷◌, ◌++◌, drop, Bool, true, false, not, ◌&&◌, ◌==◌, nat_le, if◌then◌else◌, Option, Some, None, option_and_then, slice_get}
use Rattle.std.proofs.lemmas.Bool.{le-leb}
use Rattle.std.proofs.lemmas.Bool.Decides.{Decides-eqb}
use Rattle.unit_types.specs.declared.message.Request.{Request}
use Rattle.conf_validate.specs.Configuration.{Configuration}
use Rattle.route_match.specs.Target.{target_of}
use Rattle.http_front.specs.Front.{head_begun}
use Rattle.http_front.specs.Message.{Message, request_of}
use Rattle.http_front.specs.NextUnit.{Found, request, bad, cut, finished, wait, next_unit}
use Rattle.http_front.specs.Session.{Session, plain_session_of}
use Rattle.http_front.specs.Written.{continue_bytes, error_reply, http_bytes}
use Rattle.conn_machine.specs.declared.receipt.Kind.TheVariants.{App, Cut, Own}
use Rattle.conn_machine.specs.declared.receipt.Receipt.{Receipt}
use Rattle.conn_machine.specs.Answers.{Connection, closes, is_to_head, reply_line, reply_to}
use Rattle.conn_machine.specs.Asking.{is_app}
use Rattle.conn_machine.specs.Laws.{ArePlain, found_receipts, plain_connection, plain_receipts_from, plain_receipts_of, receipt_to}
use Rattle.conn_machine.specs.Sessions.{Course, Mark, still_open, under_way, closed, behind, closed_course, turn_course, course_from, session_in, session_of}
use Rattle.conn_machine.specs.Turns.{Turn, replies, ends, receipt_of, turn_of}
use Rattle.conn_machine.proofs.CourseLemmas.{course_there, course_unbegun}
use Rattle.conn_machine.proofs.NamedTurns.{app_is, own_is, refusal_is, cut_is}
use Rattle.conn_machine.proofs.PlainLemmas.{in_course, more_left, same_close, session_plain}

-- ---- a course that is a session

abbrev HasSession : Option Course → Type 0
HasSession o = (session : Session) × (option_and_then in_course o ≡ Some session)

has_mark : (text written : List ℕ) (mark : Mark) → (session : Session) × (session_in written mark ≡ Some session)
    → (session : Session) × (session_in (text ++ written) mark ≡ Some session)
has_mark text written still_open has = (record { written = text ++ written; closed = false }, refl)
has_mark text written under_way has = absurd (cc has.1)
has_mark text written closed has = (record { written = text ++ written; closed = true }, refl)

has_behind : (text lines : List ℕ) (o : Option Course) → HasSession o → HasSession (behind text lines o)
has_behind text lines None has = absurd (cc has.1)
has_behind text lines (Some course) has = has_mark text course.written course.mark has

has_closed : HasSession (closed_course [])
has_closed = (record { written = []; closed = true }, refl)

-- behind the last answer there is no receipt, and behind another one those of the rest
has_rest : (close : Bool) (receipts : List Receipt) (rest : List Receipt → Option Course) → (close ≡ false → HasSession (rest receipts))
    → HasSession (if close then closed_course (if close then [] else receipts) else rest (if close then [] else receipts))
has_rest true receipts rest has = has_closed
has_rest false receipts rest has = has refl

-- ---- the walk

module _ (c : Connection) (confs : List Configuration) (conf : Configuration) (number stream : ℕ) (there : slice_get confs number ≡ Some conf) where
  -- what follows a receipt of the configuration
  abbrev rest_of : ℕ → List Receipt → List ℕ → Option Course
  rest_of left rs bytes = course_from c confs true rs (left - 1) number false bytes

  has_turn : (r : Receipt) (rs : List Receipt) (left last : ℕ) (bytes : List ℕ) (turn : Turn) → r.conf ≡ number → last ≤ number → head_begun bytes ≡ true
      → turn_of c conf r (next_unit bytes true conf.max_body).found ≡ turn
      → HasSession (turn_course c conf left bytes rs (rest_of left rs) turn)
      → HasSession (course_from c confs true (r ∷ rs) left last false bytes)
  has_turn r rs left last bytes turn same low begun turns has =
      let unit = next_unit bytes true conf.max_body in
      let due = continue_bytes (unit.continue_due && not false) in
      let reads : course_from c confs true (r ∷ rs) left last false bytes ≡ behind due [] (turn_course c conf left bytes rs (rest_of left rs) turn) =
      course_there c confs conf true r rs left last false bytes (ap (nat_le last) same ∙ le-leb last number low) (ap (slice_get confs) same ∙ there) begun
      ∙ ap (λ n. behind due [] (turn_course c conf left bytes rs (course_from c confs true rs (left - 1) n false) (turn_of c conf r unit.found))) same
      ∙ ap (λ t. behind due [] (turn_course c conf left bytes rs (rest_of left rs) t)) turns in
      subst HasSession (sym reads) (has_behind due [] (turn_course c conf left bytes rs (rest_of left rs) turn) has)

  module _ (drawn : 0 < stream) where
    -- the receipt of a request goes with it
    request_turn : (m : Message) (used : ℕ)
        → ((receipt_to c conf number stream (request_of c.from c.to m)).conf ≡ number)
        × (turn_of c conf (receipt_to c conf number stream (request_of c.from c.to m)) (request m used)
        ≡ replies (Some (request_of c.from c.to m)) (reply_to c conf (request_of c.from c.to m)) used)
    request_turn m used = by (is_app (target_of conf c.listener q)) refl
      where
        q : Request
        q = request_of c.from c.to m

        by : (asks : Bool) → is_app (target_of conf c.listener q) ≡ asks
            → ((if asks then receipt_of number stream App else receipt_of number 0 Own).conf ≡ number)
            × (turn_of c conf (if asks then receipt_of number stream App else receipt_of number 0 Own) (request m used)
            ≡ replies (Some q) (reply_to c conf q) used)
        by true asks = (refl, app_is c conf number stream m used asks drawn)
        by false asks = (refl, own_is c conf number 0 m used asks)

    module _ (tells : (bytes : List ℕ) (limit : ℕ) → (next_unit bytes true limit).found ≢ wait)
        (unfinished : (bytes : List ℕ) (ended : Bool) (limit : ℕ) → head_begun bytes ≡ true → (next_unit bytes ended limit).found ≢ finished) where
      -- the receipts of the rest give a session, where more requests may come
      abbrev Follows : ℕ → Type 0
      Follows left =
          (left == 0) ≡ false → (bytes : List ℕ) → HasSession (course_from c confs true (plain_receipts_from c conf number stream left bytes) left number false bytes)

      has_found : (left last : ℕ) (bytes : List ℕ) → Follows left → last ≤ number → head_begun bytes ≡ true
          → (found : Found) → (next_unit bytes true conf.max_body).found ≡ found
          → HasSession (course_from c confs true (found_receipts c conf number stream (suc left) bytes (plain_receipts_from c conf number stream left) found) (suc left) last false bytes)
      has_found left last bytes next low begun (request m used) is =
          let q = request_of c.from c.to m in
          let r = receipt_to c conf number stream q in
          let reply = reply_to c conf q in
          let more = plain_receipts_from c conf number stream left (drop used bytes) in
          let rs = if closes (Some q) (suc left) then [] else more in
          let rest : List Receipt → Option Course = λ receipts. rest_of (suc left) receipts (drop used bytes) in
          let goes_on : closes (Some q) (suc left) ≡ false → HasSession (rest more) = λ goes.
          let e : suc left - 1 ≡ left = omega arith in
          subst (λ n. HasSession (course_from c confs true more n number false (drop used bytes))) (sym e)
          (next (more_left q left (sym (same_close q left) ∙ goes)) (drop used bytes)) in
          has_turn r rs (suc left) last bytes (replies (Some q) reply used) (request_turn m used).0 low begun
          (ap (turn_of c conf r) is ∙ (request_turn m used).1)
          (has_behind (http_bytes reply (is_to_head (Some q)) (closes (Some q) (suc left))) (reply_line conf c.from (Some q) reply)
          (if closes (Some q) (suc left) then closed_course rs else rest rs)
          (has_rest (closes (Some q) (suc left)) more rest goes_on))
      has_found left last bytes next low begun (bad status) is =
          let r = receipt_of number 0 Own in
          has_turn r [] (suc left) last bytes (replies None (error_reply status) 0) refl low begun
          (ap (turn_of c conf r) is ∙ refusal_is c conf number status)
          (has_behind (http_bytes (error_reply status) false true) (reply_line conf c.from None (error_reply status)) (closed_course []) has_closed)
      has_found left last bytes next low begun cut is =
          let r = receipt_of number 0 Cut in
          has_turn r [] (suc left) last bytes ends refl low begun (ap (turn_of c conf r) is ∙ cut_is c conf number) has_closed
      has_found left last bytes next low begun finished is = absurd (unfinished bytes true conf.max_body begun is)
      has_found left last bytes next low begun wait is = absurd (tells bytes conf.max_body is)

      has_front : (left last : ℕ) (bytes : List ℕ) → Follows left → last ≤ number
          → HasSession (course_from c confs true (plain_receipts_from c conf number stream (suc left) bytes) (suc left) last false bytes)
      unfolding plain_receipts_from
      has_front left last bytes next low = by (head_begun bytes) refl
        where
          receipts : Found → List Receipt
          receipts = found_receipts c conf number stream (suc left) bytes (plain_receipts_from c conf number stream left)

          by : (begun : Bool) → head_begun bytes ≡ begun
              → HasSession (course_from c confs true (if begun then receipts (next_unit bytes true conf.max_body).found else []) (suc left) last false bytes)
          by true begun = has_found left last bytes next low begun (next_unit bytes true conf.max_body).found refl
          by false begun = (record { written = []; closed = false }, ap (option_and_then in_course) (course_unbegun c confs true (suc left) last false bytes begun))

      walk_has : (left last : ℕ) (bytes : List ℕ) → last ≤ number
          → HasSession (course_from c confs true (plain_receipts_from c conf number stream (suc left) bytes) (suc left) last false bytes)
      walk_has zero last bytes low = has_front zero last bytes (λ more. absurd (cc (sym ((Decides-eqb 0 0).1 refl) ∙ more))) low
      walk_has (suc left) last bytes low =
          let same : number ≤ number = omega arith in
          has_front (suc left) last bytes (λ more rest. walk_has left number rest same) low

-- ---- they are plain

request_plain : (c : Connection) (conf : Configuration) (number stream : ℕ) (q : Request) (receipts : List Receipt) → ArePlain number receipts
    → ArePlain number (receipt_to c conf number stream q ∷ receipts)
request_plain c conf number stream q receipts are = by (is_app (target_of conf c.listener q))
  where
    by : (asks : Bool) → ArePlain number ((if asks then receipt_of number stream App else receipt_of number 0 Own) ∷ receipts)
    by true = (refl, refl, are)
    by false = (refl, refl, are)

found_plain : (c : Connection) (conf : Configuration) (number stream left : ℕ) (bytes : List ℕ) (rest : List ℕ → List Receipt)
    → ((bytes : List ℕ) → ArePlain number (rest bytes)) → (found : Found) → ArePlain number (found_receipts c conf number stream left bytes rest found)
found_plain c conf number stream left bytes rest are (request m used) =
    let q = request_of c.from c.to m in
    request_plain c conf number stream q (if closes (Some q) left then [] else rest (drop used bytes)) (by (closes (Some q) left))
  where
    by : (close : Bool) → ArePlain number (if close then [] else rest (drop used bytes))
    by true = tt
    by false = are (drop used bytes)
found_plain c conf number stream left bytes rest are (bad status) = (refl, refl, tt)
found_plain c conf number stream left bytes rest are cut = (refl, refl, tt)
found_plain c conf number stream left bytes rest are finished = tt
found_plain c conf number stream left bytes rest are wait = tt

receipts_plain : (c : Connection) (conf : Configuration) (number stream left : ℕ) (bytes : List ℕ) → ArePlain number (plain_receipts_from c conf number stream left bytes)
unfolding plain_receipts_from
receipts_plain c conf number stream zero bytes = tt
receipts_plain c conf number stream (suc left) bytes =
    by (found_plain c conf number stream (suc left) bytes (plain_receipts_from c conf number stream left) (receipts_plain c conf number stream left)
    (next_unit bytes true conf.max_body).found) (head_begun bytes)
  where
    receipts : List Receipt
    receipts = found_receipts c conf number stream (suc left) bytes (plain_receipts_from c conf number stream left) (next_unit bytes true conf.max_body).found

    by : ArePlain number receipts → (begun : Bool) → ArePlain number (if begun then receipts else [])
    by are true = are
    by are false = tt

-- ---- the law

pub plain_receipts : ((bytes : List ℕ) (limit : ℕ) → (next_unit bytes true limit).found ≢ wait)
    → ((bytes : List ℕ) (ended : Bool) (limit : ℕ) → head_begun bytes ≡ true → (next_unit bytes ended limit).found ≢ finished)
    → (c : Connection) (confs : List Configuration) (conf : Configuration) (number stream : ℕ) (bytes : List ℕ)
    → slice_get confs number ≡ Some conf → 0 < stream
    → ArePlain number (plain_receipts_of c conf number stream bytes)
    × (session_of c confs (plain_receipts_of c conf number stream bytes) bytes true ≡ Some (plain_session_of (plain_connection c conf) true bytes))
plain_receipts tells unfinished c confs conf number stream bytes there drawn =
    let receipts = plain_receipts_of c conf number stream bytes in
    let are : ArePlain number receipts = receipts_plain c conf number stream 1000 bytes in
    let low : 0 ≤ number = omega arith in
    let has : (session : Session) × (session_of c confs receipts bytes true ≡ Some session) =
    walk_has c confs conf number stream there drawn tells unfinished 999 0 bytes low in
    (are, has.1 ∙ ap Some (session_plain c confs conf number receipts bytes has.0 there are has.1))
