-- Each step of a connection keeps that its state follows what came and went.
use Rattle.std.proofs.Common.{ℕ, ◌≡◌, ◌≢◌, ◌-◌, ◌≤◌, refl, sym, ap, ◌∙◌, subst, List, [], ◌∷◌, ◌++◌, drop, Bool, true, false, not, ◌&&◌, ◌||◌, nat_le, if◌then◌else◌, Option, Some, None, slice_get, append_assoc, append-nil}
use Rattle.std.specs.Option.{is_some}
use Rattle.std.proofs.lemmas.Bool.{le-leb}
use Rattle.std.proofs.lemmas.List.{drop-append-le}
use Rattle.unit_types.specs.declared.message.Reply.{Reply}
use Rattle.unit_types.specs.declared.message.Request.{Request}
use Rattle.conf_validate.specs.Configuration.{Configuration}
use Rattle.http_front.specs.Front.{head_begun}
use Rattle.http_front.specs.NextUnit.{next_unit}
use Rattle.http_front.specs.Session.{request_limit}
use Rattle.http_front.specs.Written.{continue_bytes, http_bytes}
use Rattle.conn_machine.specs.declared.receipt.Receipt.{Receipt}
use Rattle.conn_machine.specs.Answers.{Connection, closes, is_to_head, reply_line}
use Rattle.conn_machine.specs.Sessions.{Course, behind, closed_course, stands, under_way, turn_course, course_from, course_of}
use Rattle.conn_machine.specs.States.{Numbered, State, unit_under, Agrees, Told, GoesOn, Fits, course_left, is_due, Waits, Follows}
use Rattle.conn_machine.specs.Steps.{nothing, begin, fed, at_end, taken_up, replied, closed_by, given_up, shown}
use Rattle.conn_machine.specs.Turns.{Turn, replies, ends, unfit, turn_of, ends_between}
use Rattle.conn_machine.proofs.CourseLemmas.{behind_nothing, behind_written, course_there, course_between, course_begun, due_once}
use Rattle.conn_machine.proofs.TurnLemmas.{turn_goes, turn_within}
use Rattle.conn_machine.proofs.UnitLaws.{UnitLaws, due_goes}

-- ---- where it begins

pub follows_begin : (c : Connection) → Follows c nothing begin
follows_begin c = record {
  law = λ confs receipts more ended agrees fits goes. behind_nothing (course_from c confs ended receipts request_limit 0 false more);
  begun = λ bound is. absurd (cc is);
  idle = λ bound is. absurd (cc is);
  there = λ bound confs is. absurd (cc is);
  rises = λ bound is. absurd (cc is);
  under = λ bound confs more ended is. absurd (cc is);
  fresh = λ is. refl;
}

-- ---- more bytes, and their end

or_true : (a b : Bool) → a ≡ false → b ≡ false → (a || b) ≢ true
or_true true b first second is = cc
or_true false true first second is = cc
or_true false false first second is = cc

module _ (laws : UnitLaws) (c : Connection) (t : Told) (s : State) (is : Follows c t s) where
  with_piece : (piece more : List ℕ) (ended : Bool) → s.ended ≡ false → s.given_up ≡ false → GoesOn (fed s piece) more ended → GoesOn s (piece ++ more) ended
  with_piece piece more ended goes_on stays_up goes = record {
    none = λ over. absurd (or_true s.ended s.given_up goes_on stays_up over);
    same = goes.same;
  }

  pub follows_fed : (piece : List ℕ) → s.ended ≡ false → s.given_up ≡ false
      → Follows c (record t { bytes = t.bytes ++ piece }) (fed s piece)
  follows_fed piece goes_on stays_up = record {
    law = λ confs receipts more ended agrees fits goes.
        let all = with_piece piece more ended goes_on stays_up goes in
        ap (λ bytes. course_of c confs (t.receipts ++ receipts) bytes ended) (append_assoc t.bytes piece more)
        ∙ is.law confs receipts (piece ++ more) ended agrees fits all
        ∙ ap (λ bytes. behind (t.written ++ s.out) s.lines (if s.closed then closed_course receipts else course_from c confs ended receipts s.left s.last s.told bytes))
        (sym (append_assoc s.unused piece more));
    begun = λ bound way. laws.begun s.unused piece (is.begun bound way);
    idle = λ bound way.
        ap (λ due. due && not s.told)
        (due_goes laws s.unused piece s.ended s.ended bound.1.max_body (λ over. absurd (cc (sym over ∙ goes_on))) (λ over. over) (is.begun bound way))
        ∙ is.idle bound way;
    there = is.there;
    rises = is.rises;
    under = λ bound confs more ended way agrees goes.
        subst (λ (bytes : List ℕ). Waits s.lines (course_of c confs t.receipts bytes ended)) (sym (append_assoc t.bytes piece more))
        (is.under bound confs (piece ++ more) ended way agrees (with_piece piece more ended goes_on stays_up goes));
    fresh = is.fresh;
  }

  still : (more : List ℕ) (ended : Bool) → GoesOn (at_end s) more ended → GoesOn s more ended
  still more ended goes = record { none = λ over. goes.none refl; same = λ over. goes.same refl }

  due_at_end : (bound : Numbered) → head_begun s.unused ≡ true → is_due bound.1 (at_end s) ≡ is_due bound.1 s
  due_at_end bound begun =
      ap (λ bytes. (next_unit bytes true bound.1.max_body).continue_due && not s.told) (sym (append-nil s.unused))
      ∙ ap (λ due. due && not s.told) (due_goes laws s.unused [] s.ended true bound.1.max_body (λ over. refl) (λ over. refl) begun)

  pub follows_end : Follows c t (at_end s)
  follows_end = record {
    law = λ confs receipts more ended agrees fits goes. is.law confs receipts more ended agrees fits (still more ended goes);
    begun = is.begun;
    idle = λ bound way. due_at_end bound (is.begun bound way) ∙ is.idle bound way;
    there = is.there;
    rises = is.rises;
    under = λ bound confs more ended way agrees goes. is.under bound confs more ended way agrees (still more ended goes);
    fresh = is.fresh;
  }

  up : (more : List ℕ) (ended : Bool) → GoesOn (given_up s) more ended → GoesOn s more ended
  up more ended goes = record { none = λ over. goes.none (or_up s.ended); same = goes.same }
    where
      or_up : (a : Bool) → (a || true) ≡ true
      or_up true = refl
      or_up false = refl

  pub follows_given_up : Follows c t (given_up s)
  follows_given_up = record {
    law = λ confs receipts more ended agrees fits goes. is.law confs receipts more ended agrees fits (up more ended goes);
    begun = is.begun;
    idle = is.idle;
    there = is.there;
    rises = is.rises;
    under = λ bound confs more ended way agrees goes. is.under bound confs more ended way agrees (up more ended goes);
    fresh = is.fresh;
  }

  pub follows_shown : (front rest : List ℕ) → s.out ≡ front ++ rest
      → Follows c (record t { written = t.written ++ front }) (shown rest s)
  follows_shown front rest parts = record {
    law = λ confs receipts more ended agrees fits goes.
        is.law confs receipts more ended agrees fits (record { none = goes.none; same = goes.same })
        ∙ ap (λ written. behind written s.lines (course_left c confs s receipts more ended))
        (ap (λ out. t.written ++ out) parts ∙ sym (append_assoc t.written front rest));
    begun = is.begun;
    idle = is.idle;
    there = is.there;
    rises = is.rises;
    under = λ bound confs more ended way agrees goes.
        is.under bound confs more ended way agrees (record { none = goes.none; same = goes.same });
    fresh = is.fresh;
  }

-- ---- the head is complete

pub fits_none : (o : Option Numbered) (receipts : List Receipt) → o ≡ None → Fits o receipts
fits_none None receipts is = tt
fits_none (Some bound) receipts is = absurd (cc is)

fits_some : (o : Option Numbered) (bound : Numbered) (r : Receipt) (receipts : List Receipt) → o ≡ Some bound → r.conf ≡ bound.0 → Fits o (r ∷ receipts)
fits_some None bound r receipts is same = absurd (cc is)
fits_some (Some other) bound r receipts is same = let e : other ≡ bound = cc is in same ∙ ap (λ (b : Numbered). b.0) (sym e)

and_not : (b : Bool) → (b && not b) ≡ false
and_not true = refl
and_not false = refl

told_course : (laws : UnitLaws) (c : Connection) (confs : List Configuration) (bound : Numbered) (receipts : List Receipt)
    (left last : ℕ) (unused more : List ℕ) (was ended : Bool)
    → (was ≡ true → more ≡ []) → (was ≡ true → ended ≡ true)
    → head_begun unused ≡ true → slice_get confs bound.0 ≡ Some bound.1 → last ≤ bound.0 → Fits (Some bound) receipts
    → course_from c confs ended receipts left last false (unused ++ more)
    ≡ behind (continue_bytes (next_unit unused was bound.1.max_body).continue_due) []
    (course_from c confs ended receipts left last (next_unit unused was bound.1.max_body).continue_due (unused ++ more))
told_course laws c confs bound [] left last unused more was ended none over begun there low fits = absurd fits
told_course laws c confs bound (r ∷ rs) left last unused more was ended none over begun there low fits =
    let conf = bound.1 in
    let bytes = unused ++ more in
    let limit = conf.max_body in
    let d = (next_unit unused was limit).continue_due in
    let unit = next_unit bytes ended limit in
    let same : unit.continue_due ≡ d = due_goes laws unused more was ended limit none over begun in
    let rises : nat_le last r.conf ≡ true = ap (nat_le last) fits ∙ le-leb last bound.0 low in
    let is : slice_get confs r.conf ≡ Some conf = ap (slice_get confs) fits ∙ there in
    let all : head_begun bytes ≡ true = laws.begun unused more begun in
    let rest : List ℕ → Option Course = course_from c confs ended rs (left - 1) r.conf false in
    let turn = turn_course c conf left bytes rs rest (turn_of c conf r unit.found) in
    course_there c confs conf ended r rs left last false bytes rises is all
    ∙ ap (λ due. behind (continue_bytes (due && not false)) [] turn) same
    ∙ due_once d turn
    ∙ ap (λ due. behind (continue_bytes d) [] (behind (continue_bytes (due && not d)) [] turn)) (sym same)
    ∙ ap (behind (continue_bytes d) []) (sym (course_there c confs conf ended r rs left last d bytes rises is all))

due_fresh : (s : State) (conf : Configuration) → s.told ≡ false → is_due conf s ≡ (unit_under conf s).continue_due
due_fresh s conf fresh = by (unit_under conf s).continue_due
  where
    by : (d : Bool) → (d && not s.told) ≡ d
    by true = ap not fresh
    by false = refl

module _ (laws : UnitLaws) (c : Connection) (t : Told) (s : State) (bound : Numbered) (is : Follows c t s) (goes_on : s.closed ≡ false) where
  pub follows_head : s.bound ≡ None → head_begun s.unused ≡ true → s.last ≤ bound.0
      → Follows c (record t { given = (bound.0, Some bound.1) ∷ t.given }) (taken_up bound s)
  follows_head free begun low = record {
    law = λ confs receipts more ended agrees fits goes.
        let due = is_due bound.1 s in
        let unit_due = (unit_under bound.1 s).continue_due in
        let same : due ≡ unit_due = due_fresh s bound.1 (is.fresh free) in
        let over : s.ended ≡ true → more ≡ [] = λ ended. goes.none (ap (λ b. b || s.given_up) ended) in
        let left : course_left c confs s receipts more ended ≡ behind (continue_bytes due) [] (course_left c confs (taken_up bound s) receipts more ended) =
        ap (λ b. if b then closed_course receipts else course_from c confs ended receipts s.left s.last s.told (s.unused ++ more)) goes_on
        ∙ ap (λ told. course_from c confs ended receipts s.left s.last told (s.unused ++ more)) (is.fresh free)
        ∙ told_course laws c confs bound receipts s.left s.last s.unused more s.ended ended over goes.same begun agrees.0 low fits
        ∙ ap (λ d. behind (continue_bytes d) [] (course_from c confs ended receipts s.left s.last d (s.unused ++ more))) (sym same)
        ∙ ap (λ b. behind (continue_bytes due) [] (if b then closed_course receipts else course_from c confs ended receipts s.left s.last due (s.unused ++ more))) (sym goes_on) in
        is.law confs receipts more ended agrees.1 (fits_none s.bound receipts free) (record { none = goes.none; same = goes.same })
        ∙ ap (behind (t.written ++ s.out) s.lines) left
        ∙ behind_written t.written s.out (continue_bytes due) s.lines [] (course_left c confs (taken_up bound s) receipts more ended)
        ∙ ap (λ lines. behind (t.written ++ (s.out ++ continue_bytes due)) lines (course_left c confs (taken_up bound s) receipts more ended)) (append-nil s.lines);
    begun = λ other way. begun;
    idle = λ other way.
        let e : bound ≡ other = cc way in
        let due = is_due bound.1 s in
        ap (λ (b : Numbered). (unit_under b.1 s).continue_due && not due) (sym e)
        ∙ ap (λ d. d && not due) (sym (due_fresh s bound.1 (is.fresh free))) ∙ and_not due;
    there = λ other confs way agrees. let e : bound ≡ other = cc way in subst (λ (b : Numbered). slice_get confs b.0 ≡ Some b.1) e agrees.0;
    rises = λ other way. let e : bound ≡ other = cc way in subst (λ (b : Numbered). s.last ≤ b.0) e low;
    under = λ other confs more ended way agrees goes.
        let left : course_left c confs s [] more ended ≡ stands under_way =
        ap (λ b. if b then closed_course [] else course_from c confs ended [] s.left s.last s.told (s.unused ++ more)) goes_on
        ∙ course_begun c confs ended s.left s.last s.told (s.unused ++ more) (laws.begun s.unused more begun) in (
          (t.written ++ s.out) ++ [],
          ap (λ receipts. course_of c confs receipts (t.bytes ++ more) ended) (sym (append-nil t.receipts))
              ∙ is.law confs [] more ended agrees.1 (fits_none s.bound [] free) (record { none = goes.none; same = goes.same })
              ∙ ap (behind (t.written ++ s.out) s.lines) left
              ∙ ap (λ lines. Some (record { written = (t.written ++ s.out) ++ []; lines = lines; mark = under_way })) (append-nil s.lines),
        );
    fresh = λ none. absurd (cc none);
  }

-- ---- the request under way ends

module _ (laws : UnitLaws) (c : Connection) (t : Told) (s : State) (bound : Numbered) (r : Receipt) (is : Follows c t s)
    (goes_on : s.closed ≡ false) (way : s.bound ≡ Some bound) (same : r.conf ≡ bound.0) where
  -- what is left, by the turn that the receipt has
  turn_left : (confs : List Configuration) (receipts : List Receipt) (more : List ℕ) (ended : Bool) (turn : Turn)
      → Agrees confs t.given → GoesOn s more ended
      → turn_of c bound.1 r (unit_under bound.1 s).found ≡ turn → turn ≢ unfit
      → course_left c confs s (r ∷ receipts) more ended
      ≡ turn_course c bound.1 s.left (s.unused ++ more) receipts (course_from c confs ended receipts (s.left - 1) r.conf false) turn
  turn_left confs receipts more ended turn agrees goes found fit =
      let conf = bound.1 in
      let limit = conf.max_body in
      let bytes = s.unused ++ more in
      let begun = is.begun bound way in
      let over : s.ended ≡ true → more ≡ [] = λ e. goes.none (ap (λ b. b || s.given_up) e) in
      let unit = next_unit bytes ended limit in
      let rest : List ℕ → Option Course = course_from c confs ended receipts (s.left - 1) r.conf false in
      let course = turn_course c conf s.left bytes receipts rest in
      let rises : nat_le s.last r.conf ≡ true = ap (nat_le s.last) same ∙ le-leb s.last bound.0 (is.rises bound way) in
      let there : slice_get confs r.conf ≡ Some conf = ap (slice_get confs) same ∙ is.there bound confs way agrees in
      let idle : (unit.continue_due && not s.told) ≡ false =
      ap (λ due. due && not s.told) (due_goes laws s.unused more s.ended ended limit over goes.same begun) ∙ is.idle bound way in
      ap (λ b. if b then closed_course (r ∷ receipts) else course_from c confs ended (r ∷ receipts) s.left s.last s.told bytes) goes_on
      ∙ course_there c confs conf ended r receipts s.left s.last s.told bytes rises there (laws.begun s.unused more begun)
      ∙ ap (λ due. behind (continue_bytes due) [] (course (turn_of c conf r unit.found))) idle
      ∙ sym (behind_nothing (course (turn_of c conf r unit.found)))
      ∙ ap course (turn_goes laws c conf r s.unused more s.ended ended limit turn over goes.same found fit)

  whole : (confs : List Configuration) (receipts : List Receipt) (more : List ℕ) (ended : Bool) → Agrees confs t.given → GoesOn s more ended
      → course_of c confs ((t.receipts ++ r ∷ []) ++ receipts) (t.bytes ++ more) ended
      ≡ behind (t.written ++ s.out) s.lines (course_left c confs s (r ∷ receipts) more ended)
  whole confs receipts more ended agrees goes =
      ap (λ all. course_of c confs all (t.bytes ++ more) ended) (append_assoc t.receipts (r ∷ []) receipts)
      ∙ is.law confs (r ∷ receipts) more ended agrees (fits_some s.bound bound r receipts way same) goes

  pub follows_reply : (request : Option Request) (reply : Reply) (used : ℕ)
      → turn_of c bound.1 r (unit_under bound.1 s).found ≡ replies request reply used
      → Follows c (record t { receipts = t.receipts ++ r ∷ [] }) (replied c bound request reply used s)
  follows_reply request reply used found =
      let close = closes request s.left in
      let text = http_bytes reply (is_to_head request) close in
      let line = reply_line bound.1 c.from request reply in
      let after = replied c bound request reply used s in
      let within = turn_within laws c bound.1 r s.unused s.ended bound.1.max_body request reply used found in
      record {
        law = λ confs receipts more ended agrees fits goes.
            let here : GoesOn s more ended = record { none = goes.none; same = goes.same } in
            let rest : drop used (s.unused ++ more) ≡ drop used s.unused ++ more = drop-append-le used s.unused more within in
            let walk : ℕ → List ℕ → Option Course = λ last bytes. course_from c confs ended receipts (s.left - 1) last false bytes in
            let left : (if close then closed_course receipts else walk r.conf (drop used (s.unused ++ more))) ≡ course_left c confs after receipts more ended =
            λ i. if close then closed_course receipts else walk (same i) (rest i) in
            whole confs receipts more ended agrees here
            ∙ ap (behind (t.written ++ s.out) s.lines) (turn_left confs receipts more ended (replies request reply used) agrees here found (λ e. cc))
            ∙ behind_written t.written s.out text s.lines line (if close then closed_course receipts else walk r.conf (drop used (s.unused ++ more)))
            ∙ ap (behind (t.written ++ (s.out ++ text)) (s.lines ++ line)) left;
        begun = λ other none. absurd (cc none);
        idle = λ other none. absurd (cc none);
        there = λ other confs none. absurd (cc none);
        rises = λ other none. absurd (cc none);
        under = λ other confs more ended none. absurd (cc none);
        fresh = λ none. refl;
      }

  pub follows_close : turn_of c bound.1 r (unit_under bound.1 s).found ≡ ends
      → Follows c (record t { receipts = t.receipts ++ r ∷ [] }) (closed_by bound.0 s)
  follows_close found = record {
    law = λ confs receipts more ended agrees fits goes.
        let here : GoesOn s more ended = record { none = goes.none; same = goes.same } in
        whole confs receipts more ended agrees here
        ∙ ap (behind (t.written ++ s.out) s.lines) (turn_left confs receipts more ended ends agrees here found (λ e. cc));
    begun = λ other none. absurd (cc none);
    idle = λ other none. absurd (cc none);
    there = λ other confs none. absurd (cc none);
    rises = λ other none. absurd (cc none);
    under = λ other confs more ended none. absurd (cc none);
    fresh = λ none. refl;
  }

-- ---- it ends between two requests

some_is : {A : Type 0} (o : Option A) → is_some o ≡ true → (x : A) × (o ≡ Some x)
some_is None is = absurd (cc is)
some_is (Some x) is = (x, refl)

pub follows_between : (c : Connection) (t : Told) (s : State) (r : Receipt) → Follows c t s
    → s.closed ≡ false → s.bound ≡ None → head_begun s.unused ≡ false → ends_between r.kind ≡ true → s.last ≤ r.conf
    → Follows c (record t { receipts = t.receipts ++ r ∷ []; given = (r.conf, None) ∷ t.given }) (given_up (closed_by r.conf s))
follows_between c t s r is goes_on free unbegun_is may low = record {
  law = λ confs receipts more ended agrees fits goes.
      let here : GoesOn s more ended = record { none = λ over. goes.none (or_up s.ended); same = goes.same } in
      let none : more ≡ [] = goes.none (or_up s.ended) in
      let there = some_is (slice_get confs r.conf) agrees.0 in
      let unbegun_all : head_begun (s.unused ++ more) ≡ false = ap head_begun (ap (λ m. s.unused ++ m) none ∙ append-nil s.unused) ∙ unbegun_is in
      let left : course_left c confs s (r ∷ receipts) more ended ≡ closed_course receipts =
      ap (λ b. if b then closed_course (r ∷ receipts) else course_from c confs ended (r ∷ receipts) s.left s.last s.told (s.unused ++ more)) goes_on
      ∙ course_between c confs there.0 ended r receipts s.left s.last s.told (s.unused ++ more) (le-leb s.last r.conf low) there.1 unbegun_all
      ∙ ap (λ b. if b then closed_course receipts else None) may in
      ap (λ all. course_of c confs all (t.bytes ++ more) ended) (append_assoc t.receipts (r ∷ []) receipts)
      ∙ is.law confs (r ∷ receipts) more ended agrees.1 (fits_none s.bound (r ∷ receipts) free) here
      ∙ ap (behind (t.written ++ s.out) s.lines) left;
  begun = λ other way. absurd (cc way);
  idle = λ other way. absurd (cc way);
  there = λ other confs way. absurd (cc way);
  rises = λ other way. absurd (cc way);
  under = λ other confs more ended way. absurd (cc way);
  fresh = λ way. refl;
}
  where
    or_up : (a : Bool) → (a || true) ≡ true
    or_up true = refl
    or_up false = refl
