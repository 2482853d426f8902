-- What was written and logged so far is the session of what came so far.
use Rattle.std.proofs.Common.{ℕ, ◌≡◌, ◌↔◌, refl, sym, ap, ◌∙◌, subst, List, [], ◌∷◌, ◌++◌, length, Bool, true, false, ◌||◌, nat_lt, if◌then◌else◌, Option, Some, None, option_map, option_and_then, append-nil}
use Rattle.std.specs.Option.{is_some}
use Rattle.conf_validate.specs.Configuration.{Configuration}
use Rattle.http_front.specs.Front.{head_begun}
use Rattle.http_front.specs.Session.{Session}
use Rattle.conn_machine.specs.declared.receipt.Kind.TheVariants.{Gone}
use Rattle.conn_machine.specs.declared.receipt.Need.{Need}
use Rattle.conn_machine.specs.declared.receipt.Need.TheVariants.{Read, Ask, Write, Close}
use Rattle.conn_machine.specs.declared.receipt.Receipt.{Receipt}
use Rattle.conn_machine.specs.Answers.{Connection}
use Rattle.conn_machine.specs.Sessions.{Course, Mark, still_open, under_way, closed, behind, stands, closed_course, course_from, course_of, session_in, session_of, log_lines_of, waits_in, is_under_way}
use Rattle.conn_machine.specs.States.{Numbered, State, unit_under, Agrees, Told, GoesOn, Fits, course_left, Follows, asks_by, IsSettled, counted, is_over, need_under, need_of}
use Rattle.conn_machine.specs.Steps.{closed_by}
use Rattle.conn_machine.specs.Turns.{turn_of}
use Rattle.conn_machine.proofs.CourseLemmas.{course_unbegun}
use Rattle.conn_machine.proofs.StepLemmas.{fits_none, follows_close}
use Rattle.conn_machine.proofs.UnitLaws.{UnitLaws}

-- nothing more comes now
now : (s : State) → GoesOn s [] s.ended
now s = record { none = λ over. refl; same = λ over. over }

-- how a connection stands where no request is under way
abbrev mark_at : Bool → Mark
mark_at true = closed
mark_at false = still_open

session_at : (written : List ℕ) (over : Bool) → session_in written (mark_at over) ≡ Some (record { written = written; closed = over })
session_at written true = refl
session_at written false = refl

module _ (c : Connection) (t : Told) (s : State) (confs : List Configuration) (is : Follows c t s) (agrees : Agrees confs t.given) where
  -- no request is under way
  course_now : s.bound ≡ None → (s.closed ≡ false → head_begun s.unused ≡ false)
      → course_of c confs t.receipts t.bytes s.ended ≡ Some (record { written = t.written ++ s.out; lines = s.lines; mark = mark_at s.closed })
  course_now free unbegun =
      ap (λ receipts. course_of c confs receipts t.bytes s.ended) (sym (append-nil t.receipts))
      ∙ ap (λ bytes. course_of c confs (t.receipts ++ []) bytes s.ended) (sym (append-nil t.bytes))
      ∙ is.law confs [] [] s.ended agrees (fits_none s.bound [] free) (now s)
      ∙ ap (behind (t.written ++ s.out) s.lines) (left s.closed refl)
      ∙ (λ i. Some (record { written = append-nil (t.written ++ s.out) i; lines = append-nil s.lines i; mark = mark_at s.closed }))
    where
      left : (over : Bool) → s.closed ≡ over → course_left c confs s [] [] s.ended ≡ stands (mark_at s.closed)
      left true over =
          ap (λ b. if b then closed_course [] else course_from c confs s.ended [] s.left s.last s.told (s.unused ++ [])) over
          ∙ ap (λ b. stands (mark_at b)) (sym over)
      left false over =
          ap (λ b. if b then closed_course [] else course_from c confs s.ended [] s.left s.last s.told (s.unused ++ [])) over
          ∙ ap (course_from c confs s.ended [] s.left s.last s.told) (append-nil s.unused)
          ∙ course_unbegun c confs s.ended s.left s.last s.told s.unused (unbegun over)
          ∙ ap (λ b. stands (mark_at b)) (sym over)

  -- the session of receipts that give this course
  session_with : (receipts : List Receipt) (lines : List ℕ) (over : Bool)
      → course_of c confs receipts t.bytes s.ended ≡ Some (record { written = t.written ++ s.out; lines = lines; mark = mark_at over })
      → session_of c confs receipts t.bytes s.ended ≡ Some (record { written = t.written ++ s.out; closed = over })
  session_with receipts lines over course =
      ap (option_and_then (λ (course : Course). session_in course.written course.mark)) course ∙ session_at (t.written ++ s.out) over

  pub lines_now : (settled : IsSettled c s) → log_lines_of c confs t.receipts t.bytes s.ended ≡ Some s.lines
  lines_now settled = by s.bound refl
    where
      by : (o : Option Numbered) → s.bound ≡ o → log_lines_of c confs t.receipts t.bytes s.ended ≡ Some s.lines
      by None free = ap (option_map (λ (course : Course). course.lines)) (course_now free (λ goes_on. settled.begun goes_on free))
      by (Some bound) way =
          ap (λ bytes. log_lines_of c confs t.receipts bytes s.ended) (sym (append-nil t.bytes))
          ∙ ap (option_map (λ (course : Course). course.lines)) (is.under bound confs [] s.ended way agrees (now s)).1

  pub way_now : (settled : IsSettled c s) → is_under_way c confs t.receipts t.bytes s.ended ≡ is_some s.bound
  way_now settled = by s.bound refl
    where
      at_mark : (over : Bool) → waits_in (stands (mark_at over)) ≡ false
      at_mark true = refl
      at_mark false = refl

      by : (o : Option Numbered) → s.bound ≡ o → is_under_way c confs t.receipts t.bytes s.ended ≡ is_some s.bound
      by None free =
          ap waits_in (course_now free (λ goes_on. settled.begun goes_on free)) ∙ at_mark s.closed ∙ ap is_some (sym free)
      by (Some bound) way =
          ap (λ bytes. is_under_way c confs t.receipts bytes s.ended) (sym (append-nil t.bytes))
          ∙ ap waits_in (is.under bound confs [] s.ended way agrees (now s)).1 ∙ ap is_some (sym way)

-- where a request is under way, its connection is open
pub still : (c : Connection) (s : State) (bound : Numbered) → IsSettled c s → s.bound ≡ Some bound → s.closed ≡ false
still c s bound settled way = by s.closed refl
  where
    by : (over : Bool) → s.closed ≡ over → s.closed ≡ false
    by true over = absurd (cc (sym way ∙ settled.over over))
    by false over = over

abbrev gone_receipt : Numbered → Receipt
gone_receipt bound = record { conf = bound.0; stream = 0; kind = Gone }

pub session_now : (laws : UnitLaws) (c : Connection) (t : Told) (s : State) (confs : List Configuration) → Follows c t s → IsSettled c s → Agrees confs t.given
    → session_of c confs (counted s.bound t.receipts) t.bytes s.ended
    ≡ Some (record { written = t.written ++ s.out; closed = s.closed || is_some s.bound })
session_now laws c t s confs is settled agrees = by s.bound refl
  where
    or_false : (b : Bool) → b ≡ (b || false)
    or_false true = refl
    or_false false = refl

    or_true : (b : Bool) → true ≡ (b || true)
    or_true true = refl
    or_true false = refl

    by : (o : Option Numbered) → s.bound ≡ o
        → session_of c confs (counted s.bound t.receipts) t.bytes s.ended
        ≡ Some (record { written = t.written ++ s.out; closed = s.closed || is_some s.bound })
    by None free =
        ap (λ o. session_of c confs (counted o t.receipts) t.bytes s.ended) free
        ∙ session_with c t s confs is agrees t.receipts s.lines s.closed (course_now c t s confs is agrees free (λ goes_on. settled.begun goes_on free))
        ∙ ap (λ over. Some (record { written = t.written ++ s.out; closed = over })) (or_false s.closed ∙ ap (λ o. s.closed || is_some o) (sym free))
    by (Some bound) way =
        let r = gone_receipt bound in
        let gone_follows = follows_close laws c t s bound r is (still c s bound settled way) way refl (unfold turn_of in refl) in
        let after = record t { receipts = t.receipts ++ r ∷ [] } in
        ap (λ o. session_of c confs (counted o t.receipts) t.bytes s.ended) way
        ∙ session_with c after (closed_by bound.0 s) confs gone_follows agrees after.receipts s.lines true
        (course_now c after (closed_by bound.0 s) confs gone_follows agrees refl (λ over. absurd (cc over)))
        ∙ ap (λ over. Some (record { written = t.written ++ s.out; closed = over })) (or_true s.closed ∙ ap (λ o. s.closed || is_some o) (sym way))

-- ---- a front of every session

abbrev Begins : List ℕ → Option Session → Type 0
Begins front None = Unit {0}
Begins front (Some session) = (rest : List ℕ) × (session.written ≡ front ++ rest)

begins_at : (front written : List ℕ) (mark : Mark) → Begins front (session_in (front ++ written) mark)
begins_at front written still_open = (written, refl)
begins_at front written under_way = tt
begins_at front written closed = (written, refl)

begins_behind : (front lines : List ℕ) (course : Option Course)
    → Begins front (option_and_then (λ (course : Course). session_in course.written course.mark) (behind front lines course))
begins_behind front lines None = tt
begins_behind front lines (Some course) = begins_at front course.written course.mark

pub front_now : (c : Connection) (t : Told) (s : State) (confs : List Configuration) (receipts : List Receipt) (more : List ℕ) (ended : Bool) (session : Session)
    → Follows c t s → Agrees confs t.given → Fits s.bound receipts → GoesOn s more ended
    → session_of c confs (t.receipts ++ receipts) (t.bytes ++ more) ended ≡ Some session
    → (rest : List ℕ) × (session.written ≡ (t.written ++ s.out) ++ rest)
front_now c t s confs receipts more ended session is agrees fits goes session_is =
    let front = t.written ++ s.out in
    let there = begins_behind front s.lines (course_left c confs s receipts more ended) in
    let all = subst (λ (course : Option Course). Begins front (option_and_then (λ (course : Course). session_in course.written course.mark) course))
    (sym (is.law confs receipts more ended agrees fits goes)) there in
    subst (Begins front) session_is all

-- ---- what it needs

pub need_bare : (c : Connection) (s : State) → s.given_up ≡ false → s.out ≡ [] → need_of c s ≡ (if s.closed then Close else need_under c s s.bound)
need_bare c s stays_up empty =
    ap (λ b. if b then Close else if nat_lt 0 (length s.out) then Write else if s.closed then Close else need_under c s s.bound) stays_up
    ∙ ap (λ (out : List ℕ). if nat_lt 0 (length out) then Write else if s.closed then Close else need_under c s s.bound) empty

pub over_now : (c : Connection) (t : Told) (s : State) (confs : List Configuration) → Follows c t s → IsSettled c s → Agrees confs t.given
    → s.given_up ≡ false → s.out ≡ []
    → (need_of c s ≡ Close) ↔ (is_over (session_of c confs t.receipts t.bytes s.ended) s.ended ≡ true)
over_now c t s confs is settled agrees stays_up empty = by s.bound refl s.closed refl
  where
    Goal : Type 0
    Goal = (need_of c s ≡ Close) ↔ (is_over (session_of c confs t.receipts t.bytes s.ended) s.ended ≡ true)

    -- by what both come to
    goal_at : (need : Need) (over : Bool) → need_of c s ≡ need → is_over (session_of c confs t.receipts t.bytes s.ended) s.ended ≡ over
        → ((need ≡ Close) ↔ (over ≡ true)) → (need_of c s ≡ Close) ↔ (is_over (session_of c confs t.receipts t.bytes s.ended) s.ended ≡ true)
    goal_at need over need_is over_is same = (λ e. over_is ∙ same.0 (sym need_is ∙ e), λ e. need_is ∙ same.1 (sym over_is ∙ e))

    free_session : s.bound ≡ None → session_of c confs t.receipts t.bytes s.ended ≡ Some (record { written = t.written ++ s.out; closed = s.closed })
    free_session free =
        session_with c t s confs is agrees t.receipts s.lines s.closed (course_now c t s confs is agrees free (λ goes_on. settled.begun goes_on free))

    none_at_mark : (b : Bool) → ((if b then Close else Read) ≡ Close) ↔ (b ≡ true)
    none_at_mark true = (λ e. refl, λ e. refl)
    none_at_mark false = (λ e. absurd (cc e), λ e. absurd (cc e))

    never : (b : Bool) → ((if b then Ask else Read) ≡ Close) ↔ (false ≡ true)
    never true = (λ e. absurd (cc e), λ e. absurd (cc e))
    never false = (λ e. absurd (cc e), λ e. absurd (cc e))

    by : (o : Option Numbered) → s.bound ≡ o → (over : Bool) → s.closed ≡ over
        → (need_of c s ≡ Close) ↔ (is_over (session_of c confs t.receipts t.bytes s.ended) s.ended ≡ true)
    by None free true over =
        goal_at Close true
        (need_bare c s stays_up empty ∙ ap (λ b. if b then Close else need_under c s s.bound) over)
        (ap (λ o. is_over o s.ended) (free_session free) ∙ ap (λ b. b || s.ended) over)
        (λ e. refl, λ e. refl)
    by None free false over =
        goal_at (if s.ended then Close else Read) s.ended
        (need_bare c s stays_up empty ∙ ap (λ b. if b then Close else need_under c s s.bound) over ∙ ap (need_under c s) free)
        (ap (λ o. is_over o s.ended) (free_session free) ∙ ap (λ b. b || s.ended) over)
        (none_at_mark s.ended)
    by (Some bound) way over_or over =
        let asks = asks_by c bound.1 (unit_under bound.1 s).found in
        let waiting = is.under bound confs [] s.ended way agrees (now s) in
        goal_at (if asks then Ask else Read) false
        (need_bare c s stays_up empty ∙ ap (λ b. if b then Close else need_under c s s.bound) (still c s bound settled way) ∙ ap (need_under c s) way)
        (ap (λ bytes. is_over (session_of c confs t.receipts bytes s.ended) s.ended) (sym (append-nil t.bytes))
        ∙ ap (λ o. is_over (option_and_then (λ (course : Course). session_in course.written course.mark) o) s.ended) waiting.1)
        (never asks)
