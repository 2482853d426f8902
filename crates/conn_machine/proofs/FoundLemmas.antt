-- What a machine finds at the front of its bytes.
use Rattle.std.proofs.Common.{ℕ, suc, ◌≡◌, ◌≢◌, refl, sym, ap, ◌∙◌, subst, List, ◌++◌, Bool, true, false, not, ◌&&◌, ◌||◌, if◌then◌else◌, Option, Some, None, option_map, append-nil, Result, Ok, Err, IfOk, OnOk, Bor}
use Rattle.unit_types.specs.declared.message.Reply.{Reply}
use Rattle.unit_types.specs.declared.message.Request.{Request}
use Rattle.conf_validate.specs.Configuration.{Configuration}
use Rattle.http_front.specs.declared.next_unit.Next.{Next}
use Rattle.http_front.specs.declared.next_unit.Next.TheVariants as Answer
use Rattle.http_front.specs.Front.{head_begun}
use Rattle.http_front.specs.Kept.{Kept, HasRead}
use Rattle.http_front.specs.NextUnit.{Found, request, bad, cut, finished, wait, NextUnit, next_unit}
use Rattle.http_front.specs.Reading.{Reading, reading_of, has_begun, answer_at, is_request, kept_limit, limit_or, behind_found, next_answer, next_reading}
use Rattle.http_front.specs.Written.{continue_bytes}
use Rattle.conn_machine.specs.Answers.{Connection}
use Rattle.conn_machine.specs.Calls.{Account, own_answer, front_answer, settled, taken_with}
use Rattle.conn_machine.specs.Settling.{IsToldOn, FindsFront, has_met, recovered, taken_up_in}
use Rattle.conn_machine.specs.Shows.{Held, bound_in, reading_in, Fronts, IsQuiet, Stands}
use Rattle.conn_machine.specs.States.{Numbered, State, is_due, unit_under}
use Rattle.conn_machine.specs.Steps.{taken_up}
use Rattle.http_front.proofs.AnswerLemmas.{begun_now}
use Rattle.conn_machine.proofs.FrontLaws.{unbegun_plain}

-- ---- the reader's answer at a limit that counts

-- where nothing is due any more
pub idle_answer : (r : Reading) (limit : ℕ) (unit : NextUnit) → r.limit ≡ Some limit → next_unit r.unread r.ended limit ≡ unit
    → (unit.continue_due && not r.is_told) ≡ false
    → (next_answer r limit ≡ answer_at r.from r.to unit.found) × (next_reading r limit ≡ behind_found r unit.found)
idle_answer r limit unit kept is idle =
    let at : limit_or r.limit limit ≡ limit = ap (λ o. limit_or o limit) kept in
    let found : next_unit r.unread r.ended (limit_or r.limit limit) ≡ unit = ap (next_unit r.unread r.ended) at ∙ is in (
      ap (λ (u : NextUnit). if u.continue_due && not r.is_told then Answer.Continue else answer_at r.from r.to u.found) found
          ∙ ap (λ b. if b then Answer.Continue else answer_at r.from r.to unit.found) idle,
      (λ i. reading_behind (lim i) (found i)) ∙ ap (λ b. if b then record r { is_told = true } else behind_found r unit.found) idle,
    )
  where
    lim : kept_limit (head_begun r.unread) r.limit limit ≡ r.limit
    lim = by (head_begun r.unread)
      where
        by : (begun : Bool) → kept_limit begun r.limit limit ≡ r.limit
        by true = ap (λ o. Some (limit_or o limit)) kept ∙ sym kept
        by false = refl

    reading_behind : Option ℕ → NextUnit → Reading
    reading_behind lim u = if u.continue_due && not r.is_told then record (record r { limit = lim }) { is_told = true } else behind_found (record r { limit = lim }) u.found

module _ (reply_of : List ℕ → Request → Reply) (c : Connection) (current : Numbered) where
  open_settled : (n : ℕ) (a : Account) → a.state.closed ≡ false → settled c current (suc n) a ≡ front_answer c current (settled c current n) a a.state.bound
  unfolding settled
  open_settled n a going = ap (λ b. if b then a else front_answer c current (settled c current n) a a.state.bound) going

  -- the request under way
  pub found_under : (a : Account) (m : Held) (reader : Kept) (bound : Numbered) (next : Next) → Stands reply_of c a m → m.closed ≡ false → m.pending ≡ None
      → bound_in m ≡ Some bound
      → ((r : Reading) → HasRead r m.reader → next ≡ next_answer r bound.1.max_body)
      → ((r : Reading) → HasRead r m.reader → HasRead (next_reading r bound.1.max_body) reader)
      → FindsFront reply_of c current a (Some next) (record m { reader = reader })
  found_under a m reader bound next is going none way answers reads =
      let closed : a.state.closed ≡ false = ap (λ s. s.closed) is.carries.state ∙ going in
      let under : a.state.bound ≡ Some bound = ap (λ s. s.bound) is.carries.state ∙ way in
      let r = reading_in c a.state in
      let read : HasRead r m.reader = subst (λ p. Fronts c a.state p m.reader) none (is.front going) in
      let limit : r.limit ≡ Some bound.1.max_body = ap (option_map (λ (b : Numbered). b.1.max_body)) under in
      let step = idle_answer r bound.1.max_body (unit_under bound.1 a.state) limit refl (is.carries.idle bound under) in
      record {
        bound = bound;
        account = a;
        found = record {
          carries = record {
            connection = is.carries.connection;
            state = is.carries.state;
            receipts = is.carries.receipts;
            fresh = is.carries.fresh;
            begun = is.carries.begun;
            idle = is.carries.idle;
          };
          way = under;
          next_is = answers r read ∙ step.0;
          behind = subst (λ (q : Reading). HasRead q reader) step.1 (reads r read);
        };
        goes = λ n. open_settled n a closed ∙ ap (front_answer c current (settled c current n) a) under;
      }

  -- ---- no request is under way

  free_reading : (s : State) → s.bound ≡ None → s.told ≡ false → reading_in c s ≡ reading_of c.from c.to s.unused s.ended
  free_reading s free fresh = λ i. record {
    from = c.from;
    to = c.to;
    unread = s.unused;
    ended = s.ended;
    limit = option_map (λ (bound : Numbered). bound.1.max_body) (free i);
    is_told = fresh i;
  }

  -- what the reader has read of a request whose head is complete
  abbrev begun_reading : State → Bool → Reading
  begun_reading s told = record {
    from = c.from;
    to = c.to;
    unread = s.unused;
    ended = s.ended;
    limit = Some current.1.max_body;
    is_told = told;
  }

  not_request : (q : Reading) (f : Found) → is_request (answer_at q.from q.to f) ≡ false → behind_found q f ≡ q
  not_request q (request m used) is = absurd (cc is)
  not_request q (bad status) is = refl
  not_request q cut is = refl
  not_request q finished is = refl
  not_request q wait is = refl

  -- the reader's step where nothing is kept of the request
  abbrev fresh_reading : State → Reading
  fresh_reading s = reading_of c.from c.to s.unused s.ended

  -- whether the reader says of it that its head is complete
  abbrev behind_begun : State → Bool
  behind_begun s = has_begun (next_reading (fresh_reading s) current.1.max_body)

  abbrev limited_reading : State → Bool → Reading
  limited_reading s begun = record (fresh_reading s) { limit = kept_limit begun None current.1.max_body }

  abbrev fresh_answer : State → Bool → Next
  fresh_answer s due = if due then Answer.Continue else answer_at c.from c.to (unit_under current.1 s).found

  abbrev fresh_next : State → Bool → Bool → Reading
  fresh_next s begun due =
      if due then record (limited_reading s begun) { is_told = true } else behind_found (limited_reading s begun) (unit_under current.1 s).found

  and_true : (b : Bool) → (b && not false) ≡ b
  and_true true = refl
  and_true false = refl

  fresh_step : (s : State) (begun due : Bool) → head_begun s.unused ≡ begun → (unit_under current.1 s).continue_due ≡ due
      → (next_answer (fresh_reading s) current.1.max_body ≡ fresh_answer s due) × (next_reading (fresh_reading s) current.1.max_body ≡ fresh_next s begun due)
  fresh_step s begun due is asks = (
    ap (λ d. fresh_answer s d) (and_true (unit_under current.1 s).continue_due ∙ asks),
    (λ i. fresh_next s (is i) ((and_true (unit_under current.1 s).continue_due ∙ asks) i)),
  )

  module _ (a : Account) (m : Held) (is : Stands reply_of c a m) (going : m.closed ≡ false) (none : m.pending ≡ None) (free : bound_in m ≡ None) where
    closed_free : a.state.closed ≡ false
    closed_free = ap (λ s. s.closed) is.carries.state ∙ going

    under_free : a.state.bound ≡ None
    under_free = ap (λ s. s.bound) is.carries.state ∙ free

    told_free : a.state.told ≡ false
    told_free = is.carries.fresh under_free

    pub read_free : HasRead (reading_of c.from c.to a.state.unused a.state.ended) m.reader
    read_free = subst (λ (r : Reading). HasRead r m.reader) (free_reading a.state under_free told_free) (subst (λ p. Fronts c a.state p m.reader) none (is.front going))

    settled_free : (n : ℕ) → settled c current (suc n) a ≡ front_answer c current (settled c current n) a None
    settled_free n = open_settled n a closed_free ∙ ap (front_answer c current (settled c current n) a) under_free

    -- no head is complete
    pub found_none : (reader : Kept)
        → ((r : Reading) → HasRead r m.reader → HasRead (next_reading r current.1.max_body) reader)
        → head_begun a.state.unused ≡ false
        → FindsFront reply_of c current a None (record m { reader = reader })
    found_none reader reads head =
        let r = reading_of c.from c.to a.state.unused a.state.ended in
        let plain = unbegun_plain c.from c.to a.state.unused a.state.ended current.1.max_body head in
        let step = fresh_step a.state false false head plain.0 in
        let same : next_reading r current.1.max_body ≡ reading_in c a.state =
        step.1 ∙ not_request r (unit_under current.1 a.state).found plain.1 ∙ sym (free_reading a.state under_free told_free) in (
          record {
            stands = record {
              carries = record {
                connection = is.carries.connection;
                state = is.carries.state;
                receipts = is.carries.receipts;
                fresh = is.carries.fresh;
                begun = is.carries.begun;
                idle = is.carries.idle;
              };
              front = λ still. subst (λ p. Fronts c a.state p reader) (sym none) (subst (λ (q : Reading). HasRead q reader) same (reads r read_free));
            };
            quiet = λ still. subst (λ p. IsQuiet c a.state p) (sym none) (λ bound way. absurd (cc (sym under_free ∙ way)));
          },
          λ n. settled_free n ∙ ap (λ b. if b then own_answer c current (settled c current n) (taken_with current a) (unit_under current.1 (taken_with current a).state).found else a) head,
        )

    -- the head is complete where a request is found
    pub request_begun : (next : Next) → ((r : Reading) → HasRead r m.reader → next ≡ next_answer r current.1.max_body) → is_request next ≡ true
        → head_begun a.state.unused ≡ true
    request_begun next answers found = by (head_begun a.state.unused) refl
      where
        by : (b : Bool) → head_begun a.state.unused ≡ b → head_begun a.state.unused ≡ true
        by true head = head
        by false head =
            let r = reading_of c.from c.to a.state.unused a.state.ended in
            let plain = unbegun_plain c.from c.to a.state.unused a.state.ended current.1.max_body head in
            let step = fresh_step a.state false false head plain.0 in
            absurd (cc (sym found ∙ (ap is_request (answers r read_free ∙ step.0) ∙ plain.1)))

    -- whether it is complete, by what the reader finds and says
    pub begun_is : (reader : Kept) (next : Next) (b : Bool)
        → ((r : Reading) → HasRead r m.reader → next ≡ next_answer r current.1.max_body)
        → ((r : Reading) → HasRead r m.reader → HasRead (next_reading r current.1.max_body) reader)
        → ((r : Reading) → HasRead r reader → b ≡ (is_request next || has_begun r))
        → head_begun a.state.unused ≡ b
    begun_is reader next b answers reads says = by (is_request next) refl
      where
        now : b ≡ (is_request next || behind_begun a.state)
        now = says (next_reading (fresh_reading a.state) current.1.max_body) (reads (fresh_reading a.state) read_free)

        or_false : (b : Bool) → (b || false) ≡ b
        or_false true = refl
        or_false false = refl

        by : (found : Bool) → is_request next ≡ found → head_begun a.state.unused ≡ b
        by true is = request_begun next answers is ∙ sym (now ∙ ap (λ found. found || behind_begun a.state) is)
        by false is =
            let none_now : is_request (next_answer (fresh_reading a.state) current.1.max_body) ≡ false = ap is_request (sym (answers (fresh_reading a.state) read_free)) ∙ is in
            sym (now ∙ ap (λ found. found || behind_begun a.state) is ∙ begun_now (fresh_reading a.state) current.1.max_body none_now ∙ or_false (head_begun a.state.unused))

    -- it is taken up
    taken_found : (head : head_begun a.state.unused ≡ true) (told : Bool) → (unit_under current.1 a.state).continue_due ≡ told
        → (former : Option Numbered) (reader : Kept) (next : Next) → next ≡ answer_at c.from c.to (unit_under current.1 a.state).found
        → HasRead (behind_found (begun_reading a.state told) (unit_under current.1 a.state).found) reader
        → FindsFront reply_of c current a (Some next)
        (record m { reader = reader; met = Some current; former = former; is_under_way = true; out = m.out ++ continue_bytes told })
    taken_found head told due former reader next is_next read =
        let due_is : is_due current.1 a.state ≡ told = (λ i. due i && not (told_free i)) ∙ and_true told in
        record {
          bound = current;
          account = taken_with current a;
          found = record {
            carries = record {
              connection = is.carries.connection;
              state = λ i. record {
                unused = a.state.unused;
                ended = (is.carries.state i).ended;
                bound = Some current;
                told = is_due current.1 a.state;
                left = (is.carries.state i).left;
                last = (is.carries.state i).last;
                out = (is.carries.state i).out ++ continue_bytes (due_is i);
                lines = (is.carries.state i).lines;
                closed = (is.carries.state i).closed;
                given_up = (is.carries.state i).given_up;
              };
              receipts = is.carries.receipts;
              fresh = λ none. absurd (cc none);
              begun = λ bound way. head;
              idle = λ bound way. idle_now bound way told due due_is;
            };
            way = refl;
            next_is = is_next;
            behind = subst (λ (t : Bool). HasRead (behind_found (begun_reading a.state t) (unit_under current.1 a.state).found) reader) (sym due_is) read;
          };
          goes = λ n. settled_free n ∙ ap (λ b. if b then own_answer c current (settled c current n) (taken_with current a) (unit_under current.1 (taken_with current a).state).found else a) head;
        }
      where
        and_not : (b : Bool) → (b && not b) ≡ false
        and_not true = refl
        and_not false = refl

        idle_now : (bound : Numbered) → Some current ≡ Some bound → (told : Bool) → (unit_under current.1 a.state).continue_due ≡ told → is_due current.1 a.state ≡ told
            → is_due bound.1 (taken_up current a.state) ≡ false
        idle_now bound way told due due_is =
            let same : current ≡ bound = cc way in
            subst (λ (b : Numbered). is_due b.1 (taken_up current a.state) ≡ false) same ((λ i. due i && not (due_is i)) ∙ and_not told)

    -- with nothing due
    pub found_taken : (head : head_begun a.state.unused ≡ true) (former : Option Numbered) (reader : Kept) (next : Next)
        → ((r : Reading) → HasRead r m.reader → next ≡ next_answer r current.1.max_body)
        → ((r : Reading) → HasRead r m.reader → HasRead (next_reading r current.1.max_body) reader)
        → next ≢ Answer.Continue
        → FindsFront reply_of c current a (Some next)
        (record m { reader = reader; met = Some current; former = former; is_under_way = true })
    found_taken head former reader next answers reads other = by (unit_under current.1 a.state).continue_due refl
      where
        by : (due : Bool) → (unit_under current.1 a.state).continue_due ≡ due
            → FindsFront reply_of c current a (Some next) (record m { reader = reader; met = Some current; former = former; is_under_way = true })
        by true due = absurd (other (answers (fresh_reading a.state) read_free ∙ (fresh_step a.state true true head due).0))
        by false due =
            let step = fresh_step a.state true false head due in
            subst (λ (out : List ℕ). FindsFront reply_of c current a (Some next) (record m { reader = reader; met = Some current; former = former; is_under_way = true; out = out })) (append-nil m.out)
            (taken_found head false due former reader next (answers (fresh_reading a.state) read_free ∙ step.0) (subst (λ (q : Reading). HasRead q reader) step.1 (reads (fresh_reading a.state) read_free)))

    -- with `100 Continue` due
    pub found_continued : (head : head_begun a.state.unused ≡ true) (former : Option Numbered) (mid reader : Kept) (next : Next)
        → ((r : Reading) → HasRead r m.reader → Answer.Continue ≡ next_answer r current.1.max_body)
        → ((r : Reading) → HasRead r m.reader → HasRead (next_reading r current.1.max_body) mid)
        → ((r : Reading) → HasRead r mid → next ≡ next_answer r current.1.max_body)
        → ((r : Reading) → HasRead r mid → HasRead (next_reading r current.1.max_body) reader)
        → FindsFront reply_of c current a (Some next)
        (record m { reader = reader; met = Some current; former = former; is_under_way = true; out = m.out ++ continue_bytes true })
    found_continued head former mid reader next first reads_first answers reads = by (unit_under current.1 a.state).continue_due refl
      where
        no_continue : (f : Found) → Answer.Continue ≢ answer_at c.from c.to f
        no_continue (request m used) e = cc e
        no_continue (bad status) e = cc e
        no_continue cut e = cc e
        no_continue finished e = cc e
        no_continue wait e = cc e

        off : (b : Bool) → (b && not true) ≡ false
        off true = refl
        off false = refl

        by : (due : Bool) → (unit_under current.1 a.state).continue_due ≡ due
            → FindsFront reply_of c current a (Some next) (record m { reader = reader; met = Some current; former = former; is_under_way = true; out = m.out ++ continue_bytes true })
        by false due = absurd (no_continue (unit_under current.1 a.state).found (first (fresh_reading a.state) read_free ∙ (fresh_step a.state true false head due).0))
        by true due =
            let q = begun_reading a.state true in
            let read : HasRead q mid = subst (λ (q : Reading). HasRead q mid) (fresh_step a.state true true head due).1 (reads_first (fresh_reading a.state) read_free) in
            let step = idle_answer q current.1.max_body (unit_under current.1 a.state) refl refl (off (unit_under current.1 a.state).continue_due) in
            taken_found head true due former reader next (answers q read ∙ step.0) (subst (λ (q : Reading). HasRead q reader) step.1 (reads q read))

    -- the same, as it is told
    pub found_told : (former : Option Numbered) (mid : Kept) (first next : Next) (new : Held) → head_begun a.state.unused ≡ true
        → ((r : Reading) → HasRead r m.reader → first ≡ next_answer r current.1.max_body)
        → ((r : Reading) → HasRead r m.reader → HasRead (next_reading r current.1.max_body) mid)
        → IsToldOn (record m { reader = mid; met = Some current; former = former; is_under_way = true }) current.1.max_body first next new
        → FindsFront reply_of c current a (Some next) new
    found_told former mid first next new head answers reads told = by first refl
      where
        plain : first ≢ Answer.Continue → FindsFront reply_of c current a (Some next) new
        plain other =
            let on = told.other other in
            subst (λ (held : Held). FindsFront reply_of c current a (Some next) held) (sym on.1)
            (subst (λ (found : Next). FindsFront reply_of c current a (Some found) (record m { reader = mid; met = Some current; former = former; is_under_way = true })) (sym on.0)
            (found_taken head former mid first answers reads other))

        by : (answer : Next) → first ≡ answer → FindsFront reply_of c current a (Some next) new
        by Answer.Continue e =
            subst (λ (held : Held). FindsFront reply_of c current a (Some next) held) (sym (told.due e))
            (found_continued head former mid new.reader next (λ r read. sym e ∙ answers r read) reads (told.answer e) (told.reads e))
        by (Answer.Request r) e = plain (λ is. cc (sym e ∙ is))
        by Answer.NeedMore e = plain (λ is. cc (sym e ∙ is))
        by (Answer.Bad status) e = plain (λ is. cc (sym e ∙ is))
        by Answer.End e = plain (λ is. cc (sym e ∙ is))
        by Answer.Cut e = plain (λ is. cc (sym e ∙ is))

-- ---- as calls tell it

-- where nothing is due
pub told_plain : (old : Held) (limit : ℕ) (first : Next) → first ≢ Answer.Continue → IsToldOn old limit first first old
told_plain old limit first other = record {
  other = λ is. (refl, refl);
  due = λ is. absurd (other is);
  answer = λ is. absurd (other is);
  reads = λ is. absurd (other is);
}

-- where it is
told_due : (old mid new : Held) (limit : ℕ) (first next : Next) → first ≡ Answer.Continue
    → mid ≡ record old { out = old.out ++ continue_bytes true } → new ≡ record mid { reader = new.reader }
    → ((r : Reading) → HasRead r mid.reader → next ≡ next_answer r limit)
    → ((r : Reading) → HasRead r mid.reader → HasRead (next_reading r limit) new.reader)
    → IsToldOn old limit first next new
told_due old mid new limit first next due mid_is new_is answers reads =
    let same : old.reader ≡ mid.reader = sym (ap (λ (m : Held). m.reader) mid_is) in
    record {
      other = λ is_not. absurd (is_not due);
      due = λ is. new_is ∙ ap (λ (m : Held). record m { reader = new.reader }) mid_is;
      answer = λ is r read. answers r (subst (λ (k : Kept). HasRead r k) same read);
      reads = λ is r read. reads r (subst (λ (k : Kept). HasRead r k) same read);
    }

pub told_result : {E : Type 0} (o : Result Next E) (old mid new : Held) (limit : ℕ) (first : Next) → first ≡ Answer.Continue
    → mid ≡ record old { out = old.out ++ continue_bytes true } → new ≡ record mid { reader = new.reader }
    → IfOk o (λ next. (r : Reading) → HasRead r mid.reader → next ≡ next_answer r limit)
    → OnOk o ((r : Reading) → HasRead r mid.reader → HasRead (next_reading r limit) new.reader)
    → IfOk o (λ next. IsToldOn old limit first next new)
told_result (Ok next) old mid new limit first due mid_is new_is answers reads = told_due old mid new limit first next due mid_is new_is answers reads
told_result (Err e) old mid new limit first due mid_is new_is answers reads = tt

module _ (reply_of : List ℕ → Request → Reply) (c : Connection) (current : Numbered) (a : Account) (m : Held) (is : Stands reply_of c a m)
    (going : m.closed ≡ false) (none : m.pending ≡ None) where
  -- the request under way, by the configuration that is found
  pub found_bound : (o : Option (Bor Numbered)) (met : Bor Numbered) (conf : Configuration) (limit : ℕ) (next : Next) (new : Held)
      → option_map (λ (b : Bor Numbered). b.now) o ≡ bound_in m → o ≡ Some met → conf ≡ met.now.1 → limit ≡ conf.max_body
      → new ≡ record m { reader = new.reader }
      → ((r : Reading) → HasRead r m.reader → next ≡ next_answer r limit)
      → ((r : Reading) → HasRead r m.reader → HasRead (next_reading r limit) new.reader)
      → FindsFront reply_of c current a (Some next) new
  found_bound o met conf limit next new way some conf_is limit_is new_is answers reads =
      let same : limit ≡ met.now.1.max_body = limit_is ∙ ap (λ (x : Configuration). x.max_body) conf_is in
      let bound : bound_in m ≡ Some met.now = sym way ∙ ap (option_map (λ (b : Bor Numbered). b.now)) some in
      subst (λ (held : Held). FindsFront reply_of c current a (Some next) held) (sym new_is)
      (found_under reply_of c current a m new.reader met.now next is going none bound
      (λ r read. answers r read ∙ ap (next_answer r) same)
      (λ r read. subst (λ l. HasRead (next_reading r l) new.reader) same (reads r read)))

  module _ (free : bound_in m ≡ None) (conf : Configuration) (limit : ℕ) (conf_is : conf ≡ current.1) (limit_is : limit ≡ conf.max_body)
      (first : Next) (mid : Held) (mid_is : mid ≡ record m { reader = mid.reader })
      (answers : (r : Reading) → HasRead r m.reader → first ≡ next_answer r limit)
      (reads : (r : Reading) → HasRead r m.reader → HasRead (next_reading r limit) mid.reader)
      (b : Bool) (says : (r : Reading) → HasRead r mid.reader → b ≡ (is_request first || has_begun r)) where
    same_limit : limit ≡ current.1.max_body
    same_limit = limit_is ∙ ap (λ (x : Configuration). x.max_body) conf_is

    first_answers : (r : Reading) → HasRead r m.reader → first ≡ next_answer r current.1.max_body
    first_answers r read = answers r read ∙ ap (next_answer r) same_limit

    first_reads : (r : Reading) → HasRead r m.reader → HasRead (next_reading r current.1.max_body) mid.reader
    first_reads r read = subst (λ l. HasRead (next_reading r l) mid.reader) same_limit (reads r read)

    first_begun : head_begun a.state.unused ≡ b
    first_begun = begun_is reply_of c current a m is going none free mid.reader first b first_answers first_reads says

    -- no head is complete
    pub first_none : b ≡ false → FindsFront reply_of c current a None mid
    first_none unbegun =
        subst (λ (held : Held). FindsFront reply_of c current a None held) (sym mid_is)
        (found_none reply_of c current a m is going none free mid.reader first_reads (first_begun ∙ unbegun))

    -- one is, and it is taken up
    pub first_told : b ≡ true → (up new : Held) (next : Next) → up ≡ taken_up_in current mid → IsToldOn up limit first next new
        → FindsFront reply_of c current a (Some next) new
    first_told begun up new next up_is told =
        found_told reply_of c current a m is going none free (if has_met current.0 m.met then m.former else recovered m) mid.reader first next new (first_begun ∙ begun)
        first_answers first_reads
        (subst (λ (held : Held). IsToldOn held current.1.max_body first next new) (up_is ∙ ap (taken_up_in current) mid_is)
        (subst (λ l. IsToldOn up l first next new) same_limit told))
