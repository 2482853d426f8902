-- What a machine answers itself to what it finds.
use Rattle.std.proofs.Common.{ℕ, suc, zero, ◌≡◌, ◌≢◌, ◌-◌, refl, sym, ap, ◌∙◌, subst, List, [], ◌∷◌, ◌++◌, drop, Bool, true, false, if◌then◌else◌, Option, Some, None, option_map, Bor, Result, Ok, Err, IfOk, OnOk}
use Rattle.std.specs.Option.{is_some}
use Rattle.unit_types.specs.declared.message.Reply.{Reply}
use Rattle.unit_types.specs.declared.message.Request.{Request}
use Rattle.conf_validate.specs.Configuration.{Configuration}
use Rattle.route_match.specs.Target.{outcome_of, target_of}
use Rattle.route_match.specs.declared.target.Target.{Target}
use Rattle.route_match.specs.declared.walk.Outcome.{Outcome}
use Rattle.route_match.specs.declared.target.Target.TheVariants.{App, Return, Status}
use Rattle.http_front.specs.declared.next_unit.Next.{Next}
use Rattle.http_front.specs.declared.next_unit.Next.TheVariants as Answer
use Rattle.http_front.specs.Kept.{HasRead}
use Rattle.http_front.specs.Message.{Message, request_of}
use Rattle.http_front.specs.NextUnit.{Found, request, bad, cut, finished, wait}
use Rattle.http_front.specs.Reading.{Reading, answer_at, behind_found, reading_of}
use Rattle.http_front.specs.Written.{error_reply, http_bytes}
use Rattle.conn_machine.specs.declared.pending.Pending.{Pending}
use Rattle.conn_machine.specs.declared.receipt.Kind.{Kind}
use Rattle.conn_machine.specs.declared.receipt.Kind.TheVariants.{Cut, Own}
use Rattle.conn_machine.specs.declared.receipt.Receipt.{Receipt}
use Rattle.conn_machine.specs.Answers.{Connection, closes, is_to_head, own_reply, own_reply_by, reply_by, reply_line, reply_to}
use Rattle.conn_machine.specs.Asking.{is_app}
use Rattle.conn_machine.specs.Calls.{Account, closed_with, front_answer, own_answer, replied_with, settled}
use Rattle.conn_machine.specs.Settling.{IsFound, IsTaken, FindsFront, IsAnswered, Settles, finished_in, logged_in, replied_in, written_in}
use Rattle.conn_machine.specs.Shows.{Held, bound_in, number_or, IsPendingBy, IsQuiet, Fronts, reading_in, Carries, Stands, ended_with}
use Rattle.conn_machine.specs.States.{Numbered, State, asks_by, unit_under}
use Rattle.conn_machine.specs.Turns.{receipt_of}
use Rattle.conn_machine.proofs.EndedLemmas.{carries_ended}

-- ---- a reply

-- the server's own reply is the one that the request gets
own_by : (c : Connection) (conf : Configuration) (r : Request) (by : Option ℕ) (target : Target) (reply : Reply) → own_reply_by conf by r target ≡ Some reply
    → (is_app target ≡ false) × (reply_by c conf r by target ≡ reply)
own_by c conf r by (App app timeout) reply is = absurd (cc is)
own_by c conf r by (Return step status) reply is = (refl, cc is)
own_by c conf r by (Status status) reply is = (refl, cc is)

pub own_is : (c : Connection) (conf : Configuration) (r : Request) (reply : Reply) → own_reply conf (outcome_of conf c.listener r) r ≡ Some reply
    → (is_app (target_of conf c.listener r) ≡ false) × (reply_to c conf r ≡ reply)
unfolding reply_to
own_is c conf r reply is = let outcome = outcome_of conf c.listener r in own_by c conf r outcome.step outcome.target reply is

-- a reply, part by part
pub replied_parts : (bound : Numbered) (asked : Option Request) (reply : Reply) (stream : ℕ) (kind : Kind) (head close : Bool) (old l w new : Held) → bound_in old ≡ Some bound
    → l ≡ logged_in bound asked reply old → w ≡ written_in reply head close l → new ≡ finished_in (number_or (bound_in w) 0) stream kind close w
    → head ≡ is_to_head asked → close ≡ closes asked old.left → new ≡ replied_in bound (receipt_of bound.0 stream kind) asked reply old
replied_parts bound asked reply stream kind head close old l w new way l_is w_is new_is head_is close_is =
    new_is
    ∙ (λ i. finished_in (number_or (bound_in (w_is i)) 0) stream kind close (w_is i))
    ∙ (λ i. finished_in (number_or (bound_in (written_in reply (head_is i) (close_is i) (l_is i))) 0) stream kind (close_is i) (written_in reply (head_is i) (close_is i) (l_is i)))
    ∙ ap (λ (o : Option Numbered). finished_in (number_or o 0) stream kind (closes asked old.left) (written_in reply (is_to_head asked) (closes asked old.left) (logged_in bound asked reply old))) way

pub replied_result : {T E : Type 0} (o : Result T E) (asked : Option Request) (reply : Reply) (stream : ℕ) (kind : Kind) (head close : Bool) (old l w new : Held)
    → ((bound : Numbered) → bound_in old ≡ Some bound → l ≡ logged_in bound asked reply old) → w ≡ written_in reply head close l
    → OnOk o (new ≡ finished_in (number_or (bound_in w) 0) stream kind close w) → head ≡ is_to_head asked → close ≡ closes asked old.left
    → OnOk o ((bound : Numbered) → bound_in old ≡ Some bound → new ≡ replied_in bound (receipt_of bound.0 stream kind) asked reply old)
replied_result (Ok x) asked reply stream kind head close old l w new l_is w_is new_is head_is close_is =
    λ bound way. replied_parts bound asked reply stream kind head close old l w new way (l_is bound way) w_is new_is head_is close_is
replied_result (Err e) asked reply stream kind head close old l w new l_is w_is new_is head_is close_is = tt

-- the outcome by the configuration of the request under way
pub outcome_as : (o : Option (Bor Numbered)) (met : Bor Numbered) (m : Held) (bound : Numbered) (conf : Configuration) (listener : List ℕ) (came : Outcome) (r : Request)
    → option_map (λ (b : Bor Numbered). b.now) o ≡ bound_in m → o ≡ Some met → conf ≡ met.now.1 → listener ≡ m.listener
    → came ≡ outcome_of conf listener r → bound_in m ≡ Some bound → came ≡ outcome_of bound.1 m.listener r
outcome_as o met m bound conf listener came r way some conf_is listener_is came_is under =
    let same : met.now ≡ bound = cc (sym (ap (option_map (λ (b : Bor Numbered). b.now)) some) ∙ way ∙ under) in
    came_is ∙ (λ i. outcome_of ((conf_is ∙ ap (λ (b : Numbered). b.1) same) i) (listener_is i) r)

-- none is a request to an application
none_by : (conf : Configuration) (r : Request) (by : Option ℕ) (target : Target) → own_reply_by conf by r target ≡ None → is_app target ≡ true
none_by conf r by (App app timeout) is = refl
none_by conf r by (Return step status) is = absurd (cc is)
none_by conf r by (Status status) is = absurd (cc is)

pub none_is : (conf : Configuration) (listener : List ℕ) (r : Request) → own_reply conf (outcome_of conf listener r) r ≡ None → is_app (target_of conf listener r) ≡ true
none_is conf listener r is = let outcome = outcome_of conf listener r in none_by conf r outcome.step outcome.target is

module _ (reply_of : List ℕ → Request → Reply) (c : Connection) (bound : Numbered) (a : Account) (m : Held) where
  pub replied_stands : (receipt : Receipt) (asked : Option Request) (reply : Reply) (used : ℕ) → Carries reply_of c a m
      → (closes asked m.left ≡ false → HasRead (reading_of c.from c.to (drop used a.state.unused) a.state.ended) m.reader)
      → Stands reply_of c (replied_with c bound receipt asked reply used a) (replied_in bound receipt asked reply m)
  replied_stands receipt asked reply used is front = record {
    carries = record {
      connection = is.connection;
      state = λ i. record {
        unused = drop used a.state.unused;
        ended = (is.state i).ended;
        bound = None;
        told = false;
        left = (is.state i).left - 1;
        last = bound.0;
        out = (is.state i).out ++ http_bytes reply (is_to_head asked) (closes asked (is.state i).left);
        lines = (is.state i).lines ++ reply_line bound.1 (is.connection i).from asked reply;
        closed = closes asked (is.state i).left;
        given_up = (is.state i).given_up;
      };
      receipts = ap (λ receipts. receipts ++ receipt ∷ []) is.receipts;
      fresh = λ free. refl;
      begun = λ other way. absurd (cc way);
      idle = λ other way. absurd (cc way);
    };
    front = front;
  }

  module _ (next : Next) (found : IsFound reply_of c bound a next m) where
    abbrev at : Found
    at = (unit_under bound.1 a.state).found

    listener_is : c.listener ≡ m.listener
    listener_is = ap (λ (c : Connection). c.listener) found.carries.connection

    behind_at : (f : Found) → at ≡ f → HasRead (behind_found (reading_in c a.state) f) m.reader
    behind_at f is = subst (λ (f : Found). HasRead (behind_found (reading_in c a.state) f) m.reader) is found.behind

    -- the request that is found
    requested : (r : Request) → next ≡ Answer.Request r → (message : Message) × (used : ℕ) × (at ≡ request message used) × (r ≡ request_of c.from c.to message)
    requested r is = by at refl
      where
        by : (f : Found) → at ≡ f → (message : Message) × (used : ℕ) × (at ≡ request message used) × (r ≡ request_of c.from c.to message)
        by (request message used) e = (message, used, e, cc (sym is ∙ found.next_is ∙ ap (answer_at c.from c.to) e))
        by (bad status) e = absurd (cc (sym is ∙ found.next_is ∙ ap (answer_at c.from c.to) e))
        by cut e = absurd (cc (sym is ∙ found.next_is ∙ ap (answer_at c.from c.to) e))
        by finished e = absurd (cc (sym is ∙ found.next_is ∙ ap (answer_at c.from c.to) e))
        by wait e = absurd (cc (sym is ∙ found.next_is ∙ ap (answer_at c.from c.to) e))

    -- it goes to an application, and waits
    pub answered_later : (r : Request) (p : Pending) → next ≡ Answer.Request r → is_app (target_of bound.1 m.listener r) ≡ true
        → IsPendingBy bound.1 (outcome_of bound.1 m.listener r) p r → IsAnswered reply_of c bound a false (record m { pending = Some p })
    answered_later r p is goes by =
        let q = requested r is in
        let asked = request_of c.from c.to q.0 in
        let goes_on : is_app (target_of bound.1 c.listener asked) ≡ true = (λ i. is_app (target_of bound.1 (listener_is i) (sym q.3 i))) ∙ goes in
        record {
          account = a;
          answer = λ rest. ap (own_answer c bound rest a) q.2
              ∙ ap (λ b. if b then a else rest (replied_with c bound (receipt_of bound.0 0 Own) (Some asked) (reply_to c bound.1 asked) q.1 a)) goes_on;
          stands = record {
            carries = record {
              connection = found.carries.connection;
              state = found.carries.state;
              receipts = found.carries.receipts;
              fresh = found.carries.fresh;
              begun = found.carries.begun;
              idle = found.carries.idle;
            };
            front = λ going. record {
              bound = bound;
              message = q.0;
              used = q.1;
              bound_is = found.way;
              found = q.2;
              pending = record {
                goes = goes_on;
                by = pending_as r asked p q.3 by;
              };
              behind = behind_at (request q.0 q.1) q.2;
            };
          };
          quiet = λ e going. tt;
        }
      where
        pending_as : (r q : Request) (p : Pending) → r ≡ q → IsPendingBy bound.1 (outcome_of bound.1 m.listener r) p r
            → IsPendingBy bound.1 (outcome_of bound.1 c.listener q) p q
        pending_as r q p same by =
            subst (λ (x : Request). IsPendingBy bound.1 (outcome_of bound.1 c.listener x) p x) same
            (subst (λ (l : List ℕ). IsPendingBy bound.1 (outcome_of bound.1 l r) p r) (sym listener_is) by)

    -- the server answers it
    pub answered_own : (r : Request) (reply : Reply) → next ≡ Answer.Request r → own_reply bound.1 (outcome_of bound.1 m.listener r) r ≡ Some reply
        → IsAnswered reply_of c bound a true (replied_in bound (receipt_of bound.0 0 Own) (Some r) reply m)
    answered_own r reply is own =
        let q = requested r is in
        let asked = request_of c.from c.to q.0 in
        let own_now = own_is c bound.1 r reply (subst (λ (l : List ℕ). own_reply bound.1 (outcome_of bound.1 l r) r ≡ Some reply) (sym listener_is) own) in
        let goes_on : is_app (target_of bound.1 c.listener asked) ≡ false = ap (λ (x : Request). is_app (target_of bound.1 c.listener x)) (sym q.3) ∙ own_now.0 in
        let same : replied_with c bound (receipt_of bound.0 0 Own) (Some asked) (reply_to c bound.1 asked) q.1 a
        ≡ replied_with c bound (receipt_of bound.0 0 Own) (Some r) reply q.1 a =
        ap (λ (x : Request). replied_with c bound (receipt_of bound.0 0 Own) (Some x) (reply_to c bound.1 x) q.1 a) (sym q.3)
        ∙ ap (λ (x : Reply). replied_with c bound (receipt_of bound.0 0 Own) (Some r) x q.1 a) own_now.1 in
        record {
          account = replied_with c bound (receipt_of bound.0 0 Own) (Some r) reply q.1 a;
          answer = λ rest. ap (own_answer c bound rest a) q.2
              ∙ ap (λ b. if b then a else rest (replied_with c bound (receipt_of bound.0 0 Own) (Some asked) (reply_to c bound.1 asked) q.1 a)) goes_on
              ∙ ap rest same;
          stands = replied_stands (receipt_of bound.0 0 Own) (Some r) reply q.1 found.carries (λ going. behind_at (request q.0 q.1) q.2);
          quiet = λ e going. absurd (cc e);
        }

    -- the bytes are refused
    pub answered_bad : (status : ℕ) → next ≡ Answer.Bad status
        → IsAnswered reply_of c bound a false (replied_in bound (receipt_of bound.0 0 Own) None (error_reply status) m)
    answered_bad status is = record {
      account = replied_with c bound (receipt_of bound.0 0 Own) None (error_reply status) 0 a;
      answer = λ rest. ap (own_answer c bound rest a) (by at refl);
      stands = replied_stands (receipt_of bound.0 0 Own) None (error_reply status) 0 found.carries (λ going. absurd (cc going));
      quiet = λ e going other way. absurd (cc way);
    }
      where
        by : (f : Found) → at ≡ f → at ≡ bad status
        by (request message used) e = absurd (cc (sym is ∙ found.next_is ∙ ap (answer_at c.from c.to) e))
        by (bad other) e = e ∙ cc (sym (sym is ∙ found.next_is ∙ ap (answer_at c.from c.to) e))
        by cut e = absurd (cc (sym is ∙ found.next_is ∙ ap (answer_at c.from c.to) e))
        by finished e = absurd (cc (sym is ∙ found.next_is ∙ ap (answer_at c.from c.to) e))
        by wait e = absurd (cc (sym is ∙ found.next_is ∙ ap (answer_at c.from c.to) e))

    -- the input ended inside the request
    pub answered_cut : next ≡ Answer.Cut → IsAnswered reply_of c bound a false (ended_with bound.0 0 Cut m)
    answered_cut is = record {
      account = closed_with bound (receipt_of bound.0 0 Cut) a;
      answer = λ rest. ap (own_answer c bound rest a) (by at refl);
      stands = record {
        carries = carries_ended reply_of c a m bound.0 0 Cut _ found.carries refl;
        front = λ going. absurd (cc going);
      };
      quiet = λ e going other way. absurd (cc way);
    }
      where
        by : (f : Found) → at ≡ f → at ≡ cut
        by (request message used) e = absurd (cc (sym is ∙ found.next_is ∙ ap (answer_at c.from c.to) e))
        by (bad status) e = absurd (cc (sym is ∙ found.next_is ∙ ap (answer_at c.from c.to) e))
        by cut e = e
        by finished e = absurd (cc (sym is ∙ found.next_is ∙ ap (answer_at c.from c.to) e))
        by wait e = absurd (cc (sym is ∙ found.next_is ∙ ap (answer_at c.from c.to) e))

    -- nothing is found yet
    pub answered_none : ((r : Request) → next ≢ Answer.Request r) → ((status : ℕ) → next ≢ Answer.Bad status) → next ≢ Answer.Cut → m.pending ≡ None
        → IsAnswered reply_of c bound a false m
    answered_none no_request no_bad no_cut none = by at refl
      where
        idle : (f : Found) → at ≡ f → ((rest : Account → Account) → own_answer c bound rest a f ≡ a) → behind_found (reading_in c a.state) f ≡ reading_in c a.state
            → asks_by c bound.1 f ≡ false → IsAnswered reply_of c bound a false m
        idle f e same stays asks = record {
          account = a;
          answer = λ rest. ap (own_answer c bound rest a) e ∙ same rest;
          stands = record {
            carries = found.carries;
            front = λ going. subst (λ p. Fronts c a.state p m.reader) (sym none) (subst (λ (r : Reading). HasRead r m.reader) stays (behind_at f e));
          };
          quiet = λ goes going. subst (λ p. IsQuiet c a.state p) (sym none) (λ other way.
              let is : bound ≡ other = cc (sym found.way ∙ way) in
              subst (λ (b : Numbered). asks_by c b.1 (unit_under b.1 a.state).found ≡ false) is (ap (asks_by c bound.1) e ∙ asks));
        }

        by : (f : Found) → at ≡ f → IsAnswered reply_of c bound a false m
        by (request message used) e = absurd (no_request (request_of c.from c.to message) (found.next_is ∙ ap (answer_at c.from c.to) e))
        by (bad status) e = absurd (no_bad status (found.next_is ∙ ap (answer_at c.from c.to) e))
        by cut e = absurd (no_cut (found.next_is ∙ ap (answer_at c.from c.to) e))
        by finished e = idle finished e (λ rest. refl) refl refl
        by wait e = idle wait e (λ rest. refl) refl refl

-- ---- a request, as calls tell it

module _ (m : Held) (outcome : Outcome) (own : Option Reply) (r : Request)
    (own_is : (bound : Numbered) → bound_in m ≡ Some bound → own ≡ own_reply bound.1 outcome r) where
  -- where the server has no reply itself it goes to an application
  pub none_goes : is_some (bound_in m) ≡ true → own ≡ None → is_app outcome.target ≡ true
  none_goes some none = by (bound_in m) refl some
    where
      by : (o : Option Numbered) → bound_in m ≡ o → is_some o ≡ true → is_app outcome.target ≡ true
      by None is some = absurd (cc some)
      by (Some bound) is some = none_by bound.1 r outcome.step outcome.target (sym (own_is bound is) ∙ none)

  module _ (came : (bound : Numbered) → bound_in m ≡ Some bound → outcome ≡ outcome_of bound.1 m.listener r)
      (reply_of : List ℕ → Request → Reply) (c : Connection) (bound : Numbered) (a : Account)
      (found : IsFound reply_of c bound a (Answer.Request r) m) where
    found_way : bound_in m ≡ Some bound
    found_way = ap (λ (s : State). s.bound) (sym found.carries.state) ∙ found.way

    own_now : own ≡ own_reply bound.1 (outcome_of bound.1 m.listener r) r
    own_now = own_is bound found_way ∙ ap (λ (o : Outcome). own_reply bound.1 o r) (came bound found_way)

    pub served_own : (reply : Reply) (new : Held) → own ≡ Some reply
        → ((bound : Numbered) → bound_in m ≡ Some bound → new ≡ replied_in bound (receipt_of bound.0 0 Own) (Some r) reply m)
        → IsAnswered reply_of c bound a true new
    served_own reply new some new_is =
        subst (λ (held : Held). IsAnswered reply_of c bound a true held) (sym (new_is bound found_way))
        (answered_own reply_of c bound a m (Answer.Request r) found r reply refl (sym own_now ∙ some))

    pub served_later : (p : Pending) → own ≡ None → ((bound : Numbered) → bound_in m ≡ Some bound → IsPendingBy bound.1 outcome p r)
        → IsAnswered reply_of c bound a false (record m { pending = Some p })
    served_later p none by =
        answered_later reply_of c bound a m (Answer.Request r) found r p refl (none_is bound.1 m.listener r (sym own_now ∙ none))
        (subst (λ (o : Outcome). IsPendingBy bound.1 o p r) (came bound found_way) (by bound found_way))

-- ---- one step, and all

module _ (reply_of : List ℕ → Request → Reply) (c : Connection) (current : Numbered) (a : Account) where
  pub settles_taken : (next : Next) (mid new : Held) (goes : Bool) → IsTaken reply_of c current a next mid
      → ((bound : Numbered) (b : Account) → IsFound reply_of c bound b next mid → IsAnswered reply_of c bound b goes new)
      → Settles reply_of c current a goes new
  settles_taken next mid new goes taken answers =
      let answered = answers taken.bound taken.account taken.found in
      record {
        account = answered.account;
        answer = λ n. taken.goes n ∙ answered.answer (settled c current n);
        stands = answered.stands;
        quiet = answered.quiet;
      }

  pub settles_none : (m : Held) → FindsFront reply_of c current a None m → Settles reply_of c current a false m
  settles_none m is = record {
    account = a;
    answer = is.1;
    stands = is.0.stands;
    quiet = λ goes going. is.0.quiet going;
  }

  -- nothing more is settled where it is closed, or a request waits
  pub settled_closed : (n : ℕ) → a.state.closed ≡ true → settled c current n a ≡ a
  unfolding settled
  settled_closed zero shut = refl
  settled_closed (suc n) shut = ap (λ b. if b then a else front_answer c current (settled c current n) a a.state.bound) shut

-- ---- one step, as calls tell it

pub settled_result : {E : Type 0} (reply_of : List ℕ → Request → Reply) (current : Numbered) (old mid new : Held) (next : Next) (o : Result Bool E)
    → ((c : Connection) (a : Account) → Stands reply_of c a old → IsTaken reply_of c current a next mid)
    → IfOk o (λ goes. (c : Connection) (bound : Numbered) (a : Account) → IsFound reply_of c bound a next mid → IsAnswered reply_of c bound a goes new)
    → IfOk o (λ goes. (c : Connection) (a : Account) → Stands reply_of c a old → Settles reply_of c current a goes new)
settled_result reply_of current old mid new next (Ok goes) taken answers =
    λ c a is. settles_taken reply_of c current a next mid new goes (taken c a is) (answers c)
settled_result reply_of current old mid new next (Err e) taken answers = tt
