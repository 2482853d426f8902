-- What a machine shows, by what it holds.
use Rattle.std.proofs.Common.{ℕ, ◌≡◌, ◌≢◌, refl, sym, ap, ◌∙◌, subst, List, length, drop, Bool, true, false, nat_lt, if◌then◌else◌, Option, Some, None, option_map}
use Rattle.std.specs.Option.{is_some}
use Rattle.unit_types.specs.declared.message.Reply.{Reply}
use Rattle.unit_types.specs.declared.message.Request.{Request}
use Rattle.conf_validate.specs.Configuration.{Configuration}
use Rattle.http_front.specs.Kept.{Kept}
use Rattle.http_front.specs.Message.{request_of}
use Rattle.http_front.specs.NextUnit.{request}
use Rattle.conn_machine.specs.declared.pending.Pending.{Pending}
use Rattle.conn_machine.specs.declared.receipt.Need.{Need}
use Rattle.conn_machine.specs.declared.receipt.Need.TheVariants.{Read, Ask, Write, Close}
use Rattle.conn_machine.specs.Answers.{Connection}
use Rattle.conn_machine.specs.Asking.{asked_of}
use Rattle.conn_machine.specs.Calls.{Account, wrote}
use Rattle.conn_machine.specs.Shows.{Held, bound_in, need_in, asking_in, timeout_by_pending, timeout_in_held, IsAsked, Fronts, IsQuiet, state_in, Shows}
use Rattle.conn_machine.specs.States.{Numbered, State, asked_by, asking_of, asks_by, by_bound, is_ask, need_of, need_under, timeout_by, timeout_of, unit_under}
use Rattle.conn_machine.specs.Steps.{shown}

some_none : {A : Type 0} (o : Option A) (x : A) → o ≡ None → o ≢ Some x
some_none o x first second = absurd (cc (sym first ∙ second))

true_false : (b : Bool) → b ≡ true → b ≢ false
true_false b first second = absurd (cc (sym first ∙ second))

else_alike : {A : Type 0} (b : Bool) (x y z : A) → (b ≡ false → y ≡ z) → (if b then x else y) ≡ (if b then x else z)
else_alike true x y z is = refl
else_alike false x y z is = is refl

then_alike : {A : Type 0} (b : Bool) (x y z : A) → (b ≡ true → x ≡ y) → (if b then x else z) ≡ (if b then y else z)
then_alike true x y z is = is refl
then_alike false x y z is = refl

-- ---- what it needs

-- the request that waits asks
asks_pending : (c : Connection) (s : State) (p : Pending) (reader : Kept) (front : IsAsked c s.unused s.ended s.bound p reader)
    → asks_by c front.bound.1 (unit_under front.bound.1 s).found ≡ true
asks_pending c s p reader front = ap (asks_by c front.bound.1) front.found ∙ front.pending.goes

pub front_need : (c : Connection) (s : State) (p : Option Pending) (reader : Kept) → Fronts c s p reader → IsQuiet c s p
    → (if is_some s.bound then (if is_some p then Ask else Read) else if s.ended then Close else Read) ≡ need_under c s s.bound
front_need c s (Some p) reader front quiet =
    ap (λ (o : Option Numbered). if is_some o then Ask else if s.ended then Close else Read) front.bound_is
    ∙ sym (ap (need_under c s) front.bound_is ∙ ap (λ asks. if asks then Ask else Read) (asks_pending c s p reader front))
front_need c s None reader front quiet = by s.bound refl
  where
    by : (o : Option Numbered) → s.bound ≡ o → (if is_some s.bound then Read else if s.ended then Close else Read) ≡ need_under c s s.bound
    by None is =
        ap (λ (o : Option Numbered). if is_some o then Read else if s.ended then Close else Read) is ∙ sym (ap (need_under c s) is)
    by (Some bound) is =
        ap (λ (o : Option Numbered). if is_some o then Read else if s.ended then Close else Read) is
        ∙ sym (ap (need_under c s) is ∙ ap (λ asks. if asks then Ask else Read) (quiet bound is))

-- it asks only where it is open, and a request is under way and waits
pub record Asks (m : Held) : Type 0 where
  pub going : m.closed ≡ false
  pub way : is_some (bound_in m) ≡ true
  pub waits : is_some m.pending ≡ true

pub asks_open : (m : Held) → need_in m ≡ Ask → Asks m
asks_open m asks = by m.given_up (nat_lt 0 (length m.out)) m.closed (is_some (bound_in m)) (is_some m.pending) m.ended refl refl refl asks
  where
    by : (up writes shut way waits over : Bool) → m.closed ≡ shut → is_some (bound_in m) ≡ way → is_some m.pending ≡ waits
        → (if up then Close else if writes then Write else if shut then Close else if way then (if waits then Ask else Read) else if over then Close else Read) ≡ Ask
        → Asks m
    by true writes shut way waits over going there some e = absurd (cc e)
    by false true shut way waits over going there some e = absurd (cc e)
    by false false true way waits over going there some e = absurd (cc e)
    by false false false true true over going there some e = record { going = going; way = there; waits = some }
    by false false false true false over going there some e = absurd (cc e)
    by false false false false waits true going there some e = absurd (cc e)
    by false false false false waits false going there some e = absurd (cc e)

pub met_there : (m : Held) → is_some (bound_in m) ≡ true → is_some m.met ≡ true
met_there m there = by m.is_under_way there
  where
    by : (b : Bool) → is_some (if b then m.met else None) ≡ true → is_some m.met ≡ true
    by true there = there
    by false there = absurd (cc there)

module _ (reply_of : List ℕ → Request → Reply) (c : Connection) (a : Account) (m : Held) (is : Shows reply_of c a m) where
  abbrev state : State
  state = state_in m a.state.unused a.state.told

  same : a.state ≡ state
  same = is.stands.carries.state

  front_now : m.closed ≡ false → Fronts c state m.pending m.reader
  front_now going = subst (λ (s : State). Fronts c s m.pending m.reader) same (is.stands.front going)

  quiet_now : m.closed ≡ false → IsQuiet c state m.pending
  quiet_now going = subst (λ (s : State). IsQuiet c s m.pending) same (is.quiet going)

  need_held : need_in m ≡ need_of c state
  need_held =
      else_alike m.given_up Close _ _ (λ kept.
      else_alike (nat_lt 0 (length m.out)) Write _ _ (λ shown.
      else_alike m.closed Close _ _ (λ going. front_need c state m.pending m.reader (front_now going) (quiet_now going))))

  pub need_shown : need_in m ≡ need_of c a.state
  need_shown = need_held ∙ sym (ap (need_of c) same)

  is_ask_is : (need : Need) → is_ask need ≡ true → need ≡ Ask
  is_ask_is Ask e = refl
  is_ask_is Read e = absurd (cc e)
  is_ask_is Write e = absurd (cc e)
  is_ask_is Close e = absurd (cc e)

  asked_front : (p : Option Pending) → is_some p ≡ true → Fronts c state p m.reader → option_map (λ (q : Pending). q.asks) p ≡ by_bound (asked_by c) state state.bound
  unfolding asked_of
  asked_front None e front = absurd (cc e)
  asked_front (Some p) e front =
      let found : (unit_under front.bound.1 state).found ≡ request front.message front.used = front.found in
      let q = request_of c.from c.to front.message in
      let pair : Some p.asks ≡ Some ((asked_of c front.bound.1 0 q).name, (asked_of c front.bound.1 0 q).request) = asked_pair p.asks front.bound.1 q front.pending.by.name front.pending.by.asked in
      sym (ap (by_bound (asked_by c) state) front.bound_is ∙ ap (asked_by c front.bound.1) found
      ∙ ap (λ goes. if goes then Some ((asked_of c front.bound.1 0 q).name, (asked_of c front.bound.1 0 q).request) else None) front.pending.goes ∙ sym pair)
    where
      asked_pair : (asks : List ℕ × Request) (conf : Configuration) (q : Request) → asks.0 ≡ (asked_of c conf 0 q).name → asks.1 ≡ (asked_of c conf 0 q).request
          → Some asks ≡ Some ((asked_of c conf 0 q).name, (asked_of c conf 0 q).request)
      asked_pair asks conf q first second = λ i. Some (first i, second i)

  pub asking_shown : asking_in m ≡ asking_of c a.state
  asking_shown =
      then_alike (is_ask (need_in m)) (option_map (λ (q : Pending). q.asks) m.pending) (by_bound (asked_by c) state state.bound) None (λ asks.
      let at = asks_open m (is_ask_is (need_in m) asks) in asked_front m.pending at.waits (front_now at.going))
      ∙ ap (λ need. if is_ask need then by_bound (asked_by c) state state.bound else None) need_held
      ∙ sym (ap (asking_of c) same)

  timeout_front : (p : Option Pending) → is_some p ≡ true → Fronts c state p m.reader → timeout_by_pending p ≡ by_bound (timeout_by c) state state.bound
  timeout_front None e front = absurd (cc e)
  timeout_front (Some p) e front =
      let found : (unit_under front.bound.1 state).found ≡ request front.message front.used = front.found in
      sym (ap (by_bound (timeout_by c) state) front.bound_is ∙ ap (timeout_by c front.bound.1) found ∙ sym front.pending.by.timeout)

  pub timeout_shown : timeout_in_held m ≡ timeout_of c a.state
  timeout_shown =
      then_alike (is_ask (need_in m)) (timeout_by_pending m.pending) (by_bound (timeout_by c) state state.bound) None (λ asks.
      let at = asks_open m (is_ask_is (need_in m) asks) in timeout_front m.pending at.waits (front_now at.going))
      ∙ ap (λ need. if is_ask need then by_bound (timeout_by c) state state.bound else None) need_held
      ∙ sym (ap (timeout_of c) same)

  -- ---- what is written, and how it is given up

  pub wrote_shown : (n : ℕ) → Shows reply_of c (wrote n a) (record m { out = drop n m.out })
  wrote_shown n = record {
    stands = record {
      carries = record {
        connection = is.stands.carries.connection;
        state = λ i. shown (drop n (same i).out) (same i);
        receipts = is.stands.carries.receipts;
        fresh = is.stands.carries.fresh;
        begun = is.stands.carries.begun;
        idle = is.stands.carries.idle;
      };
      front = is.stands.front;
    };
    quiet = is.quiet;
  }
