-- A machine that is served by handlers: what it shows and asks.
use Rattle.std.proofs.Common.{ℕ, ◌≡◌, ◌<◌, ◌≤◌, refl, sym, ap, ◌∙◌, subst, arith, List, [], ◌∷◌, ◌++◌, length, take, drop, Bool, true, false, if◌then◌else◌, Option, Some, None, option_map}
use Rattle.std.proofs.lemmas.List.{drop_all, take_all}
use Rattle.std.specs.Option.{is_some}
use Rattle.unit_types.specs.declared.message.Reply.{Reply}
use Rattle.unit_types.specs.declared.message.Request.{Request}
use Rattle.conn_machine.specs.declared.pending.Pending.{Pending}
use Rattle.http_front.specs.Message.{Message}
use Rattle.http_front.specs.NextUnit.{Found, request, bad, cut, finished, wait}
use Rattle.request_context.specs.Record.{request_record}
use Rattle.request_context.specs.declared.asked.Asked.{Asked as AskedValue}
use Rattle.conn_machine.specs.declared.receipt.Kind.TheVariants.{App}
use Rattle.conn_machine.specs.declared.receipt.Need.{Need}
use Rattle.conn_machine.specs.declared.receipt.Need.TheVariants.{Ask, Close, Read, Write}
use Rattle.conn_machine.specs.Answers.{Connection, reply_to}
use Rattle.conn_machine.specs.Asks.{asks_left}
use Rattle.conn_machine.specs.Calls.{Account, wrote}
use Rattle.conn_machine.specs.One.{IsServedByOne, after_reply}
use Rattle.conn_machine.specs.Records.{HasShortRecord, record_limit}
use Rattle.conn_machine.specs.Replying.{IsReplied}
use Rattle.conn_machine.specs.Shows.{Held, IsAfter, Shows, asking_in, need_in}
use Rattle.conn_machine.specs.States.{Numbered, State, asked_by, asking_of, by_bound, is_ask, need_of, unit_under}
use Rattle.plain_fabric.specs.Plains.{PlainValue}
use Rattle.unit_top.specs.Connections.{HasServed, IsServing, output_of}
use Rattle.unit_top.specs.Posting.{Asked, Asking, HasPosted}
use Rattle.unit_top.specs.declared.fabric.Output.TheVariants.{Steps}

-- a configuration may come again
pub again : (current : Numbered) → IsAfter (Some current) current
again current m is =
    let same : current ≡ m = cc is in (subst (λ (x : Numbered). x.0 ≤ current.0) same (omega arith), λ e. sym same)

pub shown : (reply_of : List ℕ → Request → Reply) (c : Connection) (a : Account) (m : Held) → Shows reply_of c a m → a.state.out ≡ m.out
shown reply_of c a m shows = ap (λ (s : State). s.out) shows.stands.carries.state

pub left_is : (reply_of : List ℕ → Request → Reply) (c : Connection) (a : Account) (m : Held) → Shows reply_of c a m → a.state.left ≡ m.left
left_is reply_of c a m shows = ap (λ (s : State). s.left) shows.stands.carries.state

-- once all is written that is shown, nothing is left to show
module _ (c : Connection) (current : Numbered) (bytes out new : List ℕ) (a : Account) (m : Held) (same : a.state.out ≡ m.out) where
  pub passed : new ≡ out ++ m.out → IsServedByOne c current bytes (out ++ take (length m.out) a.state.out) (wrote (length m.out) a)
      → IsServedByOne c current bytes new (wrote (length m.out) a)
  passed is served =
      let all : take (length m.out) a.state.out ≡ m.out = ap (take (length m.out)) same ∙ take_all (length m.out) m.out (omega arith) in
      subst (λ (written : List ℕ). IsServedByOne c current bytes written (wrote (length m.out) a)) (ap (λ (x : List ℕ). out ++ x) all ∙ sym is) served

  pub nothing_left : (wrote (length m.out) a).state.out ≡ []
  nothing_left = ap (drop (length m.out)) same ∙ drop_all (length m.out) m.out (omega arith)

-- something is asked exactly where a reply is needed
pub ask_needed : (need : Need) → is_ask need ≡ true → need ≡ Ask
ask_needed Ask is = refl
ask_needed Read is = absurd (cc is)
ask_needed Write is = absurd (cc is)
ask_needed Close is = absurd (cc is)

pub asked_needs : (m : Held) (asked : List ℕ × Request) → asking_in m ≡ Some asked → need_in m ≡ Ask
asked_needs m asked is = by (need_in m) refl
  where
    by : (need : Need) → need_in m ≡ need → need_in m ≡ Ask
    by Ask needs = needs
    by Read needs = absurd (cc (ap (λ n. if is_ask n then option_map (λ (p : Pending). p.asks) m.pending else None) (sym needs) ∙ is))
    by Write needs = absurd (cc (ap (λ n. if is_ask n then option_map (λ (p : Pending). p.asks) m.pending else None) (sym needs) ∙ is))
    by Close needs = absurd (cc (ap (λ n. if is_ask n then option_map (λ (p : Pending). p.asks) m.pending else None) (sym needs) ∙ is))

-- the request under way is a message, found at the front of the bytes
pub record IsFound (s : State) : Type 0 where
  bound : Numbered
  message : Message
  used : ℕ
  way : s.bound ≡ Some bound
  found : (unit_under bound.1 s).found ≡ request message used

pub asked_found : (c : Connection) (s : State) (asked : List ℕ × Request) → asking_of c s ≡ Some asked → IsFound s
asked_found c s asked is = by_bound_way s.bound refl (if_asked (is_ask (need_of c s)) is)
  where
    if_asked : (b : Bool) → (if b then by_bound (asked_by c) s s.bound else None) ≡ Some asked → by_bound (asked_by c) s s.bound ≡ Some asked
    if_asked true e = e
    if_asked false e = absurd (cc e)

    by_front : (bound : Numbered) (f : Found) → s.bound ≡ Some bound → (unit_under bound.1 s).found ≡ f → asked_by c bound.1 f ≡ Some asked → IsFound s
    by_front bound (request m used) way found e = record { bound = bound; message = m; used = used; way = way; found = found }
    by_front bound (bad status) way found e = absurd (cc e)
    by_front bound cut way found e = absurd (cc e)
    by_front bound finished way found e = absurd (cc e)
    by_front bound wait way found e = absurd (cc e)

    by_bound_way : (o : Option Numbered) → s.bound ≡ o → by_bound (asked_by c) s o ≡ Some asked → IsFound s
    by_bound_way None way e = absurd (cc e)
    by_bound_way (Some bound) way e = by_front bound (unit_under bound.1 s).found way refl e

-- its record fits one segment
pub fits_segment : (rewrite : Option (List ℕ)) (asked : AskedValue) → HasShortRecord (record_limit rewrite) asked → length (request_record asked) ≤ 10485760
fits_segment None asked short = omega (arith, short.size)
fits_segment (Some text) asked short = omega (arith, short.size)

-- ---- one reply more

-- the laws of a connection under one configuration that are used here
pub record OneLaws : Type 0 where
  pub replied : (c : Connection) (current bound : Numbered) (bytes written : List ℕ) (a : Account) (stream : ℕ) (m : Message) (used : ℕ)
      → IsServedByOne c current bytes written a → 0 < stream → need_of c a.state ≡ Ask → a.state.bound ≡ Some bound
      → (unit_under bound.1 a.state).found ≡ request m used
      → IsServedByOne c current bytes written (after_reply c current bound a stream m used) × ((after_reply c current bound a stream m used).state.left < a.state.left)
  pub writes : (c : Connection) (current : Numbered) (bytes written : List ℕ) (a : Account) (n : ℕ)
      → IsServedByOne c current bytes written a → IsServedByOne c current bytes (written ++ take n a.state.out) (wrote n a)
  pub closes : (c : Connection) (current : Numbered) (bytes written : List ℕ) (a : Account)
      → IsServedByOne c current bytes written a → a.state.out ≡ [] → asking_of c a.state ≡ None → need_of c a.state ≡ Close
  pub ends : (c : Connection) (current : Numbered) (bytes written : List ℕ) (a : Account)
      → IsServedByOne c current bytes written a → need_of c a.state ≡ Close → written ≡ output_of c current.1 bytes
  pub asks : (c : Connection) (s : State) → is_some (asking_of c s) ≡ is_ask (need_of c s)

-- and those on what is asked
pub record AskLaws : Type 0 where
  pub asked : (c : Connection) (current bound : Numbered) (bytes written : List ℕ) (a : Account) (asked : List ℕ × Request) (stream : ℕ) (m : Message) (used : ℕ)
      → IsServedByOne c current bytes written a → asking_of c a.state ≡ Some asked → a.state.bound ≡ Some bound → (unit_under bound.1 a.state).found ≡ request m used
      → asks_left c current a ≡ asked ∷ asks_left c current (after_reply c current bound a stream m used)
  pub stay : (c : Connection) (current : Numbered) (a : Account) (n : ℕ) → asks_left c current (wrote n a) ≡ asks_left c current a
  pub none : (c : Connection) (current : Numbered) (bytes written : List ℕ) (a : Account)
      → IsServedByOne c current bytes written a → a.state.out ≡ [] → asking_of c a.state ≡ None → asks_left c current a ≡ []

module _ (laws : OneLaws) (ask_laws : AskLaws) (reply_of : List ℕ → Request → Reply) (c : Connection) (current : Numbered) (bytes out new : List ℕ) (asks : List Asking) (before m : Held)
    (all : new ≡ out ++ before.out)
    (goes : (c : Connection) (a : Account) → Shows reply_of c a before → Shows reply_of c (wrote (length before.out) a) m)
    (asking : (c : Connection) (a : Account) → Shows reply_of c a m → asking_in m ≡ asking_of c a.state)
    (serving : IsServing reply_of c current bytes out asks before) where
  now : Shows reply_of c (wrote (length before.out) serving.account) m
  now = goes c serving.account serving.shows

  served : IsServedByOne c current bytes new (wrote (length before.out) serving.account)
  served =
      passed c current bytes out new serving.account before (shown reply_of c serving.account before serving.shows) all
      (laws.writes c current bytes out serving.account (length before.out) serving.served)

  left : asks ≡ asks_left c current (wrote (length before.out) serving.account)
  left = sym serving.left ∙ sym (ask_laws.stay c current serving.account (length before.out))

  -- nothing is asked
  pub none_left : asking_in m ≡ None → asks ≡ []
  none_left none =
      let a = wrote (length before.out) serving.account in
      left ∙ ask_laws.none c current bytes new a served
      (nothing_left c current bytes out new serving.account before (shown reply_of c serving.account before serving.shows))
      (sym (asking c a now) ∙ none)

  -- what is asked is the first of what is left
  pub first_left : (asked : List ℕ × Request) → asking_in m ≡ Some asked → take 1 asks ≡ asked ∷ []
  first_left asked is =
      let a = wrote (length before.out) serving.account in
      let is_asked : asking_of c a.state ≡ Some asked = sym (asking c a now) ∙ is in
      let f = asked_found c a.state asked is_asked in
      ap (take 1) (left ∙ ask_laws.asked c current f.bound bytes new a asked 1 f.message f.used served is_asked f.way f.found)

  pub over : asking_in m ≡ None → new ≡ output_of c current.1 bytes
  over none =
      let a = wrote (length before.out) serving.account in
      laws.ends c current bytes new a served
      (laws.closes c current bytes new a served
      (nothing_left c current bytes out new serving.account before (shown reply_of c serving.account before serving.shows))
      (sym (asking c a now) ∙ none))

  -- what is asked got its reply
  pub replied : (asked : List ℕ × Request) (pending : Option Pending) (stream : ℕ) (after : Held) (fabric plain : PlainValue) → 0 < stream → asking_in m ≡ Some asked
      → ((c : Connection) (a : Account) → Shows reply_of c a m → IsReplied reply_of c current a pending stream App reply_to after)
      → HasPosted Steps reply_of (Asked asked ∷ []) fabric plain
      → HasServed reply_of c current bytes new asks before after fabric plain
  replied asked pending stream after fabric plain drawn is reply posted =
      let a = wrote (length before.out) serving.account in
      let is_asked : asking_of c a.state ≡ Some asked = sym (asking c a now) ∙ is in
      let needs : need_of c a.state ≡ Ask = ask_needed (need_of c a.state) (sym (laws.asks c a.state) ∙ ap is_some is_asked) in
      let r = reply c a now in
      let behind = after_reply c current r.bound a stream r.message r.used in
      let step = laws.replied c current r.bound bytes new a stream r.message r.used served drawn needs r.way r.found in
      let last = left_is reply_of c behind after r.shows in
      let first = left_is reply_of c serving.account before serving.shows in
      record {
        asked = asked;
        more = asks_left c current behind;
        first = left ∙ ask_laws.asked c current r.bound bytes new a asked stream r.message r.used served is_asked r.way r.found;
        serving = record { account = behind; shows = r.shows; served = step.0; left = refl };
        fewer = less behind.state.left serving.account.state.left after.left before.left last first step.1;
        posted = posted;
      }
    where
      less : (m n k l : ℕ) → m ≡ k → n ≡ l → m < n → k < l
      less m n k l first second low = omega (arith, first, second, low)
