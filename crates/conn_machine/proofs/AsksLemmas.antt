-- What is left to be asked on a connection of one configuration: the replies of handlers take it away, one by one.
use Rattle.std.proofs.Common.{ℕ, zero, suc, ◌≡◌, ◌≢◌, ◌-◌, ◌≤◌, arith, refl, sym, ap, ◌∙◌, subst, List, [], ◌∷◌, ◌++◌, length, drop, Bool, true, false, ◌||◌, ◌==◌, ◌⊎◌, inl, inr, if◌then◌else◌, Option, Some, None, append-nil}
use Rattle.std.specs.List.{AllByRecursion}
use Rattle.unit_types.specs.declared.message.Request.{Request}
use Rattle.conf_validate.specs.Configuration.{Configuration}
use Rattle.conf_validate.specs.Kept.{IsKept}
use Rattle.header_rewrite.specs.Rewrite.{rewritten_of}
use Rattle.http_front.specs.Front.{head_begun}
use Rattle.http_front.specs.Message.{Message, is_last_request, request_of}
use Rattle.http_front.specs.NextUnit.{Found, request, bad, cut, finished, wait, NextUnit, next_unit}
use Rattle.http_front.specs.Session.{request_limit}
use Rattle.http_front.specs.Written.{error_reply}
use Rattle.request_context.specs.Record.{asked_with}
use Rattle.route_match.specs.Target.{outcome_of, target_of}
use Rattle.conn_machine.specs.declared.receipt.Kind.TheVariants.{App, Cut, Own}
use Rattle.conn_machine.specs.declared.receipt.Need.TheVariants.{Close}
use Rattle.conn_machine.specs.Answers.{Connection, closes, reply_to}
use Rattle.conn_machine.specs.Asking.{asked_of, handler_in, is_app}
use Rattle.conn_machine.specs.Asks.{asks_for, asks_from, asks_left, asks_of, found_asks}
use Rattle.conn_machine.specs.Calls.{Account, closed_with, found_at, front_answer, on_bytes, on_end, opened, own_answer, replied_with, settled, taken_with}
use Rattle.conn_machine.specs.One.{IsServedByOne, after_reply}
use Rattle.conn_machine.specs.Records.{HasShortRecord, rewritten_record_limit}
use Rattle.conn_machine.specs.States.{Numbered, asked_by, asking_of, by_bound, is_ask, need_of, unit_under}
use Rattle.conn_machine.specs.Steps.{at_end, fed}
use Rattle.conn_machine.specs.Turns.{receipt_of}
use Rattle.conn_machine.proofs.CallLemmas.{more_low}
use Rattle.conn_machine.proofs.EndLemmas.{still}
use Rattle.conn_machine.proofs.FrontLaws.{unbegun_idle}
use Rattle.conn_machine.proofs.OneLemmas.{closes_at}
use Rattle.conn_machine.proofs.PlainLemmas.{same_close}
use Rattle.conn_machine.proofs.RecordLemmas.{RewrittenIsShort}
use Rattle.conn_machine.proofs.UnitLaws.{UnitLaws, unit_goes}

-- ---- the walk

abbrev Ask : Type 0
Ask = List ℕ × Request

-- what is asked of a request that goes to an application
abbrev ask_of : Connection → Configuration → Request → Ask
ask_of c conf r =
    let outcome = outcome_of conf c.listener r in (handler_in conf outcome.target, rewritten_of conf outcome.step r)

-- the rest behind a request
abbrev behind_request : Connection → Configuration → ℕ → List ℕ → Request → List Ask
behind_request c conf left bytes r = if closes (Some r) left then [] else asks_from c conf (left - 1) bytes

request_asks : (c : Connection) (conf : Configuration) (left : ℕ) (bytes : List ℕ) (m : Message) (used : ℕ) → 1 ≤ left
    → (next_unit bytes true conf.max_body).found ≡ request m used
    → asks_from c conf left bytes
    ≡ asks_for c conf (request_of c.from c.to m) ++ behind_request c conf left (drop used bytes) (request_of c.from c.to m)
unfolding asks_from
request_asks c conf zero bytes m used low is = absurd (omega (arith, low))
request_asks c conf (suc left) bytes m used low is =
    let r = request_of c.from c.to m in
    let one_less : suc left - 1 ≡ left = omega arith in
    ap (found_asks c conf left bytes (asks_from c conf left)) is
    ∙ (λ i. asks_for c conf r ++ (if sym (same_close r left) i then [] else asks_from c conf (sym one_less i) (drop used bytes)))

-- what is asked of a request is what the walk has for it
if_some : {X : Type 0} (b : Bool) (o : Option X) (x : X) → (if b then o else None) ≡ Some x → o ≡ Some x
if_some true o x is = is
if_some false o x is = absurd (cc is)

if_one : {X : Type 0} (b : Bool) (one x : X) → (if b then Some one else None) ≡ Some x → (if b then one ∷ [] else []) ≡ x ∷ []
if_one true one x is = let same : one ≡ x = cc is in ap (λ y. y ∷ []) same
if_one false one x is = absurd (cc is)

asked_first : (c : Connection) (conf : Configuration) (m : Message) (used : ℕ) (asked : Ask) → asked_by c conf (request m used) ≡ Some asked
    → asks_for c conf (request_of c.from c.to m) ≡ asked ∷ []
unfolding asked_of
asked_first c conf m used asked is =
    let r = request_of c.from c.to m in if_one (is_app (target_of conf c.listener r)) (ask_of c conf r) asked is

-- what is no request ends the walk
none_asks : (c : Connection) (conf : Configuration) (left : ℕ) (bytes : List ℕ) (found : Found) → (next_unit bytes true conf.max_body).found ≡ found
    → ((left : ℕ) (rest : List ℕ → List Ask) → found_asks c conf left bytes rest found ≡ []) → asks_from c conf left bytes ≡ []
unfolding asks_from
none_asks c conf zero bytes found is none = refl
none_asks c conf (suc left) bytes found is none = ap (found_asks c conf left bytes (asks_from c conf left)) is ∙ none left (asks_from c conf left)

-- what was found before the end of the input is found behind it
found_over : (laws : UnitLaws) (bytes : List ℕ) (ended : Bool) (limit : ℕ) (found : Found) → found ≢ wait → (next_unit bytes ended limit).found ≡ found
    → (next_unit bytes true limit).found ≡ found
found_over laws bytes ended limit found told is =
    ap (λ all. (next_unit all true limit).found) (sym (append-nil bytes))
    ∙ ap (λ (unit : NextUnit). unit.found) (unit_goes laws bytes [] ended true limit (λ e. refl) (λ e. refl) (λ waits. told (sym is ∙ waits)))
    ∙ is

-- ---- settling

-- so it is left, and any request under way is so under this configuration
record IsLeft (c : Connection) (current : Numbered) (todo : List Ask) (a : Account) : Type 0 where
  bound : (bound : Numbered) → a.state.bound ≡ Some bound → bound ≡ current
  more : a.state.closed ≡ false → 1 ≤ a.state.left
  left : asks_left c current a ≡ todo

open_left : (c : Connection) (current : Numbered) (a : Account) → a.state.closed ≡ false → asks_left c current a ≡ asks_from c current.1 a.state.left a.state.unused
open_left c current a goes_on = ap (λ b. if b then [] else asks_from c current.1 a.state.left a.state.unused) goes_on

closed_left : (c : Connection) (current : Numbered) (a : Account) → a.state.closed ≡ true → asks_left c current a ≡ []
closed_left c current a closed = ap (λ b. if b then [] else asks_from c current.1 a.state.left a.state.unused) closed

module _ (laws : UnitLaws) (c : Connection) (current : Numbered) (todo : List Ask) where
  -- a closed connection asks nothing
  shut_left : (a : Account) → a.state.closed ≡ true → a.state.bound ≡ None → todo ≡ [] → IsLeft c current todo a
  shut_left a closed free none = record {
    bound = λ other way. absurd (cc (sym free ∙ way));
    more = λ goes_on. absurd (cc (sym closed ∙ goes_on));
    left = closed_left c current a closed ∙ sym none;
  }

  module _ (a : Account) (is : IsLeft c current todo a) (goes_on : a.state.closed ≡ false) where
    from_front : todo ≡ asks_from c current.1 a.state.left a.state.unused
    from_front = sym is.left ∙ open_left c current a goes_on

    none_left : (found : Found) → found ≢ wait → found_at current a ≡ found
        → ((left : ℕ) (rest : List ℕ → List Ask) → found_asks c current.1 left a.state.unused rest found ≡ []) → todo ≡ []
    none_left found told is none =
        from_front ∙ none_asks c current.1 a.state.left a.state.unused found
        (found_over laws a.state.unused a.state.ended current.1.max_body found told is) none

    own_left : (rest : Account → Account) → ((b : Account) → IsLeft c current todo b → IsLeft c current todo (rest b))
        → (found : Found) → found_at current a ≡ found → IsLeft c current todo (own_answer c current rest a found)
    own_left rest next (request m used) found = by (is_app (target_of current.1 c.listener (request_of c.from c.to m))) refl
      where
        r : Request
        r = request_of c.from c.to m

        by : (asks : Bool) → is_app (target_of current.1 c.listener r) ≡ asks
            → IsLeft c current todo (if asks then a else rest (replied_with c current (receipt_of current.0 0 Own) (Some r) (reply_to c current.1 r) used a))
        by true asks = is
        by false asks =
            let nothing : asks_for c current.1 r ≡ [] = ap (λ b. if b then ask_of c current.1 r ∷ [] else []) asks in
            let over = found_over laws a.state.unused a.state.ended current.1.max_body (request m used) (λ e. cc) found in
            next (replied_with c current (receipt_of current.0 0 Own) (Some r) (reply_to c current.1 r) used a)
            (record {
              bound = λ other none. absurd (cc none);
              more = λ still. more_low (Some r) a.state.left still;
              left = sym (from_front ∙ request_asks c current.1 a.state.left a.state.unused m used (is.more goes_on) over
                  ∙ ap (λ asks. asks ++ behind_request c current.1 a.state.left (drop used a.state.unused) r) nothing);
            })
    own_left rest next (bad status) found =
        shut_left (replied_with c current (receipt_of current.0 0 Own) None (error_reply status) 0 a) refl refl
        (none_left (bad status) (λ e. cc) found (λ left rest. refl))
    own_left rest next cut found =
        shut_left (closed_with current (receipt_of current.0 0 Cut) a) refl refl (none_left cut (λ e. cc) found (λ left rest. refl))
    own_left rest next finished found = is
    own_left rest next wait found = is

  settled_asks : (n : ℕ) (a : Account) → IsLeft c current todo a → IsLeft c current todo (settled c current n a)
  unfolding settled
  settled_asks zero a is = is
  settled_asks (suc n) a is = by_closed (λ b q. settled_asks n b q) a.state.closed refl
    where
      at_front : ((b : Account) → IsLeft c current todo b → IsLeft c current todo (settled c current n b)) → a.state.closed ≡ false
          → (o : Option Numbered) → a.state.bound ≡ o → IsLeft c current todo (front_answer c current (settled c current n) a o)
      at_front next goes_on (Some bound) way =
          subst (λ (b : Numbered). IsLeft c current todo (own_answer c b (settled c current n) a (found_at b a))) (sym (is.bound bound way))
          (own_left a is goes_on (settled c current n) next (found_at current a) refl)
      at_front next goes_on None free = by_begun (head_begun a.state.unused)
        where
          taken : IsLeft c current todo (taken_with current a)
          taken = record { bound = λ other way. let same : current ≡ other = cc way in sym same; more = is.more; left = is.left }

          by_begun : (begun : Bool)
              → IsLeft c current todo (if begun then own_answer c current (settled c current n) (taken_with current a) (found_at current (taken_with current a)) else a)
          by_begun true = own_left (taken_with current a) taken goes_on (settled c current n) next (found_at current (taken_with current a)) refl
          by_begun false = is

      by_closed : ((b : Account) → IsLeft c current todo b → IsLeft c current todo (settled c current n b)) → (closed : Bool) → a.state.closed ≡ closed
          → IsLeft c current todo (if closed then a else front_answer c current (settled c current n) a a.state.bound)
      by_closed next true closed = is
      by_closed next false goes_on = at_front next goes_on a.state.bound refl

-- ---- the calls

module _ (laws : UnitLaws) (c : Connection) (current : Numbered) where
  pub asks_begin : (bytes : List ℕ) → asks_left c current (on_end c current (on_bytes c current bytes opened)) ≡ asks_of c current.1 bytes
  asks_begin bytes =
      let todo = asks_of c current.1 bytes in
      let came = settled_asks laws c current todo request_limit (record { told = record opened.told { bytes = opened.told.bytes ++ bytes }; state = fed opened.state bytes })
      (record { bound = λ bound none. absurd (cc none); more = λ goes_on. omega arith; left = refl }) in
      let fed_account = on_bytes c current bytes opened in
      (settled_asks laws c current todo request_limit (record { told = fed_account.told; state = at_end fed_account.state })
      (record { bound = came.bound; more = came.more; left = came.left })).left

  module _ (bytes written : List ℕ) (a : Account) (served : IsServedByOne c current bytes written a) where
    pub asks_replied : (bound : Numbered) (asked : Ask) (stream : ℕ) (m : Message) (used : ℕ) → asking_of c a.state ≡ Some asked
        → a.state.bound ≡ Some bound → (unit_under bound.1 a.state).found ≡ request m used
        → asks_left c current a ≡ asked ∷ asks_left c current (after_reply c current bound a stream m used)
    asks_replied bound asked stream m used asking way found =
        open_left c current a goes_on
        ∙ request_asks c current.1 a.state.left a.state.unused m used (served.sound.more goes_on)
        (found_over laws a.state.unused a.state.ended current.1.max_body (request m used) (λ e. cc) found_now)
        ∙ ap (λ asks. asks ++ rest) (asked_first c current.1 m used asked asked_found)
        ∙ ap (λ asks. asked ∷ asks) (sym settles.left)
      where
        r : Request
        r = request_of c.from c.to m

        rest : List Ask
        rest = behind_request c current.1 a.state.left (drop used a.state.unused) r

        goes_on : a.state.closed ≡ false
        goes_on = still c a.state bound served.sound.settled way

        bound_is : bound ≡ current
        bound_is = served.under.bound bound way

        found_now : (unit_under current.1 a.state).found ≡ request m used
        found_now = subst (λ (b : Numbered). (unit_under b.1 a.state).found ≡ request m used) bound_is found

        settles : IsLeft c current rest (after_reply c current bound a stream m used)
        settles =
            settled_asks laws c current rest request_limit (replied_with c bound (receipt_of bound.0 stream App) (Some r) (reply_to c bound.1 r) used a)
            (record { bound = λ other none. absurd (cc none); more = λ still. more_low (Some r) a.state.left still; left = refl })

        -- something is asked of what is found
        asked_found : asked_by c current.1 (request m used) ≡ Some asked
        asked_found =
            sym (ap (asked_by c current.1) found_now) ∙ sym (ap (λ (b : Numbered). asked_by c b.1 (unit_under b.1 a.state).found) bound_is)
            ∙ sym (ap (by_bound (asked_by c) a.state) way) ∙ if_some (is_ask (need_of c a.state)) (by_bound (asked_by c) a.state a.state.bound) asked asking

    pub asks_over : need_of c a.state ≡ Close → asks_left c current a ≡ []
    asks_over need = by a.state.closed refl
      where
        by_idle : (((next_unit a.state.unused true current.1.max_body).found ≡ finished) ⊎ ((next_unit a.state.unused true current.1.max_body).found ≡ cut))
            → asks_from c current.1 a.state.left a.state.unused ≡ []
        by_idle (inl is) = none_asks c current.1 a.state.left a.state.unused finished is (λ left rest. refl)
        by_idle (inr is) = none_asks c current.1 a.state.left a.state.unused cut is (λ left rest. refl)

        by : (closed : Bool) → a.state.closed ≡ closed → asks_left c current a ≡ []
        by true closed = closed_left c current a closed
        by false goes_on =
            let free = (closes_at c a.state served.sound.settled served.under.stays_up need).1 in
            open_left c current a goes_on
            ∙ by_idle (unbegun_idle a.state.unused current.1.max_body (served.sound.settled.begun goes_on free)).1

-- ---- how many they are, and how long

module _ (c : Connection) (conf : Configuration) where
  -- what stands where the walk goes on
  module _ (P : List Ask → Type 0) (none : P []) where
    rest_holds : (close : Bool) (rest : List Ask) → P rest → P (if close then [] else rest)
    rest_holds true rest holds = none
    rest_holds false rest holds = holds

  one_few : (b : Bool) (x : Ask) (rest : List Ask) (n : ℕ) → length rest ≤ n → length ((if b then x ∷ [] else []) ++ rest) ≤ suc n
  one_few true x rest n low = omega (arith, low)
  one_few false x rest n low = omega (arith, low)

  pub few_asks : (left : ℕ) (bytes : List ℕ) → length (asks_from c conf left bytes) ≤ left
  unfolding asks_from
  few_asks zero bytes = omega arith
  few_asks (suc left) bytes = by (λ rest. few_asks left rest) (next_unit bytes true conf.max_body).found
    where
      by : ((rest : List ℕ) → length (asks_from c conf left rest) ≤ left) → (found : Found)
          → length (found_asks c conf left bytes (asks_from c conf left) found) ≤ suc left
      by few (request m used) =
          let r = request_of c.from c.to m in
          let close = is_last_request r || left == 0 in
          one_few (is_app (target_of conf c.listener r)) (ask_of c conf r)
          (if close then [] else asks_from c conf left (drop used bytes)) left
          (rest_holds (λ asks. length asks ≤ left) (omega arith) close (asks_from c conf left (drop used bytes)) (few (drop used bytes)))
      by few (bad status) = omega arith
      by few cut = omega arith
      by few finished = omega arith
      by few wait = omega arith

  -- it can be written as a short record
  abbrev IsShortAsk : ℕ → Ask → Type 0
  IsShortAsk stream asked = HasShortRecord rewritten_record_limit (asked_with stream asked.0 asked.1)

  one_short : (stream : ℕ) (b : Bool) (x : Ask) (rest : List Ask) → IsShortAsk stream x → AllByRecursion (IsShortAsk stream) rest
      → AllByRecursion (IsShortAsk stream) ((if b then x ∷ [] else []) ++ rest)
  one_short stream true x rest short all = (short, all)
  one_short stream false x rest short all = all

  module _ (rewritten : RewrittenIsShort) (kept : IsKept conf) (stream : ℕ) where
    found_short : (bytes : List ℕ) (m : Message) (used : ℕ) → (next_unit bytes true conf.max_body).found ≡ request m used
        → IsShortAsk stream (ask_of c conf (request_of c.from c.to m))
    unfolding asked_of
    found_short bytes m used is = rewritten c conf bytes true m used stream kept is

    pub short_asks : (left : ℕ) (bytes : List ℕ) → AllByRecursion (IsShortAsk stream) (asks_from c conf left bytes)
    unfolding asks_from
    short_asks zero bytes = tt
    short_asks (suc left) bytes = by (λ rest. short_asks left rest) (next_unit bytes true conf.max_body).found refl
      where
        by : ((rest : List ℕ) → AllByRecursion (IsShortAsk stream) (asks_from c conf left rest)) → (found : Found) → (next_unit bytes true conf.max_body).found ≡ found
            → AllByRecursion (IsShortAsk stream) (found_asks c conf left bytes (asks_from c conf left) found)
        by short (request m used) is =
            let r = request_of c.from c.to m in
            let close = is_last_request r || left == 0 in
            one_short stream (is_app (target_of conf c.listener r)) (ask_of c conf r)
            (if close then [] else asks_from c conf left (drop used bytes)) (found_short bytes m used is)
            (rest_holds (AllByRecursion (IsShortAsk stream)) tt close (asks_from c conf left (drop used bytes)) (short (drop used bytes)))
        by short (bad status) is = tt
        by short cut is = tt
        by short finished is = tt
        by short wait is = tt
