-- Under one configuration, the calls on a connection keep to it, and what is written in the end is its plain session.
use Rattle.std.proofs.Common.{ℕ, zero, suc, ◌≡◌, ◌≢◌, ◌<◌, ◌≤◌, ◌-◌, arith, refl, sym, ap, ◌∙◌, subst, List, [], ◌∷◌, ◌++◌, length, take, Bool, true, false, ◌||◌, nat_lt, if◌then◌else◌, Option, Some, None, slice_get, append-nil}
use Rattle.std.specs.Option.{is_some}
use Rattle.unit_types.specs.declared.message.Reply.{Reply}
use Rattle.unit_types.specs.declared.message.Request.{Request}
use Rattle.conf_validate.specs.Configuration.{Configuration}
use Rattle.route_match.specs.Target.{target_of}
use Rattle.http_front.specs.Front.{head_begun}
use Rattle.http_front.specs.Message.{Message, request_of}
use Rattle.http_front.specs.NextUnit.{Found, request, bad, cut, finished, wait, next_unit}
use Rattle.http_front.specs.Session.{Session, plain_session_of, request_limit}
use Rattle.http_front.specs.Written.{error_reply}
use Rattle.conn_machine.specs.declared.receipt.Kind.TheVariants.{App, Cut, Own}
use Rattle.conn_machine.specs.declared.receipt.Need.{Need}
use Rattle.conn_machine.specs.declared.receipt.Need.TheVariants.{Read, Ask, Write, Close}
use Rattle.conn_machine.specs.declared.receipt.Receipt.{Receipt}
use Rattle.conn_machine.specs.Answers.{Connection, reply_to}
use Rattle.conn_machine.specs.Asking.{is_app}
use Rattle.conn_machine.specs.Calls.{Account, Reaches, closed_with, found_at, front_answer, on_bytes, on_end, opened, own_answer, replied_with, settled, taken_with, wrote}
use Rattle.conn_machine.specs.Laws.{ArePlain, is_plain_kind, plain_connection}
use Rattle.conn_machine.specs.One.{AreGiven, IsServedByOne, IsUnderOne, after_reply}
use Rattle.conn_machine.specs.Sessions.{session_of}
use Rattle.conn_machine.specs.States.{Agrees, Given, IsSettled, Numbered, State, asking_of, asks_by, counted, has_given, is_ask, need_of, need_under, unit_under}
use Rattle.conn_machine.specs.Steps.{at_end, fed}
use Rattle.conn_machine.specs.Turns.{receipt_of, turn_of}
use Rattle.conn_machine.proofs.CallLemmas.{answer_sound, bytes_sound, end_sound, opened_sound, wrote_sound}
use Rattle.conn_machine.proofs.EndLemmas.{need_bare, session_now}
use Rattle.conn_machine.proofs.NamedTurns.{app_is}
use Rattle.conn_machine.proofs.NeedLemmas.{ask_if, asking_now, if_false, open_need, reads_now}
use Rattle.conn_machine.proofs.PlainLemmas.{session_plain}
use Rattle.conn_machine.proofs.UnitLaws.{UnitLaws}

-- ---- all that the server answers itself

-- what its replies, its ends without one and complete heads keep
pub record Keeps (P : Account → Type 0) (c : Connection) (current : Numbered) : Type 0 where
  pub reply : (bound : Numbered) (receipt : Receipt) (asked : Option Request) (reply : Reply) (used : ℕ) (a : Account) → P a → a.state.bound ≡ Some bound
      → receipt.conf ≡ bound.0 → is_plain_kind receipt.kind ≡ true → P (replied_with c bound receipt asked reply used a)
  pub close : (bound : Numbered) (receipt : Receipt) (a : Account) → P a → a.state.bound ≡ Some bound
      → receipt.conf ≡ bound.0 → is_plain_kind receipt.kind ≡ true → P (closed_with bound receipt a)
  pub head : (a : Account) → P a → P (taken_with current a)

module _ (P : Account → Type 0) (c : Connection) (current : Numbered) (keeps : Keeps P c current) where
  own_keeps : (rest : Account → Account) → ((b : Account) → P b → P (rest b)) → (bound : Numbered) (a : Account) → P a → a.state.bound ≡ Some bound
      → (found : Found) → P (own_answer c bound rest a found)
  own_keeps rest next bound a p way (request m used) = by (is_app (target_of bound.1 c.listener (request_of c.from c.to m)))
    where
      by : (asks : Bool) → P (if asks then a else rest (replied_with c bound (receipt_of bound.0 0 Own) (Some (request_of c.from c.to m)) (reply_to c bound.1 (request_of c.from c.to m)) used a))
      by true = p
      by false =
          let r = request_of c.from c.to m in
          next (replied_with c bound (receipt_of bound.0 0 Own) (Some r) (reply_to c bound.1 r) used a)
          (keeps.reply bound (receipt_of bound.0 0 Own) (Some r) (reply_to c bound.1 r) used a p way refl refl)
  own_keeps rest next bound a p way (bad status) =
      keeps.reply bound (receipt_of bound.0 0 Own) None (error_reply status) 0 a p way refl refl
  own_keeps rest next bound a p way cut = keeps.close bound (receipt_of bound.0 0 Cut) a p way refl refl
  own_keeps rest next bound a p way finished = p
  own_keeps rest next bound a p way wait = p

  pub settled_keeps : (n : ℕ) (a : Account) → P a → P (settled c current n a)
  unfolding settled
  settled_keeps zero a p = p
  settled_keeps (suc n) a p = by_closed (λ b q. settled_keeps n b q) a.state.closed
    where
      at_front : ((b : Account) → P b → P (settled c current n b)) → (o : Option Numbered) → a.state.bound ≡ o → P (front_answer c current (settled c current n) a o)
      at_front next (Some bound) way = own_keeps (settled c current n) next bound a p way (found_at bound a)
      at_front next None free = by_begun (head_begun a.state.unused)
        where
          by_begun : (begun : Bool)
              → P (if begun then own_answer c current (settled c current n) (taken_with current a) (found_at current (taken_with current a)) else a)
          by_begun true =
              own_keeps (settled c current n) next current (taken_with current a) (keeps.head a p) refl (found_at current (taken_with current a))
          by_begun false = p

      by_closed : ((b : Account) → P b → P (settled c current n b)) → (closed : Bool) → P (if closed then a else front_answer c current (settled c current n) a a.state.bound)
      by_closed next true = p
      by_closed next false = at_front next a.state.bound refl

-- ---- one configuration

plain_more : (number : ℕ) (receipts : List Receipt) (receipt : Receipt) → ArePlain number receipts → receipt.conf ≡ number → is_plain_kind receipt.kind ≡ true
    → ArePlain number (receipts ++ receipt ∷ [])
plain_more number [] receipt plainly same kind = (same, kind, tt)
plain_more number (r ∷ rs) receipt plainly same kind = (plainly.0, plainly.1, plain_more number rs receipt plainly.2 same kind)

number_of : (current bound : Numbered) (number : ℕ) → bound ≡ current → number ≡ bound.0 → number ≡ current.0
number_of current bound number is same = same ∙ ap (λ (b : Numbered). b.0) is

same_low : (m n : ℕ) → m ≡ n → m ≤ n
same_low m n is = omega (arith, is)

module _ (c : Connection) (current : Numbered) (bytes written : List ℕ) (ended : Bool) where
  under_reply : (bound : Numbered) (receipt : Receipt) (asked : Option Request) (reply : Reply) (used : ℕ) (a : Account) → IsUnderOne current bytes written ended a
      → a.state.bound ≡ Some bound → receipt.conf ≡ bound.0 → is_plain_kind receipt.kind ≡ true
      → IsUnderOne current bytes written ended (replied_with c bound receipt asked reply used a)
  under_reply bound receipt asked reply used a under way same kind = record {
    came = under.came;
    went = under.went;
    end = under.end;
    stays_up = under.stays_up;
    receipts = plain_more current.0 a.told.receipts receipt under.receipts (number_of current bound receipt.conf (under.bound bound way) same) kind;
    given = under.given;
    bound = λ other none. absurd (cc none);
    last = same_low bound.0 current.0 (number_of current bound bound.0 (under.bound bound way) refl);
  }

  under_close : (bound : Numbered) (receipt : Receipt) (a : Account) → IsUnderOne current bytes written ended a
      → a.state.bound ≡ Some bound → receipt.conf ≡ bound.0 → is_plain_kind receipt.kind ≡ true
      → IsUnderOne current bytes written ended (closed_with bound receipt a)
  under_close bound receipt a under way same kind = record {
    came = under.came;
    went = under.went;
    end = under.end;
    stays_up = under.stays_up;
    receipts = plain_more current.0 a.told.receipts receipt under.receipts (number_of current bound receipt.conf (under.bound bound way) same) kind;
    given = under.given;
    bound = λ other none. absurd (cc none);
    last = same_low bound.0 current.0 (number_of current bound bound.0 (under.bound bound way) refl);
  }

  under_head : (a : Account) → IsUnderOne current bytes written ended a → IsUnderOne current bytes written ended (taken_with current a)
  under_head a under = record {
    came = under.came;
    went = under.went;
    end = under.end;
    stays_up = under.stays_up;
    receipts = under.receipts;
    given = (refl, under.given);
    bound = λ other way. let same : current ≡ other = cc way in sym same;
    last = under.last;
  }

  settled_under : (n : ℕ) (a : Account) → IsUnderOne current bytes written ended a → IsUnderOne current bytes written ended (settled c current n a)
  settled_under n a under =
      settled_keeps (IsUnderOne current bytes written ended) c current (record { reply = under_reply; close = under_close; head = under_head }) n a under

-- how many requests may come doesn't grow
settled_left : (c : Connection) (current : Numbered) (most n : ℕ) (a : Account) → a.state.left ≤ most → (settled c current n a).state.left ≤ most
settled_left c current most n a low =
    settled_keeps (λ b. b.state.left ≤ most) c current
    (record {
      reply = λ bound receipt asked reply used b low way same kind. omega (arith, low);
      close = λ bound receipt b low way same kind. low;
      head = λ b low. low;
    })
    n a low

reaches : (current : Numbered) (bytes written : List ℕ) (ended : Bool) (a : Account) → IsUnderOne current bytes written ended a → Reaches current a
reaches current bytes written ended a under = record {
  last = under.last;
  bound = λ bound way. same_low bound.0 current.0 (number_of current bound bound.0 (under.bound bound way) refl);
}

-- ---- the calls

opened_under : (current : Numbered) → IsUnderOne current [] [] false opened
opened_under current = record {
  came = refl;
  went = refl;
  end = refl;
  stays_up = refl;
  receipts = tt;
  given = tt;
  bound = λ bound none. absurd (cc none);
  last = omega arith;
}

module _ (laws : UnitLaws) (c : Connection) (current : Numbered) (bytes : List ℕ) where
  fed_under : IsUnderOne current bytes [] false (on_bytes c current bytes opened)
  fed_under =
      settled_under c current bytes [] false request_limit (record { told = record opened.told { bytes = opened.told.bytes ++ bytes }; state = fed opened.state bytes })
      (record { came = refl; went = refl; end = refl; stays_up = refl; receipts = tt; given = tt; bound = λ bound none. absurd (cc none); last = omega arith })

  pub one_begins : IsServedByOne c current bytes [] (on_end c current (on_bytes c current bytes opened))
  one_begins =
      let fed_account = on_bytes c current bytes opened in
      let sound = bytes_sound laws c current opened (opened_sound c) (reaches current [] [] false opened (opened_under current)) bytes refl refl in
      record {
        sound = end_sound laws c current fed_account sound (reaches current bytes [] false fed_account fed_under);
        under = settled_under c current bytes [] true request_limit (record { told = fed_account.told; state = at_end fed_account.state })
            (record {
              came = fed_under.came;
              went = fed_under.went;
              end = refl;
              stays_up = fed_under.stays_up;
              receipts = fed_under.receipts;
              given = fed_under.given;
              bound = fed_under.bound;
              last = fed_under.last;
            });
      }

  module _ (written : List ℕ) (a : Account) (served : IsServedByOne c current bytes written a) where
    pub one_wrote : (n : ℕ) → IsServedByOne c current bytes (written ++ take n a.state.out) (wrote n a)
    one_wrote n = record {
      sound = wrote_sound laws c a n served.sound;
      under = record {
        came = served.under.came;
        went = ap (λ front. front ++ take n a.state.out) served.under.went;
        end = served.under.end;
        stays_up = served.under.stays_up;
        receipts = served.under.receipts;
        given = served.under.given;
        bound = served.under.bound;
        last = served.under.last;
      };
    }

    -- what is found asks an application, where a reply is needed
    asks_app : (bound : Numbered) (m : Message) (used : ℕ) → need_of c a.state ≡ Ask → a.state.bound ≡ Some bound → (unit_under bound.1 a.state).found ≡ request m used
        → is_app (target_of bound.1 c.listener (request_of c.from c.to m)) ≡ true
    asks_app bound m used need way found =
        let under : need_under c a.state a.state.bound ≡ Ask = (open_need c a.state Ask need (λ e. cc) (λ e. cc)).1 in
        ap (asks_by c bound.1) (sym found) ∙ ask_if (asks_by c bound.1 (unit_under bound.1 a.state).found) (ap (need_under c a.state) (sym way) ∙ under)

    pub one_replied : (bound : Numbered) (stream : ℕ) (m : Message) (used : ℕ) → 0 < stream → need_of c a.state ≡ Ask → a.state.bound ≡ Some bound
        → (unit_under bound.1 a.state).found ≡ request m used
        → IsServedByOne c current bytes written (after_reply c current bound a stream m used) × ((after_reply c current bound a stream m used).state.left < a.state.left)
    one_replied bound stream m used drawn need way found =
        let r = request_of c.from c.to m in
        let receipt = receipt_of bound.0 stream App in
        let reply = reply_to c bound.1 r in
        let after = replied_with c bound receipt (Some r) reply used a in
        let goes_on : a.state.closed ≡ false = (open_need c a.state Ask need (λ e. cc) (λ e. cc)).0 in
        let some : 1 ≤ a.state.left = served.sound.more goes_on in
        let low : (settled c current request_limit after).state.left ≤ a.state.left - 1 = settled_left c current (a.state.left - 1) request_limit after (omega arith) in (
          record {
            sound = answer_sound laws c current a served.sound (reaches current bytes written true a served.under) bound receipt r reply used way refl
                (ap (turn_of c bound.1 receipt) found ∙ app_is c bound.1 bound.0 stream m used (asks_app bound m used need way found) drawn);
            under = settled_under c current bytes written true request_limit after (under_reply c current bytes written true bound receipt (Some r) reply used a served.under way refl refl);
          },
          omega (arith, some, low),
        )

    -- behind the end of the input no bytes are needed
    pub one_reads : ((all : List ℕ) (limit : ℕ) → (next_unit all true limit).found ≢ wait) → need_of c a.state ≢ Read
    one_reads tells reads = by a.state.bound refl
      where
        waits : ((bound : Numbered) → a.state.bound ≡ Some bound → (unit_under bound.1 a.state).found ≡ wait)
            × (a.state.bound ≡ None → (limit : ℕ) → (next_unit a.state.unused a.state.ended limit).found ≡ wait)
        waits = reads_now c a.state served.sound.settled reads

        by : (o : Option Numbered) → a.state.bound ≡ o → ⊥
        by None free =
            tells a.state.unused 0 (ap (λ over. (next_unit a.state.unused over 0).found) (sym served.under.end) ∙ waits.1 free 0)
        by (Some bound) way =
            tells a.state.unused bound.1.max_body (ap (λ over. (next_unit a.state.unused over bound.1.max_body).found) (sym served.under.end) ∙ waits.0 bound way)

    pub one_closes : ((all : List ℕ) (limit : ℕ) → (next_unit all true limit).found ≢ wait) → a.state.out ≡ [] → asking_of c a.state ≡ None → need_of c a.state ≡ Close
    one_closes tells shown unasked = by (need_of c a.state) refl
      where
        never_writes : (b : Bool) → (if b then Ask else Read) ≢ Write
        never_writes true is = absurd (cc is)
        never_writes false is = absurd (cc is)

        closes_or_reads : (b : Bool) → (if b then Close else Read) ≢ Write
        closes_or_reads true is = absurd (cc is)
        closes_or_reads false is = absurd (cc is)

        under_writes : (o : Option Numbered) → need_under c a.state o ≢ Write
        under_writes None is = closes_or_reads a.state.ended is
        under_writes (Some bound) is = never_writes (asks_by c bound.1 (unit_under bound.1 a.state).found) is

        goes_writes : (closed : Bool) → (if closed then Close else need_under c a.state a.state.bound) ≢ Write
        goes_writes true is = absurd (cc is)
        goes_writes false is = under_writes a.state.bound is

        by : (need : Need) → need_of c a.state ≡ need → need_of c a.state ≡ Close
        by Close is = is
        by Read is = absurd (one_reads tells is)
        by Ask is = absurd (cc (ap is_some (sym unasked) ∙ asking_now c a.state ∙ ap is_ask is))
        by Write is = absurd (goes_writes a.state.closed (sym (need_bare c a.state served.under.stays_up shown) ∙ is))

-- ---- the end

-- a list of configurations in which this one has its number
abbrev confs_with : Configuration → ℕ → List Configuration
confs_with conf zero = conf ∷ []
confs_with conf (suc n) = conf ∷ confs_with conf n

with_there : (conf : Configuration) (n : ℕ) → slice_get (confs_with conf n) n ≡ Some conf
with_there conf zero = refl
with_there conf (suc n) = with_there conf n

with_agrees : (current : Numbered) (confs : List Configuration) (given : List Given) → slice_get confs current.0 ≡ Some current.1 → AreGiven current given → Agrees confs given
with_agrees current confs [] there given = tt
with_agrees current confs (g ∷ gs) there given =
    let first : has_given confs g = subst (has_given confs) (sym given.0) there in (first, with_agrees current confs gs there given.1)

-- a connection that is to be closed has shown all, and no request is under way
pub closes_at : (c : Connection) (s : State) → IsSettled c s → s.given_up ≡ false → need_of c s ≡ Close → (s.out ≡ []) × (s.bound ≡ None)
closes_at c s settled stays_up need = (none_left s.out second.0, by_closed s.closed refl)
  where
    goes : Need
    goes = if s.closed then Close else need_under c s s.bound

    second : (nat_lt 0 (length s.out) ≡ false) × (goes ≡ Close)
    second =
        if_false (nat_lt 0 (length s.out)) Write goes Close (ap (λ b. if b then Close else if nat_lt 0 (length s.out) then Write else goes) (sym stays_up) ∙ need)
        (λ e. cc)

    none_left : (out : List ℕ) → nat_lt 0 (length out) ≡ false → out ≡ []
    none_left [] is = refl
    none_left (b ∷ bs) is = absurd (grind (arith, is))

    by_asks : (asks : Bool) → (if asks then Ask else Read) ≢ Close
    by_asks true is = absurd (cc is)
    by_asks false is = absurd (cc is)

    by_bound : (o : Option Numbered) → s.bound ≡ o → need_under c s o ≡ Close → s.bound ≡ None
    by_bound None free is = free
    by_bound (Some bound) way is = absurd (by_asks (asks_by c bound.1 (unit_under bound.1 s).found) is)

    by_closed : (closed : Bool) → s.closed ≡ closed → s.bound ≡ None
    by_closed true closed = settled.over closed
    by_closed false goes_on = by_bound s.bound refl (ap (λ b. if b then Close else need_under c s s.bound) (sym goes_on) ∙ second.1)

module _ (laws : UnitLaws) (c : Connection) (current : Numbered) (bytes written : List ℕ) (a : Account) (served : IsServedByOne c current bytes written a) where
  pub one_ends : need_of c a.state ≡ Close → written ≡ (plain_session_of (plain_connection c current.1) true bytes).written
  one_ends need =
      let t = a.told in
      let at = closes_at c a.state served.sound.settled served.under.stays_up need in
      let confs = confs_with current.1 current.0 in
      let there = with_there current.1 current.0 in
      let ended = session_now laws c t a.state confs served.sound.follows served.sound.settled (with_agrees current confs t.given there served.under.given) in
      let session : session_of c confs t.receipts bytes true ≡ Some (record { written = t.written ++ a.state.out; closed = a.state.closed || is_some a.state.bound }) =
      (λ i. session_of c confs (counted (sym at.1 i) t.receipts) (sym served.under.came i) (sym served.under.end i)) ∙ ended in
      let plainly = session_plain c confs current.1 current.0 t.receipts bytes (record { written = t.written ++ a.state.out; closed = a.state.closed || is_some a.state.bound })
      there served.under.receipts session in
      sym served.under.went ∙ sym (append-nil t.written) ∙ ap (λ out. t.written ++ out) (sym at.0) ∙ ap (λ (s : Session). s.written) plainly
