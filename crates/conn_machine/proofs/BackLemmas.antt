-- How a call is taken back, and what settling comes to.
use Rattle.std.proofs.Common.{ℕ, suc, zero, ◌≡◌, ◌≤◌, ◌<◌, ◌+◌, ◌-◌, min, drop, length-drop, arith, refl, sym, ap, ◌∙◌, subst, List, [], ◌++◌, append_assoc, append-nil, length, take, Bool, true, false, if◌then◌else◌, Option, Some, None}
use Rattle.std.proofs.Math.Seq.{take-append_seam}
use Rattle.std.proofs.lemmas.List.{drop-take, take_min}
use Rattle.std.specs.Option.{is_some}
use Rattle.unit_types.specs.declared.message.Reply.{Reply}
use Rattle.unit_types.specs.declared.message.Request.{Request}
use Rattle.http_front.specs.Kept.{Kept, HasRead, marked}
use Rattle.http_front.specs.Reading.{Reading}
use Rattle.http_front.specs.Session.{request_limit}
use Rattle.conn_machine.specs.declared.pending.Pending.{Pending}
use Rattle.conn_machine.specs.declared.receipt.Receipt.{Receipt}
use Rattle.conn_machine.specs.declared.settling.Place.{Place}
use Rattle.conn_machine.specs.Answers.{Connection, reply_to}
use Rattle.conn_machine.specs.Calls.{Account, front_answer, own_answer, replied_with, settled}
use Rattle.conn_machine.specs.Settling.{Grows, GoesBack, IsBehind, Settles, place_of, recovered, taken_back}
use Rattle.conn_machine.specs.Shows.{Held, bound_in, Fronts, IsQuiet, IsAsked, state_in, Stands, Shows}
use Rattle.conn_machine.specs.States.{Numbered}
use Rattle.conn_machine.specs.Turns.{receipt_of}
use Rattle.conn_machine.specs.declared.receipt.Kind.TheVariants.{Own}
use Rattle.http_front.specs.Message.{request_of}
use Rattle.conn_machine.proofs.AnsweredLemmas.{settled_closed}

-- ---- what is added

pub behind_same : {A : Type 0} (xs : List A) → IsBehind xs xs
behind_same xs = ([], sym (append-nil xs))

pub behind_both : {A : Type 0} (xs ys zs : List A) → IsBehind xs ys → IsBehind ys zs → IsBehind xs zs
behind_both xs ys zs first second =
    (first.0 ++ second.0, second.1 ∙ ap (λ front. front ++ second.0) first.1 ∙ append_assoc xs first.0 second.0)

front_of_behind : {A : Type 0} (xs ys : List A) → IsBehind xs ys → take (length xs) ys ≡ xs
front_of_behind xs ys is = ap (take (length xs)) is.1 ∙ take-append_seam xs is.0

pub grows_same : (m : Held) → Grows m m
grows_same m = record {
  listener = refl;
  from = refl;
  to = refl;
  ended = refl;
  given_up = refl;
  reader = refl;
  met = λ bound is. is;
  out = behind_same m.out;
  lines = behind_same m.lines;
  receipts = behind_same m.receipts;
}

pub grows_both : (a b m : Held) → Grows a b → Grows b m → Grows a m
grows_both a b m first second = record {
  listener = second.listener ∙ first.listener;
  from = second.from ∙ first.from;
  to = second.to ∙ first.to;
  ended = second.ended ∙ first.ended;
  given_up = second.given_up ∙ first.given_up;
  reader = second.reader ∙ first.reader;
  met = λ bound is. second.met bound (first.met bound is);
  out = behind_both a.out b.out m.out first.out second.out;
  lines = behind_both a.lines b.lines m.lines first.lines second.lines;
  receipts = behind_both a.receipts b.receipts m.receipts first.receipts second.receipts;
}

-- ---- a call that is taken back

-- what is cut behind the bytes that are written
pub cut_behind : {A : Type 0} (w len k : ℕ) (xs new : List A) → new ≡ take (w + k) xs → k ≡ min len (length xs - w) → drop w new ≡ take len (drop w xs)
cut_behind w len k xs new is few =
    ap (drop w) is ∙ drop-take w k xs ∙ ap (λ n. take n (drop w xs)) (few ∙ ap (min len) (sym (length-drop w xs))) ∙ take_min len (drop w xs)

pub held_back : (old inside : Held) (place : Place) (reader : Kept) (out lines : List ℕ) (receipts : List Receipt)
    → inside ≡ record old { met = recovered old; former = None }
    → out ≡ take place.out inside.out → lines ≡ take place.lines inside.lines → receipts ≡ take place.receipts inside.receipts
    → record inside {
      reader = reader;
      is_under_way = place.is_under_way;
      pending = None;
      left = place.left;
      last = place.last;
      ended = place.ended;
      closed = place.closed;
      out = out;
      lines = lines;
      receipts = receipts;
    } ≡ record (taken_back place old) { reader = reader }
held_back old inside place reader out lines receipts is out_is lines_is receipts_is = λ i. record {
  listener = (is i).listener;
  from = (is i).from;
  to = (is i).to;
  reader = reader;
  met = (is i).met;
  former = (is i).former;
  is_under_way = place.is_under_way;
  pending = None;
  left = place.left;
  last = place.last;
  ended = place.ended;
  closed = place.closed;
  given_up = (is i).given_up;
  out = (out_is ∙ ap (λ (m : Held). take place.out m.out) is) i;
  lines = (lines_is ∙ ap (λ (m : Held). take place.lines m.lines) is) i;
  receipts = (receipts_is ∙ ap (λ (m : Held). take place.receipts m.receipts) is) i;
}

pub goes_back_on : (before : Held) (place : Place) (old new : Held) → GoesBack before place old → Grows old new → GoesBack before place new
goes_back_on before place old new is grows = record {
  place_is = is.place_is;
  listener = grows.listener ∙ is.listener;
  from = grows.from ∙ is.from;
  to = grows.to ∙ is.to;
  given_up = grows.given_up ∙ is.given_up;
  reader = λ r read. subst (λ (k : Kept). HasRead r k) (sym grows.reader) (is.reader r read);
  met = λ bound way. grows.met bound (is.met bound way);
  way = is.way;
  out = behind_both before.out old.out new.out is.out grows.out;
  lines = behind_both before.lines old.lines new.lines is.lines grows.lines;
  receipts = behind_both before.receipts old.receipts new.receipts is.receipts grows.receipts;
}

bound_back : (before now : Held) → ((bound : Numbered) → bound_in before ≡ Some bound → recovered now ≡ Some bound)
    → (before.is_under_way ≡ true → is_some (bound_in before) ≡ true)
    → bound_in before ≡ (if before.is_under_way then recovered now else None)
bound_back before now met way = by before.is_under_way refl
  where
    some_is : (o : Option Numbered) → bound_in before ≡ o → is_some o ≡ true → bound_in before ≡ recovered now
    some_is None is some = absurd (cc some)
    some_is (Some bound) is some = is ∙ sym (met bound is)

    by : (b : Bool) → before.is_under_way ≡ b → bound_in before ≡ (if before.is_under_way then recovered now else None)
    by true is = some_is (bound_in before) refl (way is) ∙ ap (λ b. if b then recovered now else None) (sym is)
    by false is = ap (λ b. if b then before.met else None) is ∙ ap (λ b. if b then recovered now else None) (sym is)

module _ (reply_of : List ℕ → Request → Reply) (c : Connection) (a : Account) where
  pub shown_back : (before now : Held) (place : Place) (reader : Kept) (p : Option Pending) → GoesBack before place now → Shows reply_of c a before
      → (before.closed ≡ false → Fronts c a.state p reader) → (before.closed ≡ false → IsQuiet c a.state p)
      → Shows reply_of c a (record (taken_back place now) { reader = reader; pending = p })
  shown_back before now place reader p back is front quiet =
      subst (λ (at : Place). Shows reply_of c a (record (taken_back at now) { reader = reader; pending = p })) (sym back.place_is)
      (record {
        stands = record {
          carries = record {
            connection = is.stands.carries.connection
                ∙ sym (λ i. record { listener = back.listener i; from = back.from i; to = back.to i; reply_of = reply_of });
            state = is.stands.carries.state ∙ same;
            receipts = is.stands.carries.receipts ∙ sym (front_of_behind before.receipts now.receipts back.receipts);
            fresh = is.stands.carries.fresh;
            begun = is.stands.carries.begun;
            idle = is.stands.carries.idle;
          };
          front = front;
        };
        quiet = quiet;
      })
    where
      out_is : before.out ≡ take (length before.out) now.out
      out_is = sym (front_of_behind before.out now.out back.out)

      lines_is : before.lines ≡ take (length before.lines) now.lines
      lines_is = sym (front_of_behind before.lines now.lines back.lines)

      up_is : before.given_up ≡ now.given_up
      up_is = sym back.given_up

      bound_is : bound_in before ≡ (if before.is_under_way then recovered now else None)
      bound_is = bound_back before now back.met back.way

      same : state_in before a.state.unused a.state.told
          ≡ state_in (record (taken_back (place_of before) now) { reader = reader; pending = p }) a.state.unused a.state.told
      same = λ i. record {
        unused = a.state.unused;
        ended = before.ended;
        bound = bound_is i;
        told = a.state.told;
        left = before.left;
        last = before.last;
        out = out_is i;
        lines = lines_is i;
        closed = before.closed;
        given_up = up_is i;
      }

  -- behind a call that failed
  pub back_shown : (before now new : Held) (place : Place) → GoesBack before place now → before.pending ≡ None
      → new ≡ record (taken_back place now) { reader = new.reader } → ((r : Reading) → HasRead r (marked now.reader) → HasRead r new.reader)
      → Shows reply_of c a before → Shows reply_of c a new
  back_shown before now new place back none is reads shows =
      subst (λ (held : Held). Shows reply_of c a held) (sym is)
      (shown_back before now place new.reader None back shows
      (λ going. reads _ (back.reader _ (subst (λ p. Fronts c a.state p before.reader) none (shows.stands.front going))))
      (λ going. subst (λ p. IsQuiet c a.state p) none (shows.quiet going)))

-- the configuration of the request under way is the newest one
bound_met : (m : Held) (bound : Numbered) → bound_in m ≡ Some bound → m.met ≡ Some bound
bound_met m bound is = by m.is_under_way is
  where
    by : (b : Bool) → (if b then m.met else None) ≡ Some bound → m.met ≡ Some bound
    by true e = e
    by false e = absurd (cc e)

bound_there : (m : Held) → (m.is_under_way ≡ true → is_some m.met ≡ true) → m.is_under_way ≡ true → is_some (bound_in m) ≡ true
bound_there m met way = ap (λ b. is_some (if b then m.met else None)) way ∙ met way

-- a call begins
pub goes_back_begun : (before : Held) (reader : Kept) (ended : Bool) (p : Option Pending) → ((r : Reading) → HasRead r before.reader → HasRead r (marked reader))
    → (before.is_under_way ≡ true → is_some before.met ≡ true)
    → GoesBack before (place_of before) (record before { former = None; reader = reader; ended = ended; pending = p })
goes_back_begun before reader ended p reads way = record {
  place_is = refl;
  listener = refl;
  from = refl;
  to = refl;
  given_up = refl;
  reader = reads;
  met = λ bound is. bound_met before bound is;
  way = bound_there before way;
  out = behind_same before.out;
  lines = behind_same before.lines;
  receipts = behind_same before.receipts;
}

-- ---- settling

-- so many requests may still be settled
pub record Reached (reply_of : List ℕ → Request → Reply) (c : Connection) (current : Numbered) (start : Account) (m : Held) : Type 0 where
  pub more : ℕ
  pub account : Account
  pub enough : m.left ≤ more
  pub stands : Stands reply_of c account m
  pub same : settled c current request_limit start ≡ settled c current more account

module _ (reply_of : List ℕ → Request → Reply) (c : Connection) (current : Numbered) (start : Account) where
  pub reached_begin : (m : Held) → m.left ≤ request_limit → Stands reply_of c start m → Reached reply_of c current start m
  reached_begin m few is = record { more = request_limit; account = start; enough = few; stands = is; same = refl }

  pub reached_more : (m new : Held) (at : Reached reply_of c current start m) → 1 ≤ m.left → new.left < m.left
      → Settles reply_of c current at.account true new → Reached reply_of c current start new
  reached_more m new at one less is = by at.more at.enough at.same
    where
      by : (n : ℕ) → m.left ≤ n → settled c current request_limit start ≡ settled c current n at.account → Reached reply_of c current start new
      by zero low same = absurd (omega (arith, low, one))
      by (suc n) low same = record {
        more = n;
        account = is.account;
        enough = omega (arith, low, less);
        stands = is.stands;
        same = same ∙ is.answer n;
      }

  pub reached_last : (m new : Held) (at : Reached reply_of c current start m) → 1 ≤ m.left
      → Settles reply_of c current at.account false new → Shows reply_of c (settled c current request_limit start) new
  reached_last m new at one is = by at.more at.enough at.same
    where
      by : (n : ℕ) → m.left ≤ n → settled c current request_limit start ≡ settled c current n at.account → Shows reply_of c (settled c current request_limit start) new
      by zero low same = absurd (omega (arith, low, one))
      by (suc n) low same =
          subst (λ (b : Account). Shows reply_of c b new) (sym (same ∙ is.answer n)) (record { stands = is.stands; quiet = is.quiet refl })

  pub reached_closed : (m : Held) (at : Reached reply_of c current start m) → m.closed ≡ true → Shows reply_of c (settled c current request_limit start) m
  reached_closed m at shut =
      subst (λ (b : Account). Shows reply_of c b m)
      (sym (at.same ∙ settled_closed reply_of c current at.account at.more (ap (λ s. s.closed) at.stands.carries.state ∙ shut)))
      (record { stands = at.stands; quiet = λ going. absurd (cc (sym shut ∙ going)) })

  -- nothing more is settled where a request waits
  settled_waiting : (b : Account) (p : Pending) (reader : Kept) (n : ℕ) → b.state.closed ≡ false → IsAsked c b.state.unused b.state.ended b.state.bound p reader
      → settled c current (suc n) b ≡ b
  unfolding settled
  settled_waiting b p reader n going asked =
      ap (λ shut. if shut then b else front_answer c current (settled c current n) b b.state.bound) going
      ∙ ap (front_answer c current (settled c current n) b) asked.bound_is
      ∙ ap (own_answer c asked.bound (settled c current n) b) asked.found
      ∙ ap (λ goes. if goes then b else settled c current n (replied_with c asked.bound (receipt_of asked.bound.0 0 Own) (Some (request_of c.from c.to asked.message)) (reply_to c asked.bound.1 (request_of c.from c.to asked.message)) asked.used b))
      asked.pending.goes

  pub reached_waiting : (m : Held) (at : Reached reply_of c current start m) → 1 ≤ m.left → m.closed ≡ false → is_some m.pending ≡ true
      → Shows reply_of c (settled c current request_limit start) m
  reached_waiting m at one going waits = by m.pending refl waits
    where
      more : (p : Pending) → m.pending ≡ Some p → (n : ℕ) → m.left ≤ n → settled c current request_limit start ≡ settled c current n at.account
          → Shows reply_of c (settled c current request_limit start) m
      more p is zero low same = absurd (omega (arith, low, one))
      more p is (suc n) low same =
          let asked = subst (λ q. Fronts c at.account.state q m.reader) is (at.stands.front going) in
          subst (λ (b : Account). Shows reply_of c b m)
          (sym (same ∙ settled_waiting at.account p m.reader n (ap (λ s. s.closed) at.stands.carries.state ∙ going) asked))
          (record { stands = at.stands; quiet = λ still. subst (λ q. IsQuiet c at.account.state q) (sym is) tt })

      by : (o : Option Pending) → m.pending ≡ o → is_some o ≡ true → Shows reply_of c (settled c current request_limit start) m
      by None is some = absurd (cc some)
      by (Some p) is some = more p is at.more at.enough at.same

  -- ---- as the loop tells it

  pub reached_on : (m new : Held) (at : Reached reply_of c current start m) (goes : Bool) → goes ≡ true → 1 ≤ m.left → (goes ≡ true → new.left < m.left)
      → Settles reply_of c current at.account goes new → Reached reply_of c current start new
  reached_on m new at goes is_true one less is =
      reached_more m new at one (less is_true) (subst (λ b. Settles reply_of c current at.account b new) is_true is)

  pub reached_end : (m new : Held) (at : Reached reply_of c current start m) (goes : Bool) → goes ≡ false → 1 ≤ m.left
      → Settles reply_of c current at.account goes new → Shows reply_of c (settled c current request_limit start) new
  reached_end m new at goes is_false one is = reached_last m new at one (subst (λ b. Settles reply_of c current at.account b new) is_false is)

  pub reached_over : (m : Held) (at : Reached reply_of c current start m) → (m.closed ≡ false → 1 ≤ m.left)
      → (m.closed ≡ false → is_some m.pending ≡ true) → Shows reply_of c (settled c current request_limit start) m
  reached_over m at one waits = by m.closed refl
    where
      by : (shut : Bool) → m.closed ≡ shut → Shows reply_of c (settled c current request_limit start) m
      by true shut = reached_closed m at shut
      by false going = reached_waiting m at (one going) going (waits going)
