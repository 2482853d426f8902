-- What a call that failed comes back to.
use Rattle.std.proofs.Common.{ℕ, ◌≡◌, refl, sym, ap, ◌∙◌, subst, List, Bool, true, false, if◌then◌else◌, Option, Some, None}
use Rattle.std.specs.Option.{is_some, option_or}
use Rattle.unit_types.specs.declared.message.Reply.{Reply}
use Rattle.unit_types.specs.declared.message.Request.{Request}
use Rattle.http_front.specs.Kept.{Kept, HasRead, marked}
use Rattle.http_front.specs.Reading.{Reading}
use Rattle.conn_machine.specs.declared.pending.Pending.{Pending}
use Rattle.conn_machine.specs.declared.settling.Place.{Place}
use Rattle.conn_machine.specs.Answers.{Connection}
use Rattle.conn_machine.specs.Calls.{Account}
use Rattle.conn_machine.specs.Settling.{GoesBack, Grows, place_of, recovered, taken_back}
use Rattle.conn_machine.specs.Shows.{Held, IsAfter, Shows, bound_in, state_in}
use Rattle.conn_machine.specs.States.{Numbered}
use Rattle.conn_machine.proofs.BackLemmas.{back_shown, goes_back_begun, goes_back_on}

-- ---- the configuration of the newest request

module _ (old now : Held) (grows : Grows old now) (former : old.former ≡ None) (there : is_some old.met ≡ true) where
  met_again : (bound : Numbered) → old.met ≡ Some bound → recovered now ≡ Some bound
  met_again bound is = grows.met bound (ap (λ (o : Option Numbered). option_or o old.met) former ∙ is)

  pub there_again : is_some (recovered now) ≡ true
  there_again = by old.met refl there
    where
      by : (o : Option Numbered) → old.met ≡ o → is_some o ≡ true → is_some (recovered now) ≡ true
      by None is some = absurd (cc some)
      by (Some bound) is some = ap (λ (o : Option Numbered). is_some o) (met_again bound is)

  pub after_again : (next : Numbered) → IsAfter old.met next → IsAfter (recovered now) next
  after_again next after = by old.met refl there after
    where
      by : (o : Option Numbered) → old.met ≡ o → is_some o ≡ true → IsAfter o next → IsAfter (recovered now) next
      by None is some first = absurd (cc some)
      by (Some bound) is some first = subst (λ (o : Option Numbered). IsAfter o next) (sym (met_again bound is)) first

-- ---- the place

pub begins_back : (before : Held) (reader : Kept) (ended : Bool) (p : Option Pending) (place : Place) → place ≡ place_of before
    → ((r : Reading) → HasRead r before.reader → HasRead r (marked reader)) → (before.is_under_way ≡ true → is_some before.met ≡ true)
    → GoesBack before place (record before { former = None; reader = reader; ended = ended; pending = p })
begins_back before reader ended p place is reads way =
    subst (λ (at : Place). GoesBack before at (record before { former = None; reader = reader; ended = ended; pending = p })) (sym is)
    (goes_back_begun before reader ended p reads way)

-- ---- what it shows

none_of : (o : Option Numbered) → is_some o ≡ false → o ≡ None
none_of None is = refl
none_of (Some bound) is = absurd (cc is)

-- none is under way where none was met
pub idle_unmet : (m : Held) (way : Bool) → (way ≡ true → is_some m.met ≡ true) → is_some m.met ≡ false → way ≡ false
idle_unmet m true there unmet = absurd (cc (sym (there refl) ∙ unmet))
idle_unmet m false there unmet = refl

module _ (reply_of : List ℕ → Request → Reply) (c : Connection) (a : Account) where
  -- where no request is under way the newest one's configuration isn't shown
  pub unmet_shown : (m : Held) → m.is_under_way ≡ false → Shows reply_of c a m → Shows reply_of c a (record m { met = None })
  unmet_shown m idle is = record {
    stands = record {
      carries = record {
        connection = is.stands.carries.connection;
        state = is.stands.carries.state ∙ same;
        receipts = is.stands.carries.receipts;
        fresh = is.stands.carries.fresh;
        begun = is.stands.carries.begun;
        idle = is.stands.carries.idle;
      };
      front = is.stands.front;
    };
    quiet = is.quiet;
  }
    where
      bound_is : bound_in m ≡ bound_in (record m { met = None })
      bound_is = ap (λ (b : Bool). if b then m.met else None) idle ∙ sym (ap (λ (b : Bool). if b then None else None) idle)

      same : state_in m a.state.unused a.state.told ≡ state_in (record m { met = None }) a.state.unused a.state.told
      same = λ i. record {
        unused = a.state.unused;
        ended = m.ended;
        bound = bound_is i;
        told = a.state.told;
        left = m.left;
        last = m.last;
        out = m.out;
        lines = m.lines;
        closed = m.closed;
        given_up = m.given_up;
      }

  module _ (before old now new : Held) (place : Place) (back : GoesBack before place old) (grows : Grows old now) (none : before.pending ≡ None)
      (is : new ≡ record (taken_back place now) { reader = new.reader }) (reads : (r : Reading) → HasRead r (marked now.reader) → HasRead r new.reader) where
    pub failed_shown : Shows reply_of c a before → Shows reply_of c a new
    failed_shown shows = back_shown reply_of c a before now new place (goes_back_on before place old now back grows) none is reads shows

    -- the first request of all
    idle_first : old.former ≡ None → old.met ≡ None → before.is_under_way ≡ false
    idle_first former met = by before.is_under_way refl
      where
        some : (o : Option Numbered) → bound_in before ≡ o → is_some o ≡ true → before.is_under_way ≡ false
        some None bound_is there = absurd (cc there)
        some (Some bound) bound_is there =
            absurd (cc (sym (ap (λ (o : Option Numbered). option_or o old.met) former ∙ met) ∙ back.met bound bound_is))

        by : (b : Bool) → before.is_under_way ≡ b → before.is_under_way ≡ false
        by true way = some (bound_in before) refl (back.way way)
        by false way = way

    pub failed_first : old.former ≡ None → is_some old.met ≡ false → Shows reply_of c a before → Shows reply_of c a (record new { met = None })
    failed_first former unmet shows =
        unmet_shown new
        (ap (λ (m : Held). m.is_under_way) is ∙ ap (λ (p : Place). p.is_under_way) back.place_is ∙ idle_first former (none_of old.met unmet))
        (failed_shown shows)
