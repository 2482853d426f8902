-- A machine that closes without a reply.
use Rattle.std.proofs.Common.{ℕ, ◌≡◌, refl, sym, ap, ◌∙◌, subst, List, [], ◌∷◌, ◌++◌, Bool, true, false, if◌then◌else◌, Option, Some, None}
use Rattle.unit_types.specs.declared.message.Reply.{Reply}
use Rattle.unit_types.specs.declared.message.Request.{Request}
use Rattle.unit_types.specs.declared.message.Addr.{Addr}
use Rattle.http_front.specs.Kept.{Kept, HasRead}
use Rattle.http_front.specs.Reading.{reading_of}
use Rattle.conn_machine.specs.declared.receipt.Kind.{Kind}
use Rattle.conn_machine.specs.Answers.{Connection}
use Rattle.conn_machine.specs.Calls.{Account, ended_at, given_up_with, on_gone, opened}
use Rattle.conn_machine.specs.Shows.{Held, connection_of, opened_held, bound_in, Carries, Stands, Shows, number_or, ended_with, given_up_as}
use Rattle.conn_machine.specs.States.{Numbered, Told}
use Rattle.conn_machine.specs.Steps.{closed_by, fed, given_up, with_bytes}
use Rattle.conn_machine.specs.Turns.{receipt_of}

module _ (reply_of : List ℕ → Request → Reply) (c : Connection) where
  pub carries_given_up : (a : Account) (m : Held) → Carries reply_of c a m → Carries reply_of c (given_up_with a) (record m { given_up = true })
  carries_given_up a m is = record {
    connection = is.connection;
    state = λ i. given_up (is.state i);
    receipts = is.receipts;
    fresh = is.fresh;
    begun = is.begun;
    idle = is.idle;
  }

  pub carries_ended : (a : Account) (m : Held) (number stream : ℕ) (kind : Kind) (t : Told) → Carries reply_of c a m
      → t.receipts ≡ a.told.receipts ++ receipt_of number stream kind ∷ []
      → Carries reply_of c (record { told = t; state = closed_by number a.state }) (ended_with number stream kind m)
  carries_ended a m number stream kind t is told = record {
    connection = is.connection;
    state = λ i. closed_by number (is.state i);
    receipts = told ∙ ap (λ receipts. receipts ++ receipt_of number stream kind ∷ []) is.receipts;
    fresh = λ free. refl;
    begun = λ bound way. absurd (cc way);
    idle = λ bound way. absurd (cc way);
  }

  -- a closed machine shows what it carries
  pub closed_shows : (a : Account) (m : Held) → Carries reply_of c a m → m.closed ≡ true → Shows reply_of c a m
  closed_shows a m is closed = record {
    stands = record { carries = is; front = λ going. absurd (cc (sym closed ∙ going)) };
    quiet = λ going. absurd (cc (sym closed ∙ going));
  }

  pub gone_shown : (a : Account) (m : Held) (number stream : ℕ) (kind : Kind) → Shows reply_of c a m
      → Shows reply_of c (on_gone number stream kind a) (given_up_as number stream kind m)
  gone_shown a m number stream kind is =
      subst (λ (shut : Bool). Shows reply_of c (given_up_with (if shut then a else ended_at number stream kind a a.state.bound)) (given_up_as number stream kind m))
      (sym closed) (by m.closed refl)
    where
      closed : a.state.closed ≡ m.closed
      closed = ap (λ s. s.closed) is.stands.carries.state

      bound : a.state.bound ≡ bound_in m
      bound = ap (λ s. s.bound) is.stands.carries.state

      open_gone : (way : Option Numbered)
          → Shows reply_of c (given_up_with (ended_at number stream kind a way)) (record (ended_with (number_or way number) stream kind m) { given_up = true })
      open_gone None =
          closed_shows _ _ (carries_given_up _ _ (carries_given_up _ _ (carries_ended a m number stream kind _ is.stands.carries refl))) refl
      open_gone (Some b) = closed_shows _ _ (carries_given_up _ _ (carries_ended a m b.0 stream kind _ is.stands.carries refl)) refl

      by : (shut : Bool) → m.closed ≡ shut
          → Shows reply_of c (given_up_with (if shut then a else ended_at number stream kind a a.state.bound)) (given_up_as number stream kind m)
      by true shut =
          subst (λ (held : Held). Shows reply_of c (given_up_with a) held)
          (sym (ap (λ b. if b then record m { given_up = true } else record (ended_with (number_or (bound_in m) number) stream kind m) { given_up = true }) shut))
          (closed_shows _ _ (carries_given_up a m is.stands.carries) shut)
      by false going =
          subst (λ (held : Held). Shows reply_of c (given_up_with (ended_at number stream kind a a.state.bound)) held)
          (sym (ap (λ b. if b then record m { given_up = true } else record (ended_with (number_or (bound_in m) number) stream kind m) { given_up = true }) going))
          (subst (λ (way : Option Numbered). Shows reply_of c (given_up_with (ended_at number stream kind a way)) (record (ended_with (number_or (bound_in m) number) stream kind m) { given_up = true }))
          (sym bound) (open_gone (bound_in m)))

-- ---- begin

pub opened_shown : (reply_of : List ℕ → Request → Reply) (listener : List ℕ) (from to : Addr) (reader : Kept) → HasRead (reading_of from to [] false) reader
    → Shows reply_of (connection_of listener from to reply_of) opened (opened_held listener from to reader)
opened_shown reply_of listener from to reader read = record {
  stands = record {
    carries = record {
      connection = refl;
      state = refl;
      receipts = refl;
      fresh = λ free. refl;
      begun = λ bound way. absurd (cc way);
      idle = λ bound way. absurd (cc way);
    };
    front = λ going. read;
  };
  quiet = λ going bound way. absurd (cc way);
}

-- over its first bytes
pub over_stands : (reply_of : List ℕ → Request → Reply) (listener : List ℕ) (from to : Addr) (bytes : List ℕ) (reader : Kept) → HasRead (reading_of from to bytes false) reader
    → Stands reply_of (connection_of listener from to reply_of) (record { told = with_bytes bytes opened.told; state = fed opened.state bytes }) (opened_held listener from to reader)
over_stands reply_of listener from to bytes reader read = record {
  carries = record {
    connection = refl;
    state = refl;
    receipts = refl;
    fresh = λ free. refl;
    begun = λ bound way. absurd (cc way);
    idle = λ bound way. absurd (cc way);
  };
  front = λ going. read;
}
