-- More bytes, and their end.
use Rattle.std.proofs.Common.{ℕ, ◌≡◌, ◌≢◌, ◌≤◌, refl, sym, ap, ◌∙◌, subst, List, [], ◌++◌, append-nil, drop, Bool, true, false, not, ◌&&◌, Option, Some, None}
use Rattle.std.proofs.lemmas.List.{drop-append-le}
use Rattle.std.specs.Option.{is_some}
use Rattle.unit_types.specs.declared.message.Reply.{Reply}
use Rattle.unit_types.specs.declared.message.Request.{Request}
use Rattle.http_front.specs.Front.{head_begun}
use Rattle.http_front.specs.Kept.{Kept, HasRead}
use Rattle.http_front.specs.Kept as reader
use Rattle.http_front.specs.Message.{Message}
use Rattle.http_front.specs.NextUnit.{Found, request, wait, NextUnit, next_unit}
use Rattle.http_front.specs.Reading.{Reading, reading_of}
use Rattle.http_front.specs.Session.{request_limit}
use Rattle.conn_machine.specs.declared.pending.Pending.{Pending}
use Rattle.conn_machine.specs.Answers.{Connection}
use Rattle.conn_machine.specs.Calls.{Account, on_bytes, on_end}
use Rattle.conn_machine.specs.Shows.{Held, Fronts, IsAsked, Carries, Stands, Shows}
use Rattle.conn_machine.specs.States.{Numbered, is_due}
use Rattle.conn_machine.specs.Steps.{at_end, fed, with_bytes}
use Rattle.conn_machine.proofs.AnsweredLemmas.{settled_closed}
use Rattle.conn_machine.proofs.BackLemmas.{reached_begin, reached_waiting}
use Rattle.conn_machine.proofs.UnitLaws.{UnitLaws}

no_wait : (f : Found) → {m : Message} → {used : ℕ} → f ≡ request m used → f ≢ wait
no_wait f is waits = absurd (cc (sym is ∙ waits))

-- a call begins
module _ (reply_of : List ℕ → Request → Reply) (c : Connection) (a : Account) where
  pub begun_stands : (m : Held) → Stands reply_of c a m → Stands reply_of c a (record m { former = None })
  begun_stands m is = record {
    carries = record {
      connection = is.carries.connection;
      state = is.carries.state;
      receipts = is.carries.receipts;
      fresh = is.carries.fresh;
      begun = is.carries.begun;
      idle = is.carries.idle;
    };
    front = is.front;
  }

  -- the reader has read the same
  same_front : (p : Option Pending) (old new : Kept) → ((r : Reading) → HasRead r old → HasRead r new) → Fronts c a.state p old → Fronts c a.state p new
  same_front None old new reads front = reads _ front
  same_front (Some p) old new reads front = record {
    bound = front.bound;
    message = front.message;
    used = front.used;
    bound_is = front.bound_is;
    found = front.found;
    pending = front.pending;
    behind = reads _ front.behind;
  }

  pub begun_shown : (m : Held) (reader : Kept) → ((r : Reading) → HasRead r m.reader → HasRead r reader) → Shows reply_of c a m
      → Shows reply_of c a (record m { former = None; reader = reader })
  begun_shown m reader reads is = record {
    stands = record {
      carries = record {
        connection = is.stands.carries.connection;
        state = is.stands.carries.state;
        receipts = is.stands.carries.receipts;
        fresh = is.stands.carries.fresh;
        begun = is.stands.carries.begun;
        idle = is.stands.carries.idle;
      };
      front = λ going. same_front m.pending m.reader reader reads (is.stands.front going);
    };
    quiet = is.quiet;
  }

module _ (laws : UnitLaws) (reply_of : List ℕ → Request → Reply) (c : Connection) (a : Account) (m : Held) (is : Stands reply_of c a m) (unended : m.ended ≡ false) where
  unended_state : a.state.ended ≡ false
  unended_state = ap (λ s. s.ended) is.carries.state ∙ unended

  -- ---- more bytes

  module _ (piece : List ℕ) where
    abbrev pub fed_account : Account
    fed_account = record { told = with_bytes piece a.told; state = fed a.state piece }

    fed_due : (bound : Numbered) → head_begun a.state.unused ≡ true → is_due bound.1 (fed a.state piece) ≡ is_due bound.1 a.state
    fed_due bound begun =
        ap (λ due. due && not a.state.told)
        (laws.due a.state.unused piece a.state.ended bound.1.max_body begun
        ∙ ap (λ over. (next_unit a.state.unused over bound.1.max_body).continue_due) (sym unended_state))

    pub carries_fed : Carries reply_of c fed_account m
    carries_fed = record {
      connection = is.carries.connection;
      state = λ i. fed (is.carries.state i) piece;
      receipts = is.carries.receipts;
      fresh = is.carries.fresh;
      begun = λ bound way. laws.begun a.state.unused piece (is.carries.begun bound way);
      idle = λ bound way. fed_due bound (is.carries.begun bound way) ∙ is.carries.idle bound way;
    }

    fed_asked : (p : Pending) (old new : Kept) → ((r : Reading) → HasRead r old → HasRead (reader.fed r piece) new) → IsAsked c a.state.unused a.state.ended a.state.bound p old
        → IsAsked c (a.state.unused ++ piece) a.state.ended a.state.bound p new
    fed_asked p old new feeds asked =
        let limit = asked.bound.1.max_body in
        let within = laws.fits a.state.unused a.state.ended limit asked.message asked.used asked.found in
        let found : (next_unit a.state.unused false limit).found ≡ request asked.message asked.used = ap (λ over. (next_unit a.state.unused over limit).found) (sym unended_state) ∙ asked.found in
        record {
          bound = asked.bound;
          message = asked.message;
          used = asked.used;
          bound_is = asked.bound_is;
          found = ap (λ (u : NextUnit). u.found) (laws.stays a.state.unused piece a.state.ended limit (no_wait (next_unit a.state.unused false limit).found found)) ∙ found;
          pending = asked.pending;
          behind = subst (λ (bytes : List ℕ). HasRead (reading_of c.from c.to bytes a.state.ended) new) (sym (drop-append-le asked.used a.state.unused piece within.1))
              (feeds (reading_of c.from c.to (drop asked.used a.state.unused) a.state.ended) asked.behind);
        }

    fed_front : (p : Option Pending) (old new : Kept) → ((r : Reading) → HasRead r old → HasRead (reader.fed r piece) new) → Fronts c a.state p old → Fronts c (fed a.state piece) p new
    fed_front None old new feeds front = feeds _ front
    fed_front (Some p) old new feeds front = fed_asked p old new feeds front

    pub fed_stands : (new : Kept) → ((r : Reading) → HasRead r m.reader → HasRead (reader.fed r piece) new) → Stands reply_of c fed_account (record m { reader = new })
    fed_stands new feeds = record {
      carries = record {
        connection = carries_fed.connection;
        state = carries_fed.state;
        receipts = carries_fed.receipts;
        fresh = carries_fed.fresh;
        begun = carries_fed.begun;
        idle = carries_fed.idle;
      };
      front = λ going. fed_front m.pending m.reader new feeds (is.front going);
    }

    -- a closed connection takes no notice
    pub bytes_closed : (current : Numbered) → m.closed ≡ true → Shows reply_of c (on_bytes c current piece a) m
    bytes_closed current shut =
        subst (λ (b : Account). Shows reply_of c b m) (sym (settled_closed reply_of c current fed_account request_limit (ap (λ s. s.closed) is.carries.state ∙ shut)))
        (record {
          stands = record { carries = carries_fed; front = λ going. absurd (cc (sym shut ∙ going)) };
          quiet = λ going. absurd (cc (sym shut ∙ going));
        })

    -- where a request waits they are kept
    pub bytes_waiting : (current : Numbered) (new : Kept) → ((r : Reading) → HasRead r m.reader → HasRead (reader.fed r piece) new)
        → m.left ≤ request_limit → 1 ≤ m.left → m.closed ≡ false → is_some m.pending ≡ true
        → Shows reply_of c (on_bytes c current piece a) (record m { reader = new })
    bytes_waiting current new feeds most one going waits =
        let held : Held = record m { reader = new } in
        reached_waiting reply_of c current fed_account held (reached_begin reply_of c current fed_account held most (fed_stands new feeds)) one going waits

  -- ---- their end

  abbrev pub ended_account : Account
  ended_account = record { told = a.told; state = at_end a.state }

  end_unit : (limit : ℕ) → (next_unit a.state.unused false limit).found ≢ wait → next_unit a.state.unused true limit ≡ next_unit a.state.unused false limit
  end_unit limit told = ap (λ bytes. next_unit bytes true limit) (sym (append-nil a.state.unused)) ∙ laws.stays a.state.unused [] true limit told

  end_due : (bound : Numbered) → head_begun a.state.unused ≡ true → is_due bound.1 (at_end a.state) ≡ is_due bound.1 a.state
  end_due bound begun =
      ap (λ due. due && not a.state.told)
      (ap (λ bytes. (next_unit bytes true bound.1.max_body).continue_due) (sym (append-nil a.state.unused))
      ∙ laws.due a.state.unused [] true bound.1.max_body begun
      ∙ ap (λ over. (next_unit a.state.unused over bound.1.max_body).continue_due) (sym unended_state))

  end_asked : (p : Pending) (old new : Kept) → ((r : Reading) → HasRead r old → HasRead (reader.at_end r) new) → IsAsked c a.state.unused a.state.ended a.state.bound p old
      → IsAsked c a.state.unused true a.state.bound p new
  end_asked p old new ends asked =
      let limit = asked.bound.1.max_body in
      let found : (next_unit a.state.unused false limit).found ≡ request asked.message asked.used = ap (λ over. (next_unit a.state.unused over limit).found) (sym unended_state) ∙ asked.found in
      record {
        bound = asked.bound;
        message = asked.message;
        used = asked.used;
        bound_is = asked.bound_is;
        found = ap (λ (u : NextUnit). u.found) (end_unit limit (no_wait (next_unit a.state.unused false limit).found found)) ∙ found;
        pending = asked.pending;
        behind = ends (reading_of c.from c.to (drop asked.used a.state.unused) a.state.ended) asked.behind;
      }

  end_front : (p : Option Pending) (old new : Kept) → ((r : Reading) → HasRead r old → HasRead (reader.at_end r) new) → Fronts c a.state p old → Fronts c (at_end a.state) p new
  end_front None old new ends front = ends _ front
  end_front (Some p) old new ends front = end_asked p old new ends front

  pub end_stands : (new : Kept) → ((r : Reading) → HasRead r m.reader → HasRead (reader.at_end r) new) → Stands reply_of c ended_account (record m { reader = new; ended = true })
  end_stands new ends = record {
    carries = record {
      connection = is.carries.connection;
      state = λ i. at_end (is.carries.state i);
      receipts = is.carries.receipts;
      fresh = is.carries.fresh;
      begun = is.carries.begun;
      idle = λ bound way. end_due bound (is.carries.begun bound way) ∙ is.carries.idle bound way;
    };
    front = λ going. end_front m.pending m.reader new ends (is.front going);
  }

  pub end_closed : (current : Numbered) (new : Kept) → ((r : Reading) → HasRead r m.reader → HasRead (reader.at_end r) new) → m.closed ≡ true
      → Shows reply_of c (on_end c current a) (record m { reader = new; ended = true })
  end_closed current new ends shut =
      subst (λ (b : Account). Shows reply_of c b (record m { reader = new; ended = true }))
      (sym (settled_closed reply_of c current ended_account request_limit (ap (λ s. s.closed) is.carries.state ∙ shut)))
      (record { stands = end_stands new ends; quiet = λ going. absurd (cc (sym shut ∙ going)) })

  pub end_waiting : (current : Numbered) (new : Kept) → ((r : Reading) → HasRead r m.reader → HasRead (reader.at_end r) new)
      → m.left ≤ request_limit → 1 ≤ m.left → m.closed ≡ false → is_some m.pending ≡ true
      → Shows reply_of c (on_end c current a) (record m { reader = new; ended = true })
  end_waiting current new ends most one going waits =
      let held : Held = record m { reader = new; ended = true } in
      reached_waiting reply_of c current ended_account held (reached_begin reply_of c current ended_account held most (end_stands new ends)) one going waits

  -- where nothing may be settled
  pub end_over : (current : Numbered) (new : Kept) → ((r : Reading) → HasRead r m.reader → HasRead (reader.at_end r) new)
      → m.left ≤ request_limit → (m.closed ≡ false → 1 ≤ m.left) → (m.closed ≡ false → is_some m.pending ≡ true)
      → Shows reply_of c (on_end c current a) (record m { reader = new; ended = true })
  end_over current new ends most one waits = by m.closed refl
    where
      by : (shut : Bool) → m.closed ≡ shut → Shows reply_of c (on_end c current a) (record m { reader = new; ended = true })
      by true shut = end_closed current new ends shut
      by false going = end_waiting current new ends most (one going) going (waits going)
