-- The reply to the request that waits.
use Rattle.std.proofs.Common.{ℕ, ◌≡◌, refl, sym, ap, ◌∙◌, subst, List, true, false, if◌then◌else◌, Option, Some, None, option_map, IfSome}
use Rattle.std.specs.Option.{is_some}
use Rattle.unit_types.specs.declared.message.Reply.{Reply}
use Rattle.unit_types.specs.declared.message.Request.{Request}
use Rattle.conf_validate.specs.Configuration.{Configuration}
use Rattle.route_match.specs.Target.{outcome_of}
use Rattle.route_match.specs.declared.target.Target.{Target}
use Rattle.route_match.specs.declared.target.Target.TheVariants.{App, Return, Status}
use Rattle.header_rewrite.specs.ResponseHeaders.{fielded_of}
use Rattle.header_rewrite.specs.Rewrite.{rewritten_of, with_rewrite}
use Rattle.http_front.specs.Kept.{Kept, HasRead, marked}
use Rattle.http_front.specs.Message.{Message}
use Rattle.http_front.specs.Reading.{Reading}
use Rattle.conn_machine.specs.declared.pending.Pending.{Pending}
use Rattle.conn_machine.specs.declared.receipt.Kind.{Kind}
use Rattle.conn_machine.specs.declared.receipt.Need.{Need}
use Rattle.conn_machine.specs.declared.receipt.Need.TheVariants.{Ask}
use Rattle.conn_machine.specs.declared.receipt.Receipt.{Receipt}
use Rattle.conn_machine.specs.Answers.{Connection, reply_by, reply_to}
use Rattle.conn_machine.specs.Asking.{handler_in, is_app}
use Rattle.conn_machine.specs.Calls.{Account, on_answer, replied_with}
use Rattle.conn_machine.specs.Replying.{IsConcluding, IsReplied, concluded, concluded_by, request_in}
use Rattle.conn_machine.specs.declared.settling.Place.{Place}
use Rattle.conn_machine.specs.Settling.{GoesBack, Grows, replied_in, taken_back}
use Rattle.conn_machine.specs.Shows.{Held, Fronts, IsAsked, IsPending, asking_in, need_in, Carries, Stands, Shows}
use Rattle.conn_machine.specs.States.{Numbered, is_ask}
use Rattle.conn_machine.specs.Turns.{receipt_of}
use Rattle.conn_machine.proofs.AnsweredLemmas.{replied_stands}
use Rattle.conn_machine.proofs.BackLemmas.{goes_back_on, shown_back}
use Rattle.conn_machine.proofs.ShowsLemmas.{asks_open}

-- the handler's reply, with its fields changed, is the reply to the request
handlers_by : (c : Connection) (conf : Configuration) (r : Request) (by : Option ℕ) (target : Target) → is_app target ≡ true
    → reply_by c conf r by target ≡ fielded_of conf by r (c.reply_of (handler_in conf target) (rewritten_of conf by r))
handlers_by c conf r by (App app timeout) is = refl
handlers_by c conf r by (Return step status) is = absurd (cc is)
handlers_by c conf r by (Status status) is = absurd (cc is)

pub handlers_reply : (c : Connection) (conf : Configuration) (r : Request) (p : Pending) (reply : Reply) → IsPending c conf p r → reply ≡ c.reply_of p.asks.0 p.asks.1
    → concluded (Some reply) c conf r ≡ reply_to c conf r
unfolding reply_to
handlers_reply c conf r p reply is same =
    let outcome = outcome_of conf c.listener r in
    ap (λ (x : Reply). fielded_of conf outcome.step r x) (same ∙ (λ i. c.reply_of (is.by.name i) (is.by.asked i)))
    ∙ sym (handlers_by c conf r outcome.step outcome.target is.goes)

module _ (reply_of : List ℕ → Request → Reply) (c : Connection) (a : Account) where
  -- it is replied, and what follows may be settled
  pub concluded_stands : (bound : Numbered) (message : Message) (used : ℕ) (came : Pending) (m : Held) (receipt : Receipt) (given : Option Reply) (answer : Reply)
      → IsConcluding reply_of c a bound message used came m
      → answer ≡ concluded_by bound.1 came.step came.asks.1 given
      → Stands reply_of c
      (replied_with c bound receipt (Some (request_in c message)) (concluded given c bound.1 (request_in c message)) used a)
      (replied_in bound receipt (Some came.asks.1) answer m)
  concluded_stands bound message used came m receipt given answer is same =
      let now : concluded given c bound.1 (request_in c message) ≡ answer =
      sym (same ∙ (λ i. concluded_by bound.1 (is.step i) (is.request_is i) given)) in
      subst (λ (x : Reply). Stands reply_of c (replied_with c bound receipt (Some (request_in c message)) x used a) (replied_in bound receipt (Some came.asks.1) answer m)) (sym now)
      (subst (λ (x : Request). Stands reply_of c (replied_with c bound receipt (Some x) answer used a) (replied_in bound receipt (Some came.asks.1) answer m)) is.request_is
      (replied_stands reply_of c bound a m receipt (Some came.asks.1) answer used is.carries (λ going. is.behind)))

  -- the request that waits, with its path and target as they came
  pub concluding : (m : Held) (p came : Pending) (reader : Kept) (former : Option Numbered) (asked : IsAsked c a.state.unused a.state.ended a.state.bound p m.reader)
      → Carries reply_of c a m → ((r : Reading) → HasRead r m.reader → HasRead r reader)
      → came.asks.1 ≡ with_rewrite p.asks.1 p.rewrite → came.step ≡ p.step
      → IsConcluding reply_of c a asked.bound asked.message asked.used came (record m { pending = None; former = former; reader = reader })
  concluding m p came reader former asked is reads request_is step_is = record {
    carries = record {
      connection = is.connection;
      state = is.state;
      receipts = is.receipts;
      fresh = is.fresh;
      begun = is.begun;
      idle = is.idle;
    };
    way = asked.bound_is;
    request_is = request_is ∙ asked.pending.by.came;
    step = step_is ∙ asked.pending.by.step;
    behind = reads _ asked.behind;
  }

  -- it is replied to, if its answer shows what it then stands at
  pub replied_shown : (current : Numbered) (m new : Held) (p came : Pending) (reader : Kept) (stream : ℕ) (kind : Kind) (given : Option Reply)
      → Shows reply_of c a m → m.closed ≡ false → m.pending ≡ Some p → ((r : Reading) → HasRead r m.reader → HasRead r reader)
      → came.asks.1 ≡ with_rewrite p.asks.1 p.rewrite → came.step ≡ p.step
      → ((bound : Numbered) (message : Message) (used : ℕ) → IsConcluding reply_of c a bound message used came (record m { pending = None; former = None; reader = reader })
      → Shows reply_of c (on_answer c current bound (receipt_of bound.0 stream kind) (request_in c message) (concluded given c bound.1 (request_in c message)) used a) new)
      → IsReplied reply_of c current a m.pending stream kind (concluded given) new
  replied_shown current m new p came reader stream kind given shows going waits reads request_is step_is gives =
      let asked = subst (λ (q : Option Pending). Fronts c a.state q m.reader) waits (shows.stands.front going) in
      record {
        bound = asked.bound;
        message = asked.message;
        used = asked.used;
        way = asked.bound_is;
        found = asked.found;
        waited = subst (λ (q : Option Pending). IfSome q (λ (p : Pending). IsPending c asked.bound.1 p (request_in c asked.message))) (sym waits) asked.pending;
        shows = gives asked.bound asked.message asked.used (concluding m p came reader None asked shows.stands.carries reads request_is step_is);
      }

  -- ---- a reply that failed

  -- it waits again, where what it was rewritten from stands in its place
  asked_again : (p q : Pending) (old new : Kept) → IsAsked c a.state.unused a.state.ended a.state.bound p old → ((r : Reading) → HasRead r old → HasRead r new)
      → q.asks.0 ≡ p.asks.0 → q.asks.1 ≡ p.asks.1 → with_rewrite q.asks.1 q.rewrite ≡ with_rewrite p.asks.1 p.rewrite → q.step ≡ p.step → q.timeout ≡ p.timeout
      → IsAsked c a.state.unused a.state.ended a.state.bound q new
  asked_again p q old new asked reads name_is request_is came_is step_is timeout_is = record {
    bound = asked.bound;
    message = asked.message;
    used = asked.used;
    bound_is = asked.bound_is;
    found = asked.found;
    pending = record {
      goes = asked.pending.goes;
      by = record {
        name = name_is ∙ asked.pending.by.name;
        asked = request_is ∙ asked.pending.by.asked;
        came = came_is ∙ asked.pending.by.came;
        step = step_is ∙ asked.pending.by.step;
        timeout = timeout_is ∙ asked.pending.by.timeout;
      };
    };
    behind = reads _ asked.behind;
  }

  pub waits_again : (before begun now back : Held) (p q : Pending) (place : Place) → GoesBack before place begun → Grows begun now
      → back ≡ record (taken_back place now) { reader = back.reader } → ((r : Reading) → HasRead r (marked now.reader) → HasRead r back.reader)
      → before.pending ≡ Some p
      → q.asks.0 ≡ p.asks.0 → q.asks.1 ≡ p.asks.1 → with_rewrite q.asks.1 q.rewrite ≡ with_rewrite p.asks.1 p.rewrite → q.step ≡ p.step → q.timeout ≡ p.timeout
      → Shows reply_of c a before → Shows reply_of c a (record back { pending = Some q })
  waits_again before begun now back p q place goes grows back_is reads waits name_is request_is came_is step_is timeout_is shows =
      let gone = goes_back_on before place begun now goes grows in
      subst (λ (held : Held). Shows reply_of c a (record held { pending = Some q })) (sym back_is)
      (shown_back reply_of c a before now place back.reader (Some q) gone shows
      (λ going. asked_again p q before.reader back.reader
      (subst (λ (o : Option Pending). Fronts c a.state o before.reader) waits (shows.stands.front going))
      (λ r is. reads r (gone.reader r is)) name_is request_is came_is step_is timeout_is)
      (λ going. tt))

  -- ---- the reply of a handler

  pub handler_replied : (current : Numbered) (m new : Held) (stream : ℕ) (kind : Kind) (reply : Reply) → Shows reply_of c a m → need_in m ≡ Ask
      → IfSome (asking_in m) (λ asked. reply ≡ reply_of asked.0 asked.1)
      → IsReplied reply_of c current a m.pending stream kind (concluded (Some reply)) new → IsReplied reply_of c current a m.pending stream kind reply_to new
  handler_replied current m new stream kind reply shows asks same is = by m.pending refl (asks_open m asks).waits
    where
      by : (o : Option Pending) → m.pending ≡ o → is_some o ≡ true → IsReplied reply_of c current a m.pending stream kind reply_to new
      by None waits some = absurd (cc some)
      by (Some p) waits some =
          let asking_is : asking_in m ≡ Some p.asks =
          ap (λ (need : Need). if is_ask need then option_map (λ (q : Pending). q.asks) m.pending else None) asks
          ∙ ap (λ (o : Option Pending). option_map (λ (q : Pending). q.asks) o) waits in
          let pending : IsPending c is.bound.1 p (request_in c is.message) =
          subst (λ (o : Option Pending). IfSome o (λ (q : Pending). IsPending c is.bound.1 q (request_in c is.message))) waits is.waited in
          let given : reply ≡ reply_of p.asks.0 p.asks.1 =
          subst (λ (o : Option (List ℕ × Request)). IfSome o (λ asked. reply ≡ reply_of asked.0 asked.1)) asking_is same in
          let by_handler : reply ≡ c.reply_of p.asks.0 p.asks.1 =
          given ∙ sym (ap (λ (x : Connection). x.reply_of p.asks.0 p.asks.1) shows.stands.carries.connection) in
          record {
            bound = is.bound;
            message = is.message;
            used = is.used;
            way = is.way;
            found = is.found;
            waited = is.waited;
            shows = subst (λ (r : Reply). Shows reply_of c (on_answer c current is.bound (receipt_of is.bound.0 stream kind) (request_in c is.message) r is.used a) new)
                (handlers_reply c is.bound.1 (request_in c is.message) p reply pending by_handler) is.shows;
          }
