use Rattle.std.proofs.Common.{◌≡◌, ◌∙◌, refl, sym, ap, subst, Option, Some, None, option_map}
use Rattle.std.specs.Option.{is_some}
use Rattle.conf_validate.specs.Current.{numbered}
use Rattle.http_front.specs.Kept.{HasRead}
use Rattle.conn_machine.specs.declared.pending.Pending.{Pending}
use Rattle.conn_machine.specs.Replying.{IsConcluding}
use Rattle.conn_machine.specs.Settling.{Grows, place_of}
use Rattle.conn_machine.specs.Shows.{Held, IsAfter, Shows, bound_in}
use Rattle.conn_machine.specs.States.{Numbered}
use Rattle.conn_machine.proofs.FailedLemmas.{after_again, begins_back}
use Rattle.conn_machine.proofs.ReplyingLemmas.{replied_shown, waits_again}
use Rattle.conn_machine.proofs.ShowsLemmas.{asks_open, met_there}
use Rattle.conn_machine.proofs.machine.Machine.conclude.Given.{Over}
use Rattle.conn_machine.proofs.machine.Machine.conclude.Goals as goal
use Rattle.conn_machine.proofs.machine.Machine.conclude.Goals.{After-begin}

-- behind its begin it is as before, but that nothing waits
begun_is : (g : Over) (c : After-begin g) → c.begin.new.self ≡ record c.args.self.now { former = None; pending = None }
begun_is g c = c.begin.ensures ∙ (λ i. record (c.self.view_is i) { former = None; pending = c.take.ensures.after i })

waits_is : (g : Over) (c : After-begin g) → c.args.self.now.pending ≡ Some c.in-Some.pending
waits_is g c = sym (ap (λ (m : Held). m.pending) c.self.view_is) ∙ sym c.take.ensures.value ∙ c.in-Some.is

pub conclude_request-requires-clause-way : goal.conclude_request-requires-clause-way
conclude_request-requires-clause-way g c =
    let view = c.self-2.view_is ∙ begun_is g (goal.at.conclude_request-requires-clause-way g c).After-begin in
    ap (λ (m : Held). is_some (bound_in m)) view ∙ (asks_open c.args.self.now c.requires.ask).way

pub returns-in-Ok-clause-ok : goal.returns-in-Ok-clause-ok
returns-in-Ok-clause-ok g c connection a is =
    let old = c.args.self.now in
    let reader = c.mark.new.self in
    let reply_of = g.H.Handlers.reply_of in
    let view = c.self-2.view_is ∙ begun_is g (goal.at.returns-in-Ok-clause-ok g c).After-begin in
    let waits = waits_is g (goal.at.returns-in-Ok-clause-ok g c).After-begin in
    let came : Pending = record c.in-Some.pending { rewrite = c.exchange.new.rewrite; asks = (c.in-Some.pending.asks.0, c.exchange.new.request) } in
    replied_shown reply_of connection a (numbered c.args.conf.now) old c.conclude_request.new.self c.in-Some.pending came reader c.args.stream c.args.kind
    (option_map (λ r. r.now) c.args.reply) is (asks_open old c.requires.ask).going waits
    (λ r read. c.mark.ensures.read r (subst (λ (m : Held). HasRead r m.reader) (sym view) read)) c.exchange.ensures.request refl
    (λ bound message used at. c.in-Ok.ensures.ok connection a bound message used
    (subst (λ (m : Held). IsConcluding reply_of connection a bound message used came (record m { reader = reader })) (sym view) at))

pub returns-in-Ok-clause-after : goal.returns-in-Ok-clause-after
returns-in-Ok-clause-after g c next old now =
    let view = c.self-2.view_is ∙ begun_is g (goal.at.returns-in-Ok-clause-after g c).After-begin in
    c.conclude_request.ensures.after next (subst (λ (m : Held). IsAfter m.met next) (sym view) old) now

pub returns-in-Err-clause-err : goal.returns-in-Err-clause-err
returns-in-Err-clause-err g c connection a shows =
    let old = c.args.self.now in
    let reader = c.mark.new.self in
    let now = c.conclude_request.new.self in
    let place = c.place-place.result in
    let view = c.self-2.view_is ∙ begun_is g (goal.at.returns-in-Err-clause-err g c).After-begin in
    let begun : Held = record old { former = None; pending = None; reader = reader } in
    let waits = waits_is g (goal.at.returns-in-Err-clause-err g c).After-begin in
    let again : Pending = record c.in-Some.pending { rewrite = c.exchange-in-Err.new.rewrite; asks = (c.in-Some.pending.asks.0, c.exchange-in-Err.new.request) } in
    let goes =
    begins_back old reader old.ended None place (c.place-place.ensures ∙ ap place_of view)
    (λ r read. c.mark.ensures.marked r (subst (λ (m : Held). HasRead r m.reader) (sym view) read))
    (λ up. met_there old (asks_open old c.requires.ask).way) in
    let grows = subst (λ (m : Held). Grows (record m { reader = reader }) now) view c.conclude_request.ensures.grows in
    subst (λ (m : Held). Shows g.H.Handlers.reply_of connection a (record m { pending = Some again })) (sym c.self-in-Err.view_is)
    (waits_again g.H.Handlers.reply_of connection a old begun now c.go_back.new.self c.in-Some.pending again place goes grows
    c.go_back.ensures.held c.go_back.ensures.reader waits refl (c.exchange-in-Err.ensures.request ∙ c.exchange.ensures.back)
    (c.exchange-in-Err.ensures.back ∙ c.exchange.ensures.request) refl refl shows)

pub returns-in-Err-clause-after : goal.returns-in-Err-clause-after
returns-in-Err-clause-after g c next old now =
    let view = c.self-2.view_is ∙ begun_is g (goal.at.returns-in-Err-clause-after g c).After-begin in
    let begun : Held = record c.args.self.now { former = None; pending = None; reader = c.mark.new.self } in
    let grows = subst (λ (m : Held). Grows (record m { reader = c.mark.new.self }) c.conclude_request.new.self) view c.conclude_request.ensures.grows in
    subst (λ (o : Option Numbered). IsAfter o next) (sym (ap (λ (m : Held). m.met) (c.self-in-Err.view_is ∙ c.go_back.ensures.held)))
    (after_again begun c.conclude_request.new.self grows refl (met_there c.args.self.now (asks_open c.args.self.now c.requires.ask).way) next old)
