use Rattle.std.proofs.Common.{◌∙◌, ap, sym, subst, inl, inr, Option}
use Rattle.std.specs.Option.{is_some}
use Rattle.conf_validate.specs.Current.{numbered}
use Rattle.conn_machine.specs.Settling.{Grows}
use Rattle.conn_machine.specs.Shows.{Held, IsAfter, bound_in}
use Rattle.conn_machine.specs.States.{Numbered}
use Rattle.conn_machine.proofs.BackLemmas.{grows_both}
use Rattle.conn_machine.proofs.FoundLemmas.{first_none, first_told}
use Rattle.conn_machine.proofs.GrowsLemmas.{grows_up}
use Rattle.conn_machine.proofs.machine.Machine.first_found.Goals as goal

pub take_up-requires : goal.take_up-requires
take_up-requires g c =
    subst (λ (o : Option Numbered). IsAfter o (numbered c.args.current.now)) (sym (ap (λ (m : Held). m.met) c.read_next.ensures.value)) c.requires.after

pub returns-in_err-next-clause-met : goal.returns-in_err-next-clause-met
returns-in_err-next-clause-met g c = inl (ap (λ (m : Held). m.met) c.read_next.ensures.value)

pub returns-in_err-take_up-clause-met : goal.returns-in_err-take_up-clause-met
returns-in_err-take_up-clause-met g c = inl (ap (λ (m : Held). m.met) (c.in_err-take_up.ensures.err ∙ c.read_next.ensures.value))

pub returns-in_err-take_up-clause-grows : goal.returns-in_err-take_up-clause-grows
returns-in_err-take_up-clause-grows g c =
    subst (λ (m : Held). Grows c.args.self.now m) (sym c.in_err-take_up.ensures.err) c.read_next.ensures.grows

pub returns-in_err-tell_on-clause-met : goal.returns-in_err-tell_on-clause-met
returns-in_err-tell_on-clause-met g c = inr (c.tell_on.ensures.met ∙ ap (λ (m : Held). m.met) c.in_ok-take_up.ensures.ok)

pub returns-in_err-tell_on-clause-grows : goal.returns-in_err-tell_on-clause-grows
returns-in_err-tell_on-clause-grows g c =
    let old = c.args.self.now in
    let mid = c.read_next.new.self in
    let up = c.take_up.new.self in
    grows_both old up c.tell_on.new.self
    (grows_up old mid up (numbered c.args.current.now) c.read_next.ensures.grows (ap (λ (m : Held). m.met) c.read_next.ensures.value) c.requires.after c.in_ok-take_up.ensures.ok)
    c.tell_on.ensures.grows

pub returns-in_ok-tell_on-clause-ok : goal.returns-in_ok-tell_on-clause-ok
returns-in_ok-tell_on-clause-ok g c connection a is =
    first_told g.H.Handlers.reply_of connection (numbered c.args.current.now) a c.args.self.now is c.requires.going c.requires.none c.requires.free
    c.deref.result.now c.max_body-limit.result c.deref.ensures c.max_body-limit.ensures c.in_ok-next.next c.read_next.new.self c.read_next.ensures.value
    c.in_ok-next.ensures.answer c.in_ok-next.ensures.ok c.has_begun.result c.has_begun.ensures c.if-has_begun.true
    c.take_up.new.self c.tell_on.new.self c.in_ok-tell_on.field-0 c.in_ok-take_up.ensures.ok c.in_ok-tell_on.ensures.told

pub returns-in_ok-tell_on-clause-way : goal.returns-in_ok-tell_on-clause-way
returns-in_ok-tell_on-clause-way g c =
    (ap (λ (o : Option Numbered). is_some o) (c.tell_on.ensures.way ∙ ap bound_in c.in_ok-take_up.ensures.ok), c.in_ok-tell_on.ensures.small)

pub returns-in_ok-tell_on-clause-met : goal.returns-in_ok-tell_on-clause-met
returns-in_ok-tell_on-clause-met g c = inr (c.tell_on.ensures.met ∙ ap (λ (m : Held). m.met) c.in_ok-take_up.ensures.ok)

pub returns-in_ok-tell_on-clause-grows : goal.returns-in_ok-tell_on-clause-grows
returns-in_ok-tell_on-clause-grows g c =
    let old = c.args.self.now in
    let mid = c.read_next.new.self in
    let up = c.take_up.new.self in
    grows_both old up c.tell_on.new.self
    (grows_up old mid up (numbered c.args.current.now) c.read_next.ensures.grows (ap (λ (m : Held). m.met) c.read_next.ensures.value) c.requires.after c.in_ok-take_up.ensures.ok)
    c.tell_on.ensures.grows

pub returns-else-has_begun-clause-ok : goal.returns-else-has_begun-clause-ok
returns-else-has_begun-clause-ok g c connection a is =
    first_none g.H.Handlers.reply_of connection (numbered c.args.current.now) a c.args.self.now is c.requires.going c.requires.none c.requires.free
    c.deref.result.now c.max_body-limit.result c.deref.ensures c.max_body-limit.ensures c.in_ok-next.next c.read_next.new.self c.read_next.ensures.value
    c.in_ok-next.ensures.answer c.in_ok-next.ensures.ok c.has_begun.result c.has_begun.ensures c.if-has_begun.false

pub returns-else-has_begun-clause-met : goal.returns-else-has_begun-clause-met
returns-else-has_begun-clause-met g c = inl (ap (λ (m : Held). m.met) c.read_next.ensures.value)
