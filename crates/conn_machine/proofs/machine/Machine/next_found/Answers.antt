use Rattle.std.proofs.Common.{◌∙◌, sym, ap, inl, option_map, Bor, Option}
use Rattle.std.specs.Option.{is_some}
use Rattle.conf_validate.specs.Current.{numbered}
use Rattle.conn_machine.specs.Shows.{Held, bound_in}
use Rattle.conn_machine.specs.States.{Numbered}
use Rattle.conn_machine.proofs.FoundLemmas.{found_bound}
use Rattle.conn_machine.proofs.machine.Machine.next_found.Goals as goal

pub first_found-requires-clause-free : goal.first_found-requires-clause-free
first_found-requires-clause-free g c = sym c.bound.ensures ∙ ap (option_map (λ (b : Bor Numbered). b.now)) c.in-None.is

pub returns-in_err-read_next-in-Some-clause-met : goal.returns-in_err-read_next-in-Some-clause-met
returns-in_err-read_next-in-Some-clause-met g c = inl (ap (λ (m : Held). m.met) c.read_next.ensures.value)

pub returns-in_ok-read_next-in-Some-clause-ok : goal.returns-in_ok-read_next-in-Some-clause-ok
returns-in_ok-read_next-in-Some-clause-ok g c connection a is =
    found_bound g.H.Handlers.reply_of connection (numbered c.args.current.now) a c.args.self.now is c.requires.going c.requires.none
    c.bound.result c.in-Some.met c.conf.result.now c.max_body-limit.result c.in_ok-read_next-in-Some.field-0 c.read_next.new.self
    c.bound.ensures c.in-Some.is c.conf.ensures c.max_body-limit.ensures c.read_next.ensures.value c.in_ok-read_next-in-Some.ensures.answer c.in_ok-read_next-in-Some.ensures.ok

pub returns-in_ok-read_next-in-Some-clause-way : goal.returns-in_ok-read_next-in-Some-clause-way
returns-in_ok-read_next-in-Some-clause-way g c = (
  ap (λ (o : Option Numbered). is_some o) (ap bound_in c.read_next.ensures.value ∙ sym c.bound.ensures ∙ ap (option_map (λ (b : Bor Numbered). b.now)) c.in-Some.is),
  c.in_ok-read_next-in-Some.ensures.small,
)

pub returns-in_ok-read_next-in-Some-clause-met : goal.returns-in_ok-read_next-in-Some-clause-met
returns-in_ok-read_next-in-Some-clause-met g c = inl (ap (λ (m : Held). m.met) c.read_next.ensures.value)
