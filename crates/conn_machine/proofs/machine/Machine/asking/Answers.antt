use Rattle.std.proofs.Common.{◌∙◌, sym, ap}
use Rattle.conn_machine.specs.Shows.{Held}
use Rattle.conn_machine.proofs.RecordLemmas.{asked_short}
use Rattle.conn_machine.proofs.ShowsLemmas.{asking_shown, asks_open}
use Rattle.conn_machine.proofs.machine.Machine.asking.Goals as goal

pub returns-in-Some-clause-asking : goal.returns-in-Some-clause-asking
returns-in-Some-clause-asking g c connection a is = asking_shown g.H.Handlers.reply_of connection a c.args.self.now is

pub returns-in-Some-clause-short : goal.returns-in-Some-clause-short
returns-in-Some-clause-short g c connection a stream is =
    let asks = asks_open c.args.self.now (sym c.need.ensures.value ∙ c.in-Ask.is) in
    asked_short c.laws_of_records.ensures.plain c.laws_of_records.ensures.rewritten connection a stream c.in-Some.pending c.args.self.now
    g.H.Handlers.reply_of is asks.going (sym (ap (λ (m : Held). m.pending) c.self.view_is) ∙ c.in-Some.is) c.is_kept.ensures
