use Rattle.std.proofs.Common.{◌∙◌, sym, ap, subst, drop}
use Rattle.http_front.specs.Kept.{Kept, HasRead, marked}
use Rattle.conn_machine.specs.Shows.{Held}
use Rattle.conn_machine.proofs.BackLemmas.{held_back}
use Rattle.conn_machine.proofs.machine.Machine.go_back.Goals as goal

pub returns-clause-held : goal.returns-clause-held
returns-clause-held g c =
    held_back c.args.self.now _ c.args.place c.go_back.new.self (drop c.self.inside.written c.cut_behind.new.bytes) _ _
    (c.self.view_is ∙ c.recover.ensures) c.cut_behind.ensures.cut c.cut_to.ensures c.truncate.ensures.items

pub returns-clause-reader : goal.returns-clause-reader
returns-clause-reader g c r read =
    c.go_back.ensures r (subst (λ (k : Kept). HasRead r (marked k)) (sym (ap (λ (m : Held). m.reader) (c.self.view_is ∙ c.recover.ensures))) read)
