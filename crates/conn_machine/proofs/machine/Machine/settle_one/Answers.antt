use Rattle.std.proofs.Common.{subst, inl, IfOk, ◌≡◌, ◌<◌, true, Option}
use Rattle.conf_validate.specs.Current.{numbered}
use Rattle.http_front.specs.declared.next_unit.Next.{Next}
use Rattle.conn_machine.specs.Settling.{FindsFront}
use Rattle.conn_machine.proofs.AnsweredLemmas.{settled_result, settles_none}
use Rattle.conn_machine.proofs.BackLemmas.{grows_both}
use Rattle.conn_machine.proofs.GrowsLemmas.{either_on}
use Rattle.conn_machine.proofs.machine.Machine.settle_one.Goals as goal

pub returns-in-Some-clause-ok : goal.returns-in-Some-clause-ok
returns-in-Some-clause-ok g c =
    settled_result g.H.Handlers.reply_of (numbered c.args.current.now) c.args.self.now c.next_found.new.self c.answer.new.self c.in-Some.next c.answer.result
    (λ connection a is. subst (λ (o : Option Next). FindsFront g.H.Handlers.reply_of connection (numbered c.args.current.now) a o c.next_found.new.self) c.in-Some.is (c.in_ok-next.ensures.ok connection a is)) c.answer.ensures.ok

pub returns-in-Some-clause-left : goal.returns-in-Some-clause-left
returns-in-Some-clause-left g c =
    subst (λ n. IfOk c.answer.result (λ goes. goes ≡ true → c.answer.new.self.left < n)) c.next_found.ensures.left c.answer.ensures.left

pub returns-in-Some-clause-met : goal.returns-in-Some-clause-met
returns-in-Some-clause-met g c =
    either_on c.args.self.now.met c.next_found.new.self.met c.answer.new.self.met (numbered c.args.current.now) c.next_found.ensures.met (inl c.answer.ensures.met)

pub returns-in-Some-clause-grows : goal.returns-in-Some-clause-grows
returns-in-Some-clause-grows g c = grows_both c.args.self.now c.next_found.new.self c.answer.new.self c.next_found.ensures.grows c.answer.ensures.grows

pub returns-in-None-clause-ok : goal.returns-in-None-clause-ok
returns-in-None-clause-ok g c connection a is =
    settles_none g.H.Handlers.reply_of connection (numbered c.args.current.now) a c.next_found.new.self
    (subst (λ (o : Option Next). FindsFront g.H.Handlers.reply_of connection (numbered c.args.current.now) a o c.next_found.new.self) c.in-None.is (c.in_ok-next.ensures.ok connection a is))
