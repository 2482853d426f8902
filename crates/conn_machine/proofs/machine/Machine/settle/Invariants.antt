use Rattle.std.proofs.Common.{◌≡◌, ◌⊎◌, Some}
use Rattle.conf_validate.specs.Current.{numbered}
use Rattle.conn_machine.specs.Answers.{Connection}
use Rattle.conn_machine.specs.Calls.{Account}
use Rattle.conn_machine.specs.Settling.{Grows}
use Rattle.conn_machine.specs.Shows.{IsAfter, Stands}
use Rattle.conn_machine.proofs.BackLemmas.{Reached}
use Rattle.conn_machine.proofs.machine.Machine.settle.Given as goal

abbrev pub invariant-loop-alloc : goal.invariant-loop-alloc
invariant-loop-alloc g l = record {
  reached : (c : Connection) (a : Account) → Stands g.H.Handlers.reply_of c a l.fn.self → Reached g.H.Handlers.reply_of c (numbered l.fn.current) a l.self;
  after : IsAfter l.self.met (numbered l.fn.current);
  met : (l.self.met ≡ l.fn.self.met) ⊎ (l.self.met ≡ Some (numbered l.fn.current));
  grows : Grows l.fn.self l.self;
}

-- each request that is answered leaves one fewer
abbrev pub decreases-loop-alloc : goal.decreases-loop-alloc
decreases-loop-alloc g l = l.self.left
