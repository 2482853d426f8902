use Rattle.std.proofs.Common.{refl}
use Rattle.conn_machine.proofs.GrowsLemmas.{behind_result, grows_behind}
use Rattle.conn_machine.proofs.machine.Machine.tell_continue.Goals as goal

pub returns-clause-grows : goal.returns-clause-grows
returns-clause-grows g c =
    let held = c.self.inside in
    rw (← c.self.view_is) (grows_behind _ held.out c.append.new.self held.written refl c.self.invariant.0
    (behind_result c.append.result held.out _ c.append.new.self c.append.ensures.ok c.append.ensures.err))
