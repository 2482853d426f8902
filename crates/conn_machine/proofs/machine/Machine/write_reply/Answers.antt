use Rattle.std.proofs.Common.{refl}
use Rattle.conn_machine.proofs.GrowsLemmas.{behind_result, grows_behind}
use Rattle.conn_machine.proofs.machine.Machine.write_reply.Goals as goal

pub returns-clause-grows : goal.returns-clause-grows
returns-clause-grows g c =
    let held = c.self.inside in
    rw (← c.self.view_is) (grows_behind _ held.out c.write_http.new.out held.written refl c.self.invariant.0
    (behind_result c.write_http.result held.out _ c.write_http.new.out c.write_http.ensures.ok c.write_http.ensures.err))
