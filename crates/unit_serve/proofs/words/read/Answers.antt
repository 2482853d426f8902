use Rattle.std.proofs.Common.{codes, refl, arith}
use Rattle.unit_serve.proofs.Passing.{accept_passes, accept_rule, control_passes, control_rule, ports_pass, ports_rule, workers_pass, workers_rule}
use Rattle.unit_serve.proofs.Values.{value_read, values_read}
use Rattle.unit_serve.proofs.words.read.Goals as goal

pub returns : goal.returns
returns c words fine has =
    let m = c.args.matches.now in
    record {
      control = value_read words m (codes "control") control_rule 16 1 65535 c.port_of.result c.get_str-control.result has (control_passes words fine) refl (omega arith) (omega arith) c.get_str-control.ensures c.port_of.ensures;
      ports = values_read words m (codes "ports") ports_rule 16 1 65535 4 c.in_ok-ports.ports.items c.get_strs.result has (ports_pass words fine) refl refl (omega arith) (omega arith) c.get_strs.ensures c.in_ok-ports.ensures;
      workers = value_read words m (codes "workers") workers_rule 32 1 4 c.number_of.result c.get_str-workers.result has (workers_pass words fine) refl (omega arith) (omega arith) c.get_str-workers.ensures c.number_of.ensures;
      accept = value_read words m (codes "accept") accept_rule 32 1 8192 c.number_of-2.result c.get_str-accept.result has (accept_passes words fine) refl (omega arith) (omega arith) c.get_str-accept.ensures c.number_of-2.ensures;
    }
