use Rattle.std.proofs.Common.{arith, ap}
use Rattle.conn_machine.specs.Shows.{Held}
use Rattle.conn_machine.proofs.machine.Machine.finish.Goals as goal

pub invariant_of-self-3 : goal.invariant_of-self-3
invariant_of-self-3 g c = (
  c.self.invariant.0,
  λ still. omega (arith, c.in_ok-reserve.ensures.ok, c.push_reserved.ensures.len, c.push_reserved.ensures.capacity),
  omega (arith, c.self.invariant.2),
  λ still. omega (arith, c.requires.more still, ap (λ (m : Held). m.left) c.self.view_is),
  λ way. absurd (cc way),
)
