use Rattle.std.proofs.Common.{ℕ, subst}
use Rattle.nncq_ring.specs.Rule.{RingHolds}
use Rattle.nncq_ring.proofs.ring.Ring.close.Goals as goal

pub returns-clause-last : goal.returns-clause-last
returns-clause-last c =
    let table = c.args.self.table.shared in
    let end = c.close_with.ensures.values.2 in
    record {
      last = end.0;
      meets = subst (λ (n : ℕ). RingHolds (n, table.key.1) end.0) c.args.self.sized.0 end.1.0;
      view = end.1.1;
      words = end.2;
    }
