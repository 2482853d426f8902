use Rattle.std.proofs.Common.{ℕ, subst}
use Rattle.segment_table.specs.Rule.{SegHolds}
use Rattle.segment_table.proofs.table.SlotTable.close.Goals as goal

pub returns-clause-last : goal.returns-clause-last
returns-clause-last g c =
    let end = c.close_with.ensures.values.2 in
    record {
      last = end.0;
      meets = subst (λ (n : ℕ). SegHolds n end.0) c.args.self.sized.0 end.1.0;
      view = end.1.1;
      words = end.2;
      values = end.4;
    }
