use Rattle.std.proofs.Common.{◌≡◌, ◌+◌, ℕ, refl}
use Rattle.std.specs.Prelude.{None}
use Rattle.std.specs.BTreeMap.{get}
use Rattle.std.specs.Ordering.{nat_cmp}
use Rattle.trace_check.proofs.Opened.{agrees_opened, reached_opened}
use Rattle.trace_check.proofs.machine.Machine.open.Goals as goal

pub returns : goal.returns
returns c =
    let shape = c.args.shape.now in
    let at = get nat_cmp c.new.result in
    let none : (s : ℕ) → at s ≡ None = λ s. rw c.new.ensures.empty refl in
    record {
      frame = c.in_ok-open.ensures;
      agrees = agrees_opened (shape.engines + shape.workers) at none;
      reached = reached_opened shape at c.requires none;
    }
