use Rattle.std.proofs.Common.{◌≡◌, ◌-◌, length, map}
use mathlib.Core.List.{IsPrefix}
use Rattle.conf_validate.specs.Current.{numbered}
use Rattle.conf_shared.specs.Lists.{bare_configurations}
use Rattle.conf_shared.proofs.edition.Edition.follow.Given as goal

abbrev pub invariant-loop-self : goal.invariant-loop-self
invariant-loop-self g l = record {
  book : l.self.seen.book ≡ g.J.Naming.history;
  longer : IsPrefix l.fn.self.seen.log l.self.seen.log;
  within : IsPrefix l.self.seen.log (bare_configurations (map numbered l.list));
}

abbrev pub decreases-loop-self : goal.decreases-loop-self
decreases-loop-self g l = length l.list - length l.self.seen.log
