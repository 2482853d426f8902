use mathlib.Core.List.{IsPrefix}
use Rattle.conf_shared.specs.Lists.{list_of}
use Rattle.conf_shared.proofs.tests.publish_to.Given as goal

-- what was given begins the book's list
abbrev pub invariant-loop : goal.invariant-loop
invariant-loop g l = IsPrefix l.shared.1 (list_of l.book)
