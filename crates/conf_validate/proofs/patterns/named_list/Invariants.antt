use Rattle.std.proofs.Common.{◌≡◌, ◌++◌}
use Rattle.conf_tree.specs.View.{map_data}
use Rattle.conf_validate.specs.Configuration.{named_list}
use Rattle.conf_validate.proofs.MemberLemmas.{left}
use Rattle.conf_validate.proofs.patterns.named_list.Given as goal

abbrev pub invariant-loop-member : goal.invariant-loop-member
invariant-loop-member l = l.set.items ++ named_list l.lower (left l.member-index l.list) ≡ named_list l.lower (map_data l.members)
