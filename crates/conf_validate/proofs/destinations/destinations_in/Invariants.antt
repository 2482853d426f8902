use Rattle.std.proofs.Common.{◌≡◌, ◌++◌}
use Rattle.conf_tree.specs.View.{map_data}
use Rattle.conf_validate.specs.Configuration.{application_destinations, members_list}
use Rattle.conf_validate.proofs.MemberLemmas.{left}
use Rattle.conf_validate.proofs.destinations.destinations_in.Given as goal

abbrev pub invariant-loop-index : goal.invariant-loop-index
invariant-loop-index l = l.destinations.items ++ application_destinations l.index (members_list (left l.index l.list)) ≡ application_destinations 0 (members_list (map_data l.members))
