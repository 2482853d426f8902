use Rattle.std.proofs.Common.{◌≡◌, ◌++◌, map}
use Rattle.conf_tree.specs.View.{map_data}
use Rattle.conf_validate.specs.Configuration.{application_of, members_list}
use Rattle.conf_validate.proofs.MemberLemmas.{left}
use Rattle.conf_validate.proofs.applications.applications_in.Given as goal

abbrev pub invariant-loop-member : goal.invariant-loop-member
invariant-loop-member l = l.applications.items ++ map application_of (members_list (left l.member-index l.list)) ≡ map application_of (members_list (map_data l.members))
