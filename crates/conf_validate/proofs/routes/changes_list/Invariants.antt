use Rattle.std.proofs.Common.{◌≡◌, ◌++◌}
use Rattle.conf_tree.specs.View.{map_data}
use Rattle.conf_validate.specs.Configuration.{changes_list}
use Rattle.conf_validate.proofs.MemberLemmas.{left}
use Rattle.conf_validate.proofs.routes.changes_list.Given as goal

abbrev pub invariant-loop-member : goal.invariant-loop-member
invariant-loop-member l = l.changes.items ++ changes_list (left l.member-index l.list) ≡ changes_list (map_data l.members)
