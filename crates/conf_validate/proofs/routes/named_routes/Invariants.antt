use Rattle.std.proofs.Common.{◌≡◌, ◌++◌, length, map}
use Rattle.std.specs.List.{flat_map}
use Rattle.conf_tree.specs.View.{map_data}
use Rattle.conf_validate.specs.Configuration.{items_of, members_list, route_destinations, step_of, values_list}
use Rattle.conf_validate.proofs.MemberLemmas.{left}
use Rattle.conf_validate.proofs.routes.named_routes.Given as goal

abbrev pub invariant-loop-member : goal.invariant-loop-member
invariant-loop-member l = record {
  steps : l.steps.items ++ map step_of (flat_map items_of (values_list (left l.member-index l.list))) ≡ map step_of (flat_map items_of (values_list (map_data l.members)));
  destinations : l.destinations.items ++ route_destinations (length l.steps.items) (members_list (left l.member-index l.list)) ≡ l.fn.destinations.items ++ route_destinations 0 (members_list (map_data l.members));
}
