use Rattle.std.proofs.Common.{◌+◌, ◌*◌, length}
use Rattle.conf_tree.proofs.remove_value.+remove_along.Given as goal

abbrev pub decreases-remove_along : goal.decreases-remove_along
decreases-remove_along l = 2 * length l.rest.now + 1

abbrev pub decreases-remove_in_list : goal.decreases-remove_in_list
decreases-remove_in_list l = 2 * length l.rest.now

abbrev pub decreases-remove_in_map : goal.decreases-remove_in_map
decreases-remove_in_map l = 2 * length l.rest.now
