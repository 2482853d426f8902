use Rattle.std.proofs.Common.{◌+◌, ◌*◌, length}
use Rattle.conf_tree.proofs.append_item.+append_along.Given as goal

abbrev pub decreases-append_along : goal.decreases-append_along
decreases-append_along l = 2 * length l.keys.now

abbrev pub decreases-append_in_list : goal.decreases-append_in_list
decreases-append_in_list l = 2 * length l.rest.now + 1

abbrev pub decreases-append_in_map : goal.decreases-append_in_map
decreases-append_in_map l = 2 * length l.rest.now + 1
