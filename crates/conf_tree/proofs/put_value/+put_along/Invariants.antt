use Rattle.std.proofs.Common.{◌+◌, ◌*◌, length}
use Rattle.conf_tree.proofs.put_value.+put_along.Given as goal

abbrev pub decreases-put_along : goal.decreases-put_along
decreases-put_along l = 2 * length l.keys.now

abbrev pub decreases-put_in_list : goal.decreases-put_in_list
decreases-put_in_list l = 2 * length l.rest.now + 1

abbrev pub decreases-put_in_map : goal.decreases-put_in_map
decreases-put_in_map l = 2 * length l.rest.now + 1
