use Rattle.std.proofs.Common.{◌≡◌, ◌+◌, ◌*◌, drop, []}
use Rattle.conf_tree.specs.View.{data_of, list_data, map_data}
use Rattle.conf_validate.specs.Again.{KnowsOf}
use Rattle.conf_validate.specs.Scopes.{context_of}
use Rattle.conf_validate.specs.Table.{entries_of, whole_table}
use Rattle.conf_validate.specs.Valid.{items_fault, members_fault}
use Rattle.conf_validate.proofs.Sizes.{size, items_size, members_size}
use Rattle.conf_validate.proofs.WalkLemmas.{behind, names_before}
use Rattle.conf_validate.proofs.walk.+value_fault.Given as goal

abbrev pub decreases-value_fault : goal.decreases-value_fault
decreases-value_fault l = 4 * size (data_of l.tree.now)

abbrev pub decreases-items_fault : goal.decreases-items_fault
decreases-items_fault l = 4 * items_size (list_data l.items.now.items) + 1

abbrev pub decreases-object_fault : goal.decreases-object_fault
decreases-object_fault l = 4 * members_size (map_data l.map.now) + 3

abbrev pub decreases-members_fault : goal.decreases-members_fault
decreases-members_fault l = 4 * members_size (map_data l.map.now) + 2

abbrev pub decreases-member_fault : goal.decreases-member_fault
decreases-member_fault l = 4 * size (data_of l.value.now) + 1

abbrev pub invariant-items_fault-loop-index : goal.invariant-items_fault-loop-index
invariant-items_fault-loop-index l =
    items_fault whole_table (context_of l.scope) l.place 0 (list_data l.items.items) ≡ items_fault whole_table (context_of l.scope) l.place l.index (list_data (drop l.index l.items.items))

abbrev pub invariant-members_fault-loop-member : goal.invariant-members_fault-loop-member
invariant-members_fault-loop-member l = record {
  known : KnowsOf l.names l.earlier (names_before l.member-index (map_data l.map));
  same : members_fault whole_table (context_of l.scope) (entries_of l.place) l.names [] (map_data l.map) ≡ members_fault whole_table (context_of l.scope) (entries_of l.place) l.names (names_before l.member-index (map_data l.map)) (behind l.member-index (map_data l.map));
}
