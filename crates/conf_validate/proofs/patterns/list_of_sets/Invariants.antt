use Rattle.std.proofs.Common.{◌≡◌, ◌++◌, drop, map}
use Rattle.conf_tree.specs.View.{list_data}
use Rattle.conf_validate.specs.Configuration.{items_list, named_of}
use Rattle.conf_validate.proofs.patterns.list_of_sets.Given as goal

abbrev pub invariant-loop-item : goal.invariant-loop-item
invariant-loop-item l = l.list.items ++ map (named_of l.lower) (items_list (list_data (drop l.item-index l.item-items))) ≡ map (named_of l.lower) (items_list (list_data l.items.items))
