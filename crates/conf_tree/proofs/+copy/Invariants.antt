use Rattle.std.proofs.Common.{◌≡◌, map, take}
use Rattle.conf_tree.specs.View.{data_of, named}
use Rattle.conf_tree.proofs.+copy.Given as goal

abbrev pub invariant-copy::copy_items-loop-item : goal.invariant-copy::copy_items-loop-item
invariant-copy::copy_items-loop-item l = map data_of l.copies.items ≡ map data_of (take l.item-index l.item-items)

abbrev pub invariant-tree::TreeMap::copy-loop-member : goal.invariant-tree::TreeMap::copy-loop-member
invariant-tree::TreeMap::copy-loop-member l = map named l.members.items ≡ map named (take l.member-index l.member-items)
