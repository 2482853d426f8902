use Rattle.std.proofs.Common.{◌≡◌, ◌++◌, drop, map}
use Rattle.conf_tree.specs.View.{list_data}
use Rattle.conf_validate.specs.Configuration.{items_list, text_or_nil}
use Rattle.conf_validate.proofs.patterns.list_of_texts.Given as goal

abbrev pub invariant-loop-item : goal.invariant-loop-item
invariant-loop-item l = l.list.items ++ map text_or_nil (items_list (list_data (drop l.item-index l.item-items))) ≡ map text_or_nil (items_list (list_data l.items.items))
