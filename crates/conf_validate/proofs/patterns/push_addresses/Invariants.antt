use Rattle.std.proofs.Common.{◌≡◌, ◌++◌, drop}
use Rattle.std.specs.List.{flat_map}
use Rattle.conf_tree.specs.View.{list_data}
use Rattle.conf_validate.specs.Configuration.{address_of, items_list, text_or_nil}
use Rattle.conf_validate.proofs.patterns.push_addresses.Given as goal

abbrev pub invariant-loop-item : goal.invariant-loop-item
invariant-loop-item l = l.list.items ++ flat_map (λ d. address_of (text_or_nil d)) (items_list (list_data (drop l.item-index l.item-items))) ≡ l.fn.list.items ++ flat_map (λ d. address_of (text_or_nil d)) (items_list (list_data l.items.items))
