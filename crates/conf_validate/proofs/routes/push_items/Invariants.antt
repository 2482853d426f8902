use Rattle.std.proofs.Common.{◌≡◌, ◌++◌, drop, map}
use Rattle.conf_tree.specs.Document.{AreDocuments}
use Rattle.conf_tree.specs.View.{list_data}
use Rattle.conf_validate.specs.Configuration.{items_list, step_of}
use Rattle.conf_validate.proofs.routes.push_items.Given as goal

abbrev pub invariant-loop-item : goal.invariant-loop-item
invariant-loop-item l = record {
  documents : AreDocuments (list_data (drop l.item-index l.item-items));
  same : l.steps.items ++ map step_of (items_list (list_data (drop l.item-index l.item-items))) ≡ l.fn.steps.items ++ map step_of (items_list (list_data l.items.items));
}
