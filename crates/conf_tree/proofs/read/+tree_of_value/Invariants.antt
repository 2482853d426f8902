use Rattle.std.proofs.Common.{◌≡◌, ◌++◌, map}
use Rattle.std.specs.Vec.Iter.{into_iter_items}
use Rattle.serde_json.specs.View.{items_of, view, items_view, members_view}
use Rattle.conf_tree.specs.Document.{AreDocuments}
use Rattle.conf_tree.specs.Text.{ItemsHaveWords, MembersHaveWords}
use Rattle.conf_tree.specs.View.{data_of, list_data, members_of, named}
use Rattle.conf_tree.proofs.Reading.{named_value, HasDocuments}
use Rattle.conf_tree.proofs.read.+tree_of_value.Given as goal

abbrev pub invariant-list_of_values-loop-item : goal.invariant-list_of_values-loop-item
invariant-list_of_values-loop-item l = record {
  whole : items_of (map data_of l.list.items ++ map view (into_iter_items l.item-iterator)) ≡ items_view l.fn.items.items;
  documents : AreDocuments (list_data l.list.items);
  numbers : ItemsHaveWords (list_data l.list.items);
}

abbrev pub invariant-map_of_values-loop-name : goal.invariant-map_of_values-loop-name
invariant-map_of_values-loop-name l = record {
  whole : members_of (map named l.members.items ++ map named_value l.name-iterator) ≡ members_view l.fn.values.entries;
  documents : HasDocuments (members_of (map named l.members.items));
  numbers : MembersHaveWords (members_of (map named l.members.items));
}
