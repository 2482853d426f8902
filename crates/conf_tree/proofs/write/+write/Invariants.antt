use Rattle.std.proofs.Common.{◌≡◌, ◌++◌, drop, map}
use Rattle.json.specs.Json as json
use Rattle.json.specs.Tree.{items_tokens, json_tokens, members_tokens}
use Rattle.serde_json.specs.Written.{items_outline, members_outline}
use Rattle.conf_tree.specs.Document.{AreDocuments, AreMembers}
use Rattle.conf_tree.specs.View.{list_data, map_data, members_of, named}
use Rattle.conf_tree.proofs.write.+write.Given as goal

-- what is written and what is left to write are all of it
abbrev pub invariant-write_items-loop-item : goal.invariant-write_items-loop-item
invariant-write_items-loop-item l = record {
  before : l.out.before ≡ l.fn.out.before;
  tokens : l.out.tokens ++ items_tokens (items_outline (list_data (drop l.item-index l.item-items))) ≡ l.fn.out.tokens ++ json_tokens (json.array (items_outline (list_data l.items.items)));
  documents : AreDocuments (list_data (drop l.item-index l.item-items));
}

abbrev pub invariant-write_members-loop-member : goal.invariant-write_members-loop-member
invariant-write_members-loop-member l = record {
  before : l.out.before ≡ l.fn.out.before;
  tokens : l.out.tokens ++ members_tokens (members_outline (members_of (map named (drop l.member-index l.member-items)))) ≡ l.fn.out.tokens ++ json_tokens (json.object (members_outline (map_data l.map)));
  documents : AreMembers (members_of (map named (drop l.member-index l.member-items)));
}
