use Rattle.std.proofs.Common.{rules, ◌≡◌, length}
use Rattle.serde_json.specs.Events.{members_len}
use Rattle.conf_tree.specs.View.{map_data}
use Rattle.conf_tree.specs.declared.tree.TreeMap.{out-TreeMap}
use Rattle.conf_tree.proofs.Listed.{members_len-named}
use Rattle.conf_tree.proofs.tree.TreeMap.len.Goals as goal

pub returns : goal.returns
returns c =
    let e : members_len (map_data c.args.self.now) ≡ length (out-TreeMap c.args.self.now).members.items = members_len-named _ in
    search (rules, e)
