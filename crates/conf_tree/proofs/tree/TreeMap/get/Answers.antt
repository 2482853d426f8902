use Rattle.std.proofs.Common.{◌∙◌, ap, sym, Some}
use Rattle.serde_json.specs.Data.{object}
use Rattle.conf_tree.specs.View.{data_of, map_data}
use Rattle.conf_tree.specs.declared.tree.Member.{Member}
use Rattle.conf_tree.specs.declared.tree.TreeMap.{out-TreeMap}
use Rattle.conf_tree.proofs.Children.{child_member}
use Rattle.conf_tree.proofs.Documents.{child_document}
use Rattle.conf_tree.proofs.Members.{get_unnamed}
use Rattle.conf_tree.proofs.tree.TreeMap.get.Goals as goal

pub returns-in-Ok : goal.returns-in-Ok
returns-in-Ok c =
    let k = c.args.key.now in
    let map = c.args.self.now in
    let found = ap (λ (m : Member). Some (data_of m.value)) c.index.ensures ∙ sym (child_member k (out-TreeMap map).members.items c.in-Ok.index c.index.result.now c.in-Ok.ensures) in
    record { value = found; document = child_document k (object (map_data map)) (data_of c.index.result.now.value) c.requires (sym found) }

pub returns-in-Err : goal.returns-in-Err
returns-in-Err c = record { value = sym (get_unnamed c.args.key.now _ _ c.in-Err.ensures); document = tt }
