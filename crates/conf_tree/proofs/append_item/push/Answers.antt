use Rattle.std.proofs.Common.{◌∙◌, ap, sym}
use Rattle.serde_json.specs.Data.{Items, array}
use Rattle.conf_tree.specs.Paths.{changed}
use Rattle.conf_tree.specs.View.{list_data}
use Rattle.conf_tree.proofs.Items.{push_item-list}
use Rattle.conf_tree.proofs.append_item.push.Goals as goal

pub returns-clause-ok : goal.returns-clause-ok
returns-clause-ok c =
    ap (λ (ds : Items). changed (array ds)) (push_item-list c.args.items.now.items c.args.value ∙ ap list_data (sym c.in_ok-push.ensures.items))
