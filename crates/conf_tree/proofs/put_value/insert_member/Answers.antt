use Rattle.std.proofs.Common.{◌≡◌, ◌∙◌, ap, sym, map, List, ℕ}
use Rattle.std.specs.List.{insert}
use Rattle.serde_json.specs.Data.{Members, object}
use Rattle.conf_tree.specs.Paths.{changed}
use Rattle.conf_tree.specs.View.{data_of, members_of, named}
use Rattle.conf_tree.specs.declared.tree.Member.{Member}
use Rattle.conf_tree.specs.declared.tree.TreeMap.{out-TreeMap}
use Rattle.conf_tree.specs.declared.tree.Tree.TheViews.{roll-Member}
use Rattle.conf_tree.proofs.Views.{map_data-made}
use Rattle.conf_tree.proofs.Listed.{map-insert}
use Rattle.conf_tree.proofs.Members.{put_unnamed}
use Rattle.conf_tree.proofs.put_value.insert_member.Goals as goal

pub returns-clause-ok : goal.returns-clause-ok
returns-clause-ok c =
    let ms = (out-TreeMap c.args.members.now).members.items in
    let put = put_unnamed c.args.key.now (data_of c.args.value) (map named ms) c.args.index c.requires in
    let new : Member = roll-Member (record { key = c.in_ok-key.key; value = c.args.value }) in
    let key : named new ≡ (c.args.key.now, data_of c.args.value) = ap (λ (l : List ℕ). (l, data_of c.args.value)) (c.in_ok-key.ensures ∙ c.as_slice.ensures) in
    ap (λ (ds : Members). changed (object ds))
    (put ∙ ap (λ e. members_of (insert (map named ms) c.args.index e)) (sym key) ∙ ap members_of (sym (map-insert named ms c.args.index new) ∙ ap (map named) (sym c.in_ok-insert.ensures.items)) ∙ sym (map_data-made c.insert.new.self))
