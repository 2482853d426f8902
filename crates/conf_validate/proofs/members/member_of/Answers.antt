use Rattle.std.proofs.Common.{◌≡◌, ap, sym, ◌∙◌}
use Rattle.serde_json.specs.Find.{get}
use Rattle.conf_tree.specs.View.{data_of}
use Rattle.conf_tree.proofs.Views.{data_of-Object}
use Rattle.conf_validate.proofs.members.member_of.Goals as goal

pub returns-in-Object-clause-value : goal.returns-in-Object-clause-value
returns-in-Object-clause-value c =
    c.get.ensures.value ∙ sym (ap (get c.args.name.now) (ap data_of c.in-Object.is ∙ data_of-Object c.in-Object.map))
