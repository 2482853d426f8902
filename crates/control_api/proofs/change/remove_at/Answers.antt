use Rattle.std.proofs.Common.{◌≡◌, ◌∙◌, length, ap, sym, subst, arith}
use Rattle.std.proofs.lemmas.Grind.{common_steps}
use Rattle.serde_json.specs.Data.{object}
use Rattle.conf_tree.specs.Document.{IsDocument}
use Rattle.conf_tree.specs.Paths.{changed}
use Rattle.conf_tree.specs.View.{data_of}
use Rattle.conf_tree.proofs.Views.{data_of-Object}
use Rattle.control_api.proofs.KeyLemmas.{whole_removed}
use Rattle.control_api.proofs.change.remove_at.Goals as goal

pub returns-then-is_empty-clause-is : goal.returns-then-is_empty-clause-is
returns-then-is_empty-clause-is c =
    let none : length c.args.keys.items ≡ 0 = grind (arith, common_steps) in
    ap changed (data_of-Object c.new.result ∙ ap object c.new.ensures) ∙ sym (whole_removed c.args.keys.items (data_of c.args.document.now) none)

pub returns-then-is_empty-clause-sound : goal.returns-then-is_empty-clause-sound
returns-then-is_empty-clause-sound c = subst IsDocument (sym (data_of-Object c.new.result ∙ ap object c.new.ensures)) tt
