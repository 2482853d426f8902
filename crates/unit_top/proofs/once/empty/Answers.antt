use Rattle.std.proofs.Common.{◌∙◌, ap, subst, sym}
use Rattle.serde_json.specs.Data.{object}
use Rattle.conf_tree.specs.Document.{IsDocument}
use Rattle.conf_tree.proofs.Views.{data_of-Object}
use Rattle.unit_top.proofs.once.empty.Goals as goal

pub returns-clause-document : goal.returns-clause-document
returns-clause-document c = subst IsDocument (sym (data_of-Object c.new.result ∙ ap object c.new.ensures)) tt
