use Rattle.std.proofs.Common.{◌∷◌, ◌∙◌, List, ℕ, IsUtf8, subst, sym, ap}
use Rattle.std.proofs.lemmas.List.Elements.{recursion_from_All, All-same}
use Rattle.serde_json.specs.Data.{object}
use Rattle.conf_tree.specs.Document.{IsDocument}
use Rattle.conf_tree.specs.Paths.{remove, changed}
use Rattle.conf_tree.specs.View.{data_of}
use Rattle.conf_tree.proofs.Documents.{remove_document, removes_document}
use Rattle.conf_tree.proofs.Through.{remove_whole}
use Rattle.conf_tree.proofs.Views.{data_of-Object}
use Rattle.conf_tree.proofs.remove_value.remove.Goals as goal

pub returns-in_default-clause-answer : goal.returns-in_default-clause-answer
returns-in_default-clause-answer c =
    ap (λ (ks : List (List ℕ)). remove ks (data_of c.args.tree.now)) (sym c.as_slice.ensures.keys)
    ∙ remove_whole c.as_slice.result.now (data_of c.args.tree.now) c.in_default.ensures.cases
    ∙ sym (ap changed (data_of-Object c.new.result ∙ ap object c.new.ensures))

pub returns-in_default-clause-document : goal.returns-in_default-clause-document
returns-in_default-clause-document c = subst IsDocument (sym (data_of-Object c.new.result ∙ ap object c.new.ensures)) tt

pub returns-clause-document : goal.returns-clause-document
returns-clause-document c =
    let keys = c.in-Some.key.now ∷ c.in-Some.rest.now in
    let d = data_of c.args.tree.now in
    let all = All-same IsUtf8 keys c.as_slice.result.now (sym c.in-Some.ensures.cases.0) c.as_slice.ensures.utf8 in
    removes_document c.remove_along.result (remove keys d) d (data_of c.remove_along.new.tree) c.requires (remove_document keys d (recursion_from_All IsUtf8 keys all) c.requires) c.remove_along.ensures
