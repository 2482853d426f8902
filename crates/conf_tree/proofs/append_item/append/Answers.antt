use Rattle.std.proofs.Common.{IsUtf8}
use Rattle.std.proofs.lemmas.List.Elements.{recursion_from_All}
use Rattle.conf_tree.specs.Paths.{append}
use Rattle.conf_tree.specs.View.{data_of}
use Rattle.conf_tree.proofs.Documents.{append_document, appends_document}
use Rattle.conf_tree.proofs.append_item.append.Goals as goal

pub returns-clause-document : goal.returns-clause-document
returns-clause-document c =
    let keys = c.as_slice.result.now in
    let v = data_of c.args.value in
    let d = data_of c.args.tree.now in
    appends_document c.append_along.result (append keys v d) d (data_of c.append_along.new.tree) c.requires.tree
    (append_document keys v d (recursion_from_All IsUtf8 keys c.as_slice.ensures.utf8) c.requires.value c.requires.tree) c.append_along.ensures.ok c.append_along.ensures.err
