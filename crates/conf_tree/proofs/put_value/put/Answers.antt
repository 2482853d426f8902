use Rattle.std.proofs.Common.{IsUtf8}
use Rattle.std.proofs.lemmas.List.Elements.{recursion_from_All}
use Rattle.conf_tree.specs.Paths.{put}
use Rattle.conf_tree.specs.View.{data_of}
use Rattle.conf_tree.proofs.Documents.{put_document, puts_document}
use Rattle.conf_tree.proofs.put_value.put.Goals as goal

pub returns-clause-document : goal.returns-clause-document
returns-clause-document c =
    let keys = c.as_slice.result.now in
    let v = data_of c.args.value in
    let d = data_of c.args.tree.now in
    puts_document c.put_along.result (put keys v d) d (data_of c.put_along.new.tree) c.requires.tree
    (put_document keys v d (recursion_from_All IsUtf8 keys c.as_slice.ensures.utf8) c.requires.value c.requires.tree) c.put_along.ensures.ok c.put_along.ensures.err
