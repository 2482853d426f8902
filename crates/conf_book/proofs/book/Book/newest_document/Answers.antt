use Rattle.std.proofs.Common.{◌≡◌, ◌∙◌, ◌+◌, ◌-◌, ◌<◌, length, ap, arith}
use Rattle.conf_tree.specs.View.{data_of}
use Rattle.conf_book.specs.Books.{IsPublishable, Publications, documents_of, first_document, newest_document}
use Rattle.conf_book.proofs.BookLemmas.{each_is, last_is}
use Rattle.conf_book.proofs.book.Book.newest_document.Goals as goal

pub returns-clause-is : goal.returns-clause-is
returns-clause-is c =
    let xs = c.self.inside.documents.items in
    let count : c.len.result - 1 + 1 ≡ length xs = omega (arith, c.self.inside.documents.ok.0, c.self.invariant.begun) in
    last_is data_of first_document xs (c.len.result - 1) c.index.result.now count c.index.ensures
    ∙ ap (λ (b : Publications). newest_document (documents_of b)) c.self.view_is

pub returns-clause-document : goal.returns-clause-document
returns-clause-document c =
    let xs = c.self.inside.documents.items in
    let within : c.len.result - 1 < length xs = omega (arith, c.self.inside.documents.ok.0, c.self.invariant.begun) in
    (each_is data_of (IsPublishable c.self.inside.names.items) xs (c.len.result - 1) c.index.result.now within c.index.ensures c.self.invariant.publishable).document
