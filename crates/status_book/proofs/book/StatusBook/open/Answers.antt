use Rattle.std.proofs.Common.{◌∙◌}
use Rattle.status_book.proofs.Steps.{opens}
use Rattle.status_book.proofs.book.StatusBook.open.Goals as goal

pub of_words-requires : goal.of_words-requires
of_words-requires c = opens c.args.engines c.as_slice.result.now (c.as_slice.ensures.value ∙ c.in_ok-words.ensures.items_if_clones_equal (λ y same. same))
