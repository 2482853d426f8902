use Rattle.std.proofs.Common.{ℕ, ◌<◌, ◌∙◌, ap, List, length, slice_index, sym, arith}
use Rattle.std.proofs.lemmas.Grind.{get_or_default_zero}
use Rattle.std.specs.Slots.{slots_counts, slots_items}
use mathlib.Core.Option.{some-injective}
use Rattle.atomic_table.proofs.Lists.{at_index}
use Rattle.app_queue.specs.Layout.{word_at, word_count}
use Rattle.app_queue.proofs.Places.{is_layout}
use Rattle.app_queue.proofs.closing.ClosedQueue.word.Goals as goal

pub word-requires : goal.word-requires
word-requires c =
    let closed = c.args.self.now in
    let inside : word_at closed.size c.args.place < word_count closed.size = (is_layout closed.size).there c.args.place c.requires in
    (omega (arith, c.word_at.ensures, inside, closed.full.1), closed.full.0)

pub returns : goal.returns
returns c =
    let closed = c.args.self.now in
    let words : List ℕ = slots_items closed.closed.words in
    let i : ℕ = c.word_at.result in
    let inside : word_at closed.size c.args.place < word_count closed.size = (is_layout closed.size).there c.args.place c.requires in
    let there : i < length words = omega (arith, (slots_counts closed.closed.words).0, closed.full.1, inside, c.word_at.ensures) in
    sym (some-injective (slice_index words i) c.word.result (sym (at_index words i (slice_index words i) there (sym (get_or_default_zero words i (slice_index words i) there))) ∙ c.word.ensures)) ∙ ap (slice_index words) c.word_at.ensures
