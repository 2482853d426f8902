use Rattle.std.proofs.Common.{ℕ, ◌∙◌, List, ap, slice_index}
use Rattle.fabric_words.proofs.Filling.{all_opened, zeros}
use Rattle.fabric_words.proofs.Opened.{opened_shows}
use Rattle.fabric_words.specs.Offsets.{offset_of, word_in}
use Rattle.fabric_words.specs.Opened.{IsOpened}
use Rattle.fabric_words.proofs.layout.Layout.open_words.Goals as goal

pub returns-clause-opened : goal.returns-clause-opened
returns-clause-opened c =
    let s = c.args.self.now.shape in
    all_opened s (word_in s c.args.words.now) (word_in s c.free_chunks.new.words) (word_in s c.open_queues.new.words) (word_in s c.set_word.new.words) (word_in s c.set_word-2.new.words) (word_in s c.set_word-3.new.words)
    c.args.self.now.valid (λ place. ap (λ (words : List ℕ). slice_index words (offset_of s place)) c.requires ∙ zeros s place)
    c.free_chunks.ensures.others c.free_chunks.ensures.free c.open_queues.ensures.others c.open_queues.ensures.begun c.set_word.ensures.sets c.set_word-2.ensures.sets c.set_word-3.ensures.sets

pub returns-clause-shows : goal.returns-clause-shows
returns-clause-shows c =
    let s = c.args.self.now.shape in
    let opened : IsOpened s (word_in s c.set_word-3.new.words) =
    all_opened s (word_in s c.args.words.now) (word_in s c.free_chunks.new.words) (word_in s c.open_queues.new.words) (word_in s c.set_word.new.words) (word_in s c.set_word-2.new.words) (word_in s c.set_word-3.new.words)
    c.args.self.now.valid (λ place. ap (λ (words : List ℕ). slice_index words (offset_of s place)) c.requires ∙ zeros s place)
    c.free_chunks.ensures.others c.free_chunks.ensures.free c.open_queues.ensures.others c.open_queues.ensures.begun c.set_word.ensures.sets c.set_word-2.ensures.sets c.set_word-3.ensures.sets in
    opened_shows s (word_in s c.set_word-3.new.words) c.args.self.now.valid opened
