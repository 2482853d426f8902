use Rattle.std.proofs.Common.{ℕ, set, subst, sym}
use Rattle.fabric_words.proofs.Standing.{set_word}
use Rattle.fabric_words.specs.Offsets.{word_in}
use Rattle.fabric_words.specs.Places.{Sets}
use Rattle.fabric_words.proofs.layout.Layout.set_word.Goals as goal

pub returns-clause-sets : goal.returns-clause-sets
returns-clause-sets c =
    let s = c.args.self.now.shape in
    let words = c.args.words.now in
    subst (λ (i : ℕ). Sets s (word_in s words) (word_in s (set words i c.args.value)) c.args.place c.args.value) (sym c.offset.ensures.value) (set_word s words c.args.place c.args.value c.requires.1 c.requires.0)
