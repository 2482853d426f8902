use Rattle.std.proofs.Common.{◌∙◌, refl, arith}
use Rattle.fabric_words.proofs.Filling.{map_done, map_goes_on, no_words}
use Rattle.fabric_words.specs.Offsets.{word_in}
use Rattle.fabric_words.proofs.layout.Layout.free_chunks.Goals as goal

pub loop-number-init : goal.loop-number-init
loop-number-init c = (no_words c.args.self.now.shape (word_in c.args.self.now.shape c.args.words.now), refl)

pub loop-number-preserved : goal.loop-number-preserved
loop-number-preserved c =
    let s = c.args.self.now.shape in
    let now = c.loop-number.invariant in
    (map_goes_on s (word_in s c.args.words.now) (word_in s c.loop-number.words) (word_in s c.set_word.new.words) c.loop-number.number (omega (arith, c.loop-number-test.true, c.segments-number-end.ensures.value)) now.0 c.set_word.ensures.sets, c.set_word.ensures.long ∙ now.1)

pub returns-clause-free : goal.returns-clause-free
returns-clause-free c =
    let s = c.args.self.now.shape in
    map_done s (word_in s c.args.words.now) (word_in s c.loop-number.words) c.loop-number.number (omega (arith, c.loop-number-test.false, c.segments-number-end.ensures.value)) c.loop-number.invariant.0

pub returns-clause-others : goal.returns-clause-others
returns-clause-others c = c.loop-number.invariant.0.others
