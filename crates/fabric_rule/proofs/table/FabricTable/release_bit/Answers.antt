use Rattle.std.proofs.Common.{◌∙◌, arith}
use Rattle.fabric_words.proofs.Standing.{within}
use Rattle.fabric_rule.specs.Claiming.{word_of_chunk}
use Rattle.fabric_rule.proofs.BitSteps.{chunk_is_there, word_number_is}
use Rattle.fabric_rule.proofs.BitWords.{frees}
use Rattle.fabric_rule.proofs.table.FabricTable.release_bit.Goals as goal

pub or_word-requires-clause-there : goal.or_word-requires-clause-there
or_word-requires-clause-there g c =
    let table = c.args.self.now.table.shared in
    let inside = (within table.key (word_of_chunk table.key c.args.segments c.args.chunk) (omega (arith, word_number_is table.key c.args.segments c.args.chunk, chunk_is_there table.key c.args.segments c.args.chunk c.requires.there))).1 in
    omega (arith, c.requires.word, inside, c.args.self.now.wide)

pub or_word-requires-clause-allowed : goal.or_word-requires-clause-allowed
or_word-requires-clause-allowed g c =
    let table = c.args.self.now.table.shared in
    let seat = c.args.seat.now.seat in
    rw c.requires.word
    (λ s holds homes at fits. frees g.H.Handlers.reply_of table.key seat.id seat.me.0 seat.me.1 s holds at c.args.seat.now.carries c.args.segments c.args.chunk (homes ∙ c.args.self.now.slots) c.requires.empty)

pub invariant_of-seat : goal.invariant_of-seat
invariant_of-seat g c = record { carries = c.or_word.ensures.told.0 }

pub returns-clause-told : goal.returns-clause-told
returns-clause-told g c = c.or_word.ensures.told.1
