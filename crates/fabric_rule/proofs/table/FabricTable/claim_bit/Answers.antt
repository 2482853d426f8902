use Rattle.std.proofs.Common.{◌%◌, arith}
use Rattle.std.proofs.lemmas.Nat.Bits.{shr_and_one}
use Rattle.fabric_words.proofs.Standing.{within}
use Rattle.fabric_rule.specs.Claiming.{word_of_chunk}
use Rattle.fabric_rule.proofs.BitSteps.{chunk_is_there, word_number_is}
use Rattle.fabric_rule.proofs.BitWords.{clears}
use Rattle.fabric_rule.proofs.table.FabricTable.claim_bit.Goals as goal

pub and_word-found-requires-clause-there : goal.and_word-found-requires-clause-there
and_word-found-requires-clause-there g c =
    let table = c.args.self.now.table.shared in
    let may = c.requires.may in
    let inside = (within table.key (word_of_chunk table.key c.args.segments c.args.chunk) (omega (arith, word_number_is table.key c.args.segments c.args.chunk, chunk_is_there table.key c.args.segments c.args.chunk may.there))).1 in
    omega (arith, c.requires.word, inside, c.args.self.now.wide)

pub and_word-found-requires-clause-allowed : goal.and_word-found-requires-clause-allowed
and_word-found-requires-clause-allowed g c =
    let table = c.args.self.now.table.shared in
    let seat = c.args.seat.now.seat in
    rw c.requires.word
    (λ s holds homes at fits. clears g.H.Handlers.reply_of table.key seat.id seat.me.0 seat.me.1 s holds at c.args.seat.now.carries c.args.segments c.args.chunk c.requires.may fits)

pub invariant_of-seat : goal.invariant_of-seat
invariant_of-seat g c = record { carries = c.and_word-found.ensures.told.0 }

pub returns-clause-told : goal.returns-clause-told
returns-clause-told g c = rw (shr_and_one c.and_word-found.result (c.args.chunk % 64)) c.and_word-found.ensures.told.1
