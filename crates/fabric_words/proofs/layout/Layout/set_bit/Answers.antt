use Rattle.std.proofs.Common.{ℕ, ◌*◌, ◌/◌, ◌%◌, ◌^◌, subst, arith}
use Rattle.std.specs.Prelude.{bit_or}
use Rattle.chunk_map.proofs.Bits.{sets_bit}
use Rattle.chunk_map.specs.Words.{SetsBit}
use Rattle.fabric_words.proofs.EachStep.{chunk_set}
use Rattle.fabric_words.specs.Offsets.{word_in}
use Rattle.fabric_words.specs.Places.{SetsChunk}
use Rattle.fabric_words.specs.declared.place.Place.TheVariants.{Chunks}
use Rattle.fabric_words.proofs.layout.Layout.set_bit.Goals as goal

pub returns-clause-sets : goal.returns-clause-sets
returns-clause-sets c =
    let s = c.args.self.now.shape in
    let number : ℕ = c.chunk_number-number.result in
    let x : ℕ = c.word-word.result in
    let bits : SetsBit (word_in s c.args.words.now (Chunks (number / 64))) (bit_or x (1 * 2 ^ (number % 64) % 2 ^ 64)) (number % 64) 1 =
    subst (λ (w : ℕ). SetsBit w (bit_or x (1 * 2 ^ (number % 64) % 2 ^ 64)) (number % 64) 1) c.word-word.ensures (sets_bit x (number % 64) (omega arith)) in
    subst (λ (n : ℕ). SetsChunk s (word_in s c.args.words.now) (word_in s c.set_word.new.words) n 1) c.chunk_number-number.ensures
    (chunk_set s (word_in s c.args.words.now) (word_in s c.set_word.new.words) number 1 (bit_or x (1 * 2 ^ (number % 64) % 2 ^ 64)) c.set_word.ensures.sets bits)
