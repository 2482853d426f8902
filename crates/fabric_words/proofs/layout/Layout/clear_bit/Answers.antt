use Rattle.std.proofs.Common.{ℕ, ◌*◌, ◌/◌, ◌%◌, ◌^◌, subst, arith}
use Rattle.std.specs.Int.{bit_not, w64}
use Rattle.std.specs.Prelude.{bit_and}
use Rattle.chunk_map.proofs.Bits.{clears_bit}
use Rattle.chunk_map.specs.Words.{SetsBit}
use Rattle.fabric_words.proofs.EachStep.{chunk_set}
use Rattle.fabric_words.specs.Offsets.{word_in}
use Rattle.fabric_words.specs.Places.{SetsChunk}
use Rattle.fabric_words.specs.declared.place.Place.TheVariants.{Chunks}
use Rattle.fabric_words.proofs.layout.Layout.clear_bit.Goals as goal

pub returns-clause-sets : goal.returns-clause-sets
returns-clause-sets c =
    let s = c.args.self.now.shape in
    let number : ℕ = c.chunk_number-number.result in
    let x : ℕ = c.word-word.result in
    let bits : SetsBit (word_in s c.args.words.now (Chunks (number / 64))) (bit_and x (bit_not w64 (1 * 2 ^ (number % 64) % 2 ^ 64))) (number % 64) 0 =
    subst (λ (w : ℕ). SetsBit w (bit_and x (bit_not w64 (1 * 2 ^ (number % 64) % 2 ^ 64))) (number % 64) 0) c.word-word.ensures (clears_bit x (number % 64) (omega arith)) in
    subst (λ (n : ℕ). SetsChunk s (word_in s c.args.words.now) (word_in s c.set_word.new.words) n 0) c.chunk_number-number.ensures
    (chunk_set s (word_in s c.args.words.now) (word_in s c.set_word.new.words) number 0 (bit_and x (bit_not w64 (1 * 2 ^ (number % 64) % 2 ^ 64))) c.set_word.ensures.sets bits)
