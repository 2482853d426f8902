-- The numbers of a run word.
use Rattle.std.proofs.Common.{◌≡◌, ◌<◌, ◌^◌, ℕ, arith}
use Rattle.port_message.specs.Words.{numbers_of, pack_of}
use Rattle.unit_model.specs.declared.runs.Run.{Run}

-- the word of a run has the run's numbers
pub numbers_of_packed : (run : Run) → run.chunk < 2 ^ 16 → run.size < 2 ^ 32 → numbers_of (pack_of run) ≡ run
numbers_of_packed run small short = grind arith

-- and a word is that of its numbers
pub packed_numbers : (word : ℕ) → pack_of (numbers_of word) ≡ word
packed_numbers word = omega arith
