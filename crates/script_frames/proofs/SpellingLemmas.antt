-- The length of a frame is read back as it is spelled, and no other text is read as it.
use Rattle.std.proofs.Common.{ℕ, ◌^◌, ◌<◌, ◌≤◌, ◌≡◌, false, List, arith, Some}
use Rattle.std.specs.Prelude.{decimal}
use Rattle.unit_types.proofs.SpelledLemmas as spelled
use Rattle.script_frames.specs.Frames.{most_bytes, length_of}
use Rattle.script_frames.specs.Spelling.{has_byte}

pub length_back : (n : ℕ) → n ≤ most_bytes → length_of (decimal n) ≡ Some n
length_back n le = spelled.number_back most_bytes n le (omega (arith, le))

pub length_spelled : (text : List ℕ) (n : ℕ) → length_of text ≡ Some n → (n ≤ most_bytes) × (text ≡ decimal n)
length_spelled text n e = spelled.number_spelled most_bytes text n (omega arith) e

pub decimal_no_byte : (s n : ℕ) → s < 48 → n ≤ most_bytes → has_byte s (decimal n) ≡ false
decimal_no_byte s n low le = spelled.decimal_no_byte s n low (omega (arith, le))
