-- A word that is read from a closed table.
use Rattle.std.proofs.Common.{ℕ, zero, suc, ◌≡◌, List, [], ◌∷◌, slice_index, sym}
use mathlib.Core.Option.{some, some-injective, some-ne-none}
use lib.ListN.{get_elem?}

pub word_read : (words : List ℕ) (i x : ℕ) → get_elem? words i ≡ some x → x ≡ slice_index words i
word_read [] i x at = absurd (some-ne-none x (sym at))
word_read (y ∷ ys) zero x at = sym (some-injective y x at)
word_read (y ∷ ys) (suc i) x at = word_read ys i x at
