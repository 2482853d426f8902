-- The words of a chunk map as plain numbers. `word k` is word k of the map, and its bit b is chunk 64 * k + b, where set means
-- free. A segment has ten words, so 640 chunks. Only chunks below n count.
use Rattle.std.specs.Prelude.{ℕ, ◌*◌, ◌/◌, ◌%◌, ◌≡◌, ◌≢◌, ◌<◌, ◌==◌, Bool, true, false, cond}
use Rattle.std.specs.Int.{bit_at}
use Rattle.unit_model.specs.Weights.{below}

abbrev pub is_free : (ℕ → ℕ) → ℕ → Bool
is_free word chunk = bit_at (word (chunk / 64)) (chunk % 64) == 1

-- what the free chunks weigh
abbrev pub free_weight : (ℕ → ℕ) → ℕ → (ℕ → ℕ) → ℕ
free_weight word n f = below (λ chunk. cond (is_free word chunk) (f chunk) 0) n

-- the chunk was free and isn't, and no other one changed
pub record Takes (n : ℕ) (word word' : ℕ → ℕ) (chunk : ℕ) : Type 0 where
  pub was : is_free word chunk ≡ true
  pub here : is_free word' chunk ≡ false
  pub others : (other : ℕ) → other < n → other ≢ chunk → is_free word' other ≡ is_free word other

-- the chunk wasn't free and is, and no other one changed
pub record Frees (n : ℕ) (word word' : ℕ → ℕ) (chunk : ℕ) : Type 0 where
  pub was : is_free word chunk ≡ false
  pub here : is_free word' chunk ≡ true
  pub others : (other : ℕ) → other < n → other ≢ chunk → is_free word' other ≡ is_free word other

-- no chunk changed
abbrev pub Stays : ℕ → (ℕ → ℕ) → (ℕ → ℕ) → Type 0
Stays n word word' = (chunk : ℕ) → chunk < n → is_free word' chunk ≡ is_free word chunk

-- ---- changes of single words and bits

-- one bit of a word became this value, and no other bit changed
pub record SetsBit (old new bit value : ℕ) : Type 0 where
  pub here : bit_at new bit ≡ value
  pub others : (i : ℕ) → i < 64 → i ≢ bit → bit_at new i ≡ bit_at old i

-- one word became x, and no other word of the n chunks changed
pub record SetsWord (n : ℕ) (word word' : ℕ → ℕ) (number x : ℕ) : Type 0 where
  pub here : word' number ≡ x
  pub others : (other : ℕ) → 64 * other < n → other ≢ number → word' other ≡ word other
