-- What one bit that changes does to the chunks of any words.
use Rattle.std.proofs.Common.{ℕ, ◌≡◌, ◌≢◌, ◌*◌, ◌/◌, ◌%◌, ◌^◌, ◌<◌, ◌==◌, inl, inr, ⊎_elim, sym, ap, ◌∙◌, arith}
use Rattle.std.specs.Prelude.{bit_and, bit_or}
use Rattle.std.specs.Int.{bit_at, bit_not, w64}
use Rattle.std.proofs.lemmas.Bool.{cases_eq}
use Rattle.std.proofs.lemmas.Nat.Bits.{bit_at_clear_same, bit_at_clear_other, bit_at_set_same, bit_at_set_other}
use Rattle.chunk_map.specs.Words.{is_free, Takes, Frees, Stays, SetsBit, SetsWord}

-- the bit is cleared, and set, by the masks that code uses
pub clears_bit : (word bit : ℕ) → bit < 64 → SetsBit word (bit_and word (bit_not w64 (1 * 2 ^ bit % 2 ^ 64))) bit 0
clears_bit word bit within = record { here = bit_at_clear_same w64 word bit within; others = λ i below_64 ne. bit_at_clear_other w64 word bit within i below_64 ne }

pub sets_bit : (word bit : ℕ) → bit < 64 → SetsBit word (bit_or word (1 * 2 ^ bit % 2 ^ 64)) bit 1
sets_bit word bit within = record { here = bit_at_set_same w64 word bit within; others = λ i below_64 ne. bit_at_set_other w64 word bit within i ne }

module _ (n : ℕ) (word word' : ℕ → ℕ) (chunk x : ℕ) (sets : SetsWord n word word' (chunk / 64) x) (value : ℕ) (bits : SetsBit (word (chunk / 64)) x (chunk % 64) value) where
  bit_here : is_free word' chunk ≡ (value == 1)
  bit_here = ap (λ (w : ℕ). bit_at w (chunk % 64) == 1) sets.here ∙ ap (λ (d : ℕ). d == 1) bits.here

  bit_there : (other : ℕ) → other < n → other ≢ chunk → is_free word' other ≡ is_free word other
  bit_there other lt ne =
      elim (cases_eq (other / 64) (chunk / 64)) [
        | inl same ↦
            let apart : other % 64 ≢ chunk % 64 = λ is. ne (omega (arith, same, is)) in
            ap (λ (k : ℕ). bit_at (word' k) (other % 64) == 1) same
            ∙ ap (λ (w : ℕ). bit_at w (other % 64) == 1) sets.here
            ∙ ap (λ (d : ℕ). d == 1) (bits.others (other % 64) (omega arith) apart)
            ∙ ap (λ (k : ℕ). bit_at (word k) (other % 64) == 1) (sym same)
        | inr differs ↦ ap (λ (w : ℕ). bit_at w (other % 64) == 1) (sets.others (other / 64) (omega (arith, lt)) differs)
      ]

-- a bit that was set is cleared
pub bit_takes : (n : ℕ) (word word' : ℕ → ℕ) (chunk x : ℕ) → SetsWord n word word' (chunk / 64) x → bit_at (word (chunk / 64)) (chunk % 64) ≡ 1 → SetsBit (word (chunk / 64)) x (chunk % 64) 0 → Takes n word word' chunk
bit_takes n word word' chunk x sets was bits = record {
  was = ap (λ (d : ℕ). d == 1) was;
  here = bit_here n word word' chunk x sets 0 bits;
  others = bit_there n word word' chunk x sets 0 bits;
}

-- a bit that was clear is set
pub bit_frees : (n : ℕ) (word word' : ℕ → ℕ) (chunk x : ℕ) → SetsWord n word word' (chunk / 64) x → bit_at (word (chunk / 64)) (chunk % 64) ≡ 0 → SetsBit (word (chunk / 64)) x (chunk % 64) 1 → Frees n word word' chunk
bit_frees n word word' chunk x sets was bits = record {
  was = ap (λ (d : ℕ). d == 1) was;
  here = bit_here n word word' chunk x sets 1 bits;
  others = bit_there n word word' chunk x sets 1 bits;
}

-- a bit that was this value already
pub bit_stays : (n : ℕ) (word word' : ℕ → ℕ) (chunk x value : ℕ) → SetsWord n word word' (chunk / 64) x → bit_at (word (chunk / 64)) (chunk % 64) ≡ value → SetsBit (word (chunk / 64)) x (chunk % 64) value → Stays n word word'
bit_stays n word word' chunk x value sets was bits other lt =
    ⊎_elim
    (λ is. ap (is_free word') is ∙ bit_here n word word' chunk x sets value bits ∙ sym (ap (is_free word) is ∙ ap (λ (d : ℕ). d == 1) was))
    (λ ne. bit_there n word word' chunk x sets value bits other lt ne)
    (cases_eq other chunk)
