-- What the free chunks weigh after one chunk changed.
use Rattle.std.proofs.Common.{ℕ, ◌≡◌, ◌≢◌, ◌+◌, ◌<◌, ◌≤◌, Bool, true, false, cond, refl, ap, arith}
use Rattle.unit_model.specs.Weights.{below, is_number, one_if}
use Rattle.unit_model.proofs.Weights.{below_same, below_change, below_at, below_none, is_number_same, is_number_other}
use Rattle.chunk_map.specs.Words.{is_free, free_weight, Takes, Frees, Stays}

weight : (f : ℕ → ℕ) (chunk : ℕ) (free known : Bool) → free ≡ known → cond free (f chunk) 0 ≡ cond known (f chunk) 0
weight f chunk free known is = ap (λ (b : Bool). cond b (f chunk) 0) is

pub free_taken : (n : ℕ) (word word' : ℕ → ℕ) (chunk : ℕ) → chunk < n → Takes n word word' chunk → (f : ℕ → ℕ) → free_weight word' n f + f chunk ≡ free_weight word n f
free_taken n word word' chunk lt takes f =
    omega (
      arith,
      below_change (λ c. cond (is_free word c) (f c) 0) (λ c. cond (is_free word' c) (f c) 0) n chunk lt (λ i below_n ne. weight f i (is_free word' i) (is_free word i) (takes.others i below_n ne)),
      weight f chunk (is_free word chunk) true takes.was,
      weight f chunk (is_free word' chunk) false takes.here,
    )

pub free_freed : (n : ℕ) (word word' : ℕ → ℕ) (chunk : ℕ) → chunk < n → Frees n word word' chunk → (f : ℕ → ℕ) → free_weight word' n f ≡ free_weight word n f + f chunk
free_freed n word word' chunk lt frees f =
    omega (
      arith,
      below_change (λ c. cond (is_free word c) (f c) 0) (λ c. cond (is_free word' c) (f c) 0) n chunk lt (λ i below_n ne. weight f i (is_free word' i) (is_free word i) (frees.others i below_n ne)),
      weight f chunk (is_free word chunk) false frees.was,
      weight f chunk (is_free word' chunk) true frees.here,
    )

pub free_stays : (n : ℕ) (word word' : ℕ → ℕ) → Stays n word word' → (f : ℕ → ℕ) → free_weight word' n f ≡ free_weight word n f
free_stays n word word' stays f = below_same (λ c. cond (is_free word' c) (f c) 0) (λ c. cond (is_free word c) (f c) 0) n (λ i lt. weight f i (is_free word' i) (is_free word i) (stays i lt))

-- all free at first
pub free_all : (n : ℕ) (word : ℕ → ℕ) → ((chunk : ℕ) → chunk < n → is_free word chunk ≡ true) → (f : ℕ → ℕ) → free_weight word n f ≡ below f n
free_all n word all f = below_same (λ c. cond (is_free word c) (f c) 0) f n (λ i lt. weight f i (is_free word i) true (all i lt))

-- a chunk that weighs nothing among the free ones isn't free
pub not_free : (n : ℕ) (word : ℕ → ℕ) (chunk : ℕ) → chunk < n → free_weight word n (is_number chunk) ≡ 0 → is_free word chunk ≡ false
not_free n word chunk lt none = by (is_free word chunk) (omega (arith, none, below_at (λ c. cond (is_free word c) (is_number chunk c) 0) n chunk lt))
  where
    by : (free : Bool) → cond free (is_number chunk chunk) 0 ≤ 0 → free ≡ false
    by false le = λ i. false
    by true le = absurd (omega (arith, le, is_number_same chunk))

-- what one chunk alone weighs among the free ones
pub free_one : (n : ℕ) (word : ℕ → ℕ) (chunk : ℕ) → chunk < n → free_weight word n (is_number chunk) ≡ one_if (is_free word chunk)
free_one n word chunk lt =
    omega (
      arith,
      below_change (λ i. 0) (λ i. cond (is_free word i) (is_number chunk i) 0) n chunk lt (λ i within ne. none i ne (is_free word i)),
      below_none (λ i. 0) n (λ i within. refl),
      here (is_free word chunk),
    )
  where
    none : (i : ℕ) → i ≢ chunk → (b : Bool) → cond b (is_number chunk i) 0 ≡ 0
    none i ne true = is_number_other chunk i ne
    none i ne false = refl

    here : (b : Bool) → cond b (is_number chunk chunk) 0 ≡ one_if b
    here true = is_number_same chunk
    here false = refl
