-- Stretches of one length, joined, are the bytes that were cut.
use Rattle.std.proofs.Common.{◌≡◌, ℕ, zero, suc, ◌+◌, ◌-◌, ◌*◌, ◌/◌, ◌<◌, ◌≤◌, List, [], ◌∷◌, ◌++◌, length, take, drop, get_or, min, map, sym, ap, ap₂, ◌∙◌, arith}
use Rattle.std.specs.List.{concat, range_with_len}
use Rattle.std.proofs.lemmas.List.{append-nil, take_all, length-take, length-drop}
use Rattle.std.proofs.Math.Nat.{mul-le-mul_left}
use Rattle.std.proofs.Math.Seq.{take-add}
use Rattle.std.proofs.lemmas.List.Folds.{concat-append}
use Rattle.std.proofs.lemmas.List.FromFn.{length-map-range_with_len, get_or-map-range_with_len, map-range_with_len_more}
use Rattle.request_context.specs.Parts.{IsCut, stretch_count, stretch_of, stretches_of}

-- each of them begins before the end
pub begins : (size len number : ℕ) → 0 < size → number < (len + (size - 1)) / size → size * number < len
begins size len number some lt =
    let count = (len + (size - 1)) / size in
    let next : number + 1 ≤ count = omega arith in
    let all : size * count ≤ len + (size - 1) = omega arith in
    let below : size * (number + 1) ≤ size * count = mul-le-mul_left size next in
    omega (arith, below, all, some)

-- so a stretch with a number below their count begins within the bytes
pub begins_within : (size : ℕ) (bytes : List ℕ) (number : ℕ) → 0 < size → number < stretch_count size bytes → size * number < length bytes
unfolding stretch_count
begins_within size bytes number some lt = begins size (length bytes) number some lt

-- the first of them, joined, are a front of the bytes
pub front_joined : (size : ℕ) (bytes : List ℕ) (n : ℕ) → concat (map (stretch_of size bytes) (range_with_len 0 n)) ≡ take (size * n) bytes
unfolding stretch_of
front_joined size bytes zero = let none : 0 ≡ size * 0 = omega arith in ap (λ (k : ℕ). take k bytes) none
front_joined size bytes (suc n) =
    let one : suc n ≡ n + 1 = omega arith in
    let size_more : size * n + size ≡ size * suc n = omega arith in
    let more : map (stretch_of size bytes) (range_with_len 0 (n + 1)) ≡ map (stretch_of size bytes) (range_with_len 0 n) ++ stretch_of size bytes n ∷ [] = map-range_with_len_more (stretch_of size bytes) 0 n n (omega arith) in
    ap (λ (k : ℕ). concat (map (stretch_of size bytes) (range_with_len 0 k))) one
    ∙ ap concat more
    ∙ concat-append (map (stretch_of size bytes) (range_with_len 0 n)) (stretch_of size bytes n ∷ [])
    ∙ ap₂ (λ (x : List ℕ) (y : List ℕ). x ++ y) (front_joined size bytes n) (append-nil (take size (drop (size * n) bytes)))
    ∙ sym (take-add (size * n) size bytes)
    ∙ ap (λ (k : ℕ). take k bytes) size_more

-- of at least one byte each
pub is_cut : (size : ℕ) (bytes : List ℕ) → 0 < size → IsCut size bytes (stretches_of size bytes)
unfolding stretches_of stretch_count stretch_of
is_cut size bytes some =
    let count = (length bytes + (size - 1)) / size in
    let of = stretch_of size bytes in
    let counted : length (stretches_of size bytes) ≡ count = length-map-range_with_len of 0 count in
    let enough : length bytes ≤ size * count = omega arith in
    let at : (number : ℕ) → number < length (stretches_of size bytes) → get_or (stretches_of size bytes) number [] ≡ take size (drop (size * number) bytes) =
    λ number lt. get_or-map-range_with_len of 0 count number number [] (omega arith) (omega arith) in
    let long : (number : ℕ) → number < length (stretches_of size bytes) → length (get_or (stretches_of size bytes) number []) ≡ min size (length bytes - size * number) =
    λ number lt. ap length (at number lt) ∙ length-take size (drop (size * number) bytes) ∙ ap (λ (k : ℕ). min size k) (length-drop (size * number) bytes) in
    record {
      joined = front_joined size bytes count ∙ take_all (size * count) bytes enough;
      count = counted;
      each = at;
      lengths = long;
      full = λ number lt.
          let next : size * (number + 1) < length bytes = begins size (length bytes) (number + 1) some (omega (arith, counted)) in
          omega (arith, long number (omega arith), next);
      filled = λ number lt.
          let this : size * number < length bytes = begins size (length bytes) number some (omega (arith, counted)) in
          omega (arith, long number lt, this, some);
    }
