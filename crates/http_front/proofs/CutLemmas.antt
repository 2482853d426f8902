-- A list cut at the place of its first byte that passes a test.
use Rattle.std.proofs.Common.{ℕ, ◌≡◌, ◌+◌, ap, sym, List, [], take, drop, Bool, Some, None, arith}
use Rattle.std.specs.List.{position, position_or_len, before_first, after_first}
use Rattle.std.proofs.lemmas.List.{take_all}
use Rattle.http_front.proofs.Cuts.{place_some, place_none, drop_past}

pub before_at : (p : ℕ → Bool) (xs : List ℕ) (n : ℕ) → Some n ≡ position p xs → take n xs ≡ before_first p xs
before_at p xs n place = ap (λ k. take k xs) (place_some p xs n place)

pub after_at : (p : ℕ → Bool) (xs : List ℕ) (n : ℕ) → Some n ≡ position p xs → drop (n + 1) xs ≡ after_first p xs
after_at p xs n place = ap (λ k. drop (k + 1) xs) (place_some p xs n place)

pub from_at : (p : ℕ → Bool) (xs : List ℕ) (n : ℕ) → Some n ≡ position p xs → drop n xs ≡ drop (position_or_len p xs) xs
from_at p xs n place = ap (λ k. drop k xs) (place_some p xs n place)

pub before_none : (p : ℕ → Bool) (xs : List ℕ) → None ≡ position p xs → xs ≡ before_first p xs
before_none p xs place = sym (take_all (position_or_len p xs) xs (place_none p xs place))

pub after_none : (p : ℕ → Bool) (xs : List ℕ) → None ≡ position p xs → [] ≡ after_first p xs
after_none p xs place =
    let past = place_none p xs place in
    sym (drop_past (position_or_len p xs + 1) xs (omega (arith, past)))

pub from_none : (p : ℕ → Bool) (xs : List ℕ) → None ≡ position p xs → [] ≡ drop (position_or_len p xs) xs
from_none p xs place = sym (drop_past (position_or_len p xs) xs (place_none p xs place))
