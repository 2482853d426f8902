-- The elements of a list in a field's value, one by one.
use Rattle.std.proofs.Common.{ℕ, ◌≡◌, ◌+◌, ◌≤◌, refl, ap, ◌∙◌, List, [], ◌∷◌, length, take, drop, Bool, true, false, ◌||◌, Some, None, arith}
use Rattle.std.specs.List.{position, position_or_len, slice_split, list_any}
use Rattle.std.proofs.lemmas.List.Splits.{slice_split_first}
use Rattle.http_front.specs.Message.{is_comma, is_close, lists_close}
use Rattle.http_front.proofs.Cuts.{place_some, place_inside, place_none}

pub lists_at : (xs : List ℕ) (n : ℕ) → Some n ≡ position is_comma xs → lists_close xs ≡ (is_close (take n xs) || lists_close (drop (n + 1) xs))
lists_at xs n place =
    rw (place_some is_comma xs n place) (ap (list_any is_close) (slice_split_first is_comma xs 0 (place_inside is_comma xs n place)))

split_whole : (xs : List ℕ) → length xs ≤ position_or_len is_comma xs → slice_split is_comma xs ≡ xs ∷ []
split_whole [] past = refl
split_whole (x ∷ xs) past = by_byte (is_comma x) refl (split_whole xs)
  where
    by_byte : (t : Bool) → is_comma x ≡ t → (length xs ≤ position_or_len is_comma xs → slice_split is_comma xs ≡ xs ∷ [])
        → slice_split is_comma (x ∷ xs) ≡ (x ∷ xs) ∷ []
    by_byte true is later =
        let place : position_or_len is_comma (x ∷ xs) ≡ 0 = rw is refl in
        absurd (omega (arith, place))
    by_byte false is later =
        let place : position_or_len is_comma (x ∷ xs) ≡ 1 + position_or_len is_comma xs = rw is refl in
        let inside : length xs ≤ position_or_len is_comma xs = omega (arith, place) in
        rw (is, later inside) refl

pub lists_whole : (xs : List ℕ) → None ≡ position is_comma xs → lists_close xs ≡ is_close xs
lists_whole xs place = ap (list_any is_close) (split_whole xs (place_none is_comma xs place)) ∙ or_false (is_close xs)
  where
    or_false : (b : Bool) → (b || false) ≡ b
    or_false true = refl
    or_false false = refl
