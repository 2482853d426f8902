-- Lists that are made or taken apart one item after the other.
use Rattle.std.proofs.Common.{◌≡◌, ℕ, zero, suc, ◌+◌, ◌-◌, ◌<◌, ◌≤◌, List, [], ◌∷◌, ◌++◌, length, map, refl, sym, ap, ap₂, ◌∙◌, arith}
use Rattle.std.specs.List.{range_with_len}
use Rattle.std.proofs.lemmas.List.{map-append}
use Rattle.std.proofs.lemmas.List.FromFn.{length-map-range_with_len, map-range_with_len_more}

-- one more item behind the first n
pub one_more : {X : Type 0} (f : ℕ → X) (n : ℕ) (old new : List X) (x : X) → old ≡ map f (range_with_len 0 n) → x ≡ f n → new ≡ old ++ x ∷ [] → new ≡ map f (range_with_len 0 (n + 1))
one_more {X = X} f n old new x e is more =
    more ∙ ap₂ (λ (a : List X) (b : X). a ++ b ∷ []) e is ∙ sym (map-range_with_len_more f 0 n n (omega arith))

-- the same of what is seen of each item
pub one_more_seen : {X Y : Type 0} (f : X → Y) (g : ℕ → Y) (n : ℕ) (old new : List X) (x : X) → map f old ≡ map g (range_with_len 0 n) → f x ≡ g n → new ≡ old ++ x ∷ [] → map f new ≡ map g (range_with_len 0 (n + 1))
one_more_seen f g n old new x e is more = one_more g n (map f old) (map f new) (f x) e is (ap (map f) more ∙ map-append f old (x ∷ []))

-- what is said of the first item and of the others
pub record Split {X Y : Type 0} (f : X → Y) (g : ℕ → Y) (a n : ℕ) (x : X) (xs : List X) : Type 0 where
  pub some : 0 < n
  pub first : f x ≡ g a
  pub others : map f xs ≡ map g (range_with_len (a + 1) (n - 1))

pub split : {X Y : Type 0} (f : X → Y) (g : ℕ → Y) (a n : ℕ) (x : X) (xs : List X) → map f (x ∷ xs) ≡ map g (range_with_len a n) → Split f g a n x xs
split f g a zero x xs e = absurd cc
split f g a (suc n) x xs e =
    let less : suc n - 1 ≡ n = omega arith in
    record { some = omega arith; first = cc; others = rw less cc }
