-- Members and items by their place.
use Rattle.std.proofs.Common.{◌≡◌, ℕ, zero, suc, ◌<◌, ◌≤◌, List, [], ◌∷◌, length, get_or, map, Some, None, refl, ap, arith}
use Rattle.std.specs.List.{insert, remove}
use Rattle.serde_json.specs.Events.{members_len}
use Rattle.conf_tree.specs.View.{data_of, members_of, named, name_at, value_at}
use Rattle.conf_tree.specs.declared.tree.Member.{Member}

pub members_len-named : (ms : List Member) → members_len (members_of (map named ms)) ≡ length ms
members_len-named [] = refl
members_len-named (m ∷ ms) = ap suc (members_len-named ms)

pub name_at_within : (ms : List Member) (i : ℕ) (d : Member) → i < length ms → name_at i (members_of (map named ms)) ≡ Some (get_or ms i d).key
name_at_within [] i d h = absurd (omega arith)
name_at_within (m ∷ ms) zero d h = refl
name_at_within (m ∷ ms) (suc i) d h = name_at_within ms i d (omega arith)

pub name_at_past : (ms : List Member) (i : ℕ) → length ms ≤ i → name_at i (members_of (map named ms)) ≡ None
name_at_past [] i h = refl
name_at_past (m ∷ ms) zero h = absurd (omega arith)
name_at_past (m ∷ ms) (suc i) h = name_at_past ms i (omega arith)

pub value_at_within : (ms : List Member) (i : ℕ) (d : Member) → i < length ms → value_at i (members_of (map named ms)) ≡ Some (data_of (get_or ms i d).value)
value_at_within [] i d h = absurd (omega arith)
value_at_within (m ∷ ms) zero d h = refl
value_at_within (m ∷ ms) (suc i) d h = value_at_within ms i d (omega arith)

pub value_at_past : (ms : List Member) (i : ℕ) → length ms ≤ i → value_at i (members_of (map named ms)) ≡ None
value_at_past [] i h = refl
value_at_past (m ∷ ms) zero h = absurd (omega arith)
value_at_past (m ∷ ms) (suc i) h = value_at_past ms i (omega arith)

pub map-insert : {A B : Type 0} (f : A → B) (xs : List A) (i : ℕ) (x : A) → map f (insert xs i x) ≡ insert (map f xs) i (f x)
map-insert f [] zero x = refl
map-insert f [] (suc i) x = refl
map-insert f (y ∷ xs) zero x = refl
map-insert f (y ∷ xs) (suc i) x = ap (λ ys. f y ∷ ys) (map-insert f xs i x)

pub map-remove : {A B : Type 0} (f : A → B) (xs : List A) (i : ℕ) → map f (remove xs i) ≡ remove (map f xs) i
map-remove f [] zero = refl
map-remove f [] (suc i) = refl
map-remove f (y ∷ xs) zero = refl
map-remove f (y ∷ xs) (suc i) = ap (λ ys. f y ∷ ys) (map-remove f xs i)
