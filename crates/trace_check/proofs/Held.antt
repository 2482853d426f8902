-- Counts of items by where they are.
use Rattle.std.proofs.Common.{◌≡◌, ◌≢◌, ◌∙◌, ℕ, zero, suc, ◌+◌, ◌-◌, ◌<◌, ◌≤◌, ◌==◌, ◌&&◌, ◌||◌, nat_lt, Bool, true, false, List, [], ◌∷◌, length, get_or, set, replicate, refl, sym, ap, arith}
use Rattle.std.proofs.lemmas.Bool.{lt-ltb, ne_eqb}
use Rattle.std.proofs.lemmas.Bool.Decides.{nat_tests}
use Rattle.std.specs.List.{list_any}
use Rattle.std.specs.Ordering.{nat_cmp, ordering_then, is_eq}
use Rattle.std.specs.declared.cmp.Ordering.{Ordering}
use Rattle.std.specs.declared.cmp.Ordering.TheVariants.{Less, Equal, Greater}
use Rattle.trace_check.specs.Hands.{hand_cmp, hand_of, same_hand}
use Rattle.trace_check.specs.declared.items.Hand.{Hand}
use Rattle.trace_check.proofs.Keys.{same_keys}
use Rattle.unit_model.specs.Core.{blank}
use Rattle.unit_model.specs.Weights.{weigh, one_if}
use Rattle.unit_model.specs.declared.machine.Item.{Item}

eq_then : (a b : Ordering) → is_eq (ordering_then a b) ≡ (is_eq a && is_eq b)
eq_then Less b = refl
eq_then Equal b = refl
eq_then Greater b = refl

and_swap : (a b c d : Bool) → a ≡ c → b ≡ d → (a && b) ≡ (c && d)
and_swap a b c d e f = rw (e, f) refl

same_number : (a b : ℕ) → (a == b) ≡ (b == a)
same_number a b = grind (arith, nat_tests)

pub same_hands : (k q : Hand) → is_eq (hand_cmp k q) ≡ same_hand q k
same_hands k q =
    eq_then (nat_cmp k.code q.code) (nat_cmp k.tag q.tag)
    ∙ and_swap _ _ _ _ (same_keys q.code k.code ∙ same_number q.code k.code) (same_keys q.tag k.tag ∙ same_number q.tag k.tag)

one_small : (b : Bool) → one_if b ≤ 1
one_small true = omega arith
one_small false = omega arith

some_more : (b c : Bool) (n : ℕ) → c ≡ nat_lt 0 n → (b || c) ≡ nat_lt 0 (one_if b + n)
some_more true c n e = sym (lt-ltb 0 (1 + n) (omega arith))
some_more false c n e = e ∙ ap (nat_lt 0) (let z : n ≡ 0 + n = omega arith in z)

-- one element changed
pub weigh_set : {X : Type 0} (f : X → ℕ) (xs : List X) (i : ℕ) (x d : X) → i < length xs → weigh f (set xs i x) + f (get_or xs i d) ≡ weigh f xs + f x
weigh_set f [] i x d lt = absurd (omega arith)
weigh_set f (y ∷ ys) zero x d lt = omega arith
weigh_set f (y ∷ ys) (suc i) x d lt = omega (arith, weigh_set f ys i x d (omega arith))

pub weigh_small : {X : Type 0} (test : X → Bool) (xs : List X) → weigh (λ x. one_if (test x)) xs ≤ length xs
weigh_small test [] = omega arith
weigh_small test (x ∷ xs) = omega (arith, weigh_small test xs, one_small (test x))

pub some_counted : {X : Type 0} (test : X → Bool) (xs : List X) → list_any test xs ≡ nat_lt 0 (weigh (λ x. one_if (test x)) xs)
some_counted test [] = refl
some_counted test (x ∷ xs) = some_more (test x) (list_any test xs) (weigh (λ y. one_if (test y)) xs) (some_counted test xs)

-- an item that was never used is free
pub free_counts : (hand : Hand) (n : ℕ) → hand.code ≢ 0 → weigh (λ item. one_if (same_hand hand (hand_of item))) (replicate n blank) ≡ 0
free_counts hand zero ne = refl
free_counts hand (suc n) ne =
    let other : 0 ≢ hand.code = λ (e : 0 ≡ hand.code). ne (sym e) in
    let none : one_if (same_hand hand (hand_of blank)) ≡ 0 = rw (ne_eqb 0 hand.code other) refl in
    omega (arith, none, free_counts hand n ne)

-- what the counts of a list come to after one item changed
pub set_counts : (hand : Hand) (items : List Item) (i : ℕ) (old new : Item) (before after : ℕ) → i < length items → old ≡ get_or items i old
    → before ≡ weigh (λ item. one_if (same_hand hand (hand_of item))) items
    → after ≡ (before + one_if (same_hand hand (hand_of new))) - one_if (same_hand hand (hand_of old))
    → after ≡ weigh (λ item. one_if (same_hand hand (hand_of item))) (set items i new)
set_counts hand items i old new before after lt at was is =
    let f : Item → ℕ = λ item. one_if (same_hand hand (hand_of item)) in
    let whole : weigh f (set items i new) + f old ≡ weigh f items + f new = rw at (weigh_set f items i new old lt) in
    omega (arith, whole, was, is)
