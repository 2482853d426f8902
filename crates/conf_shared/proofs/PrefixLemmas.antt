-- Beginnings of lists.
use Rattle.std.proofs.Common.{Option, subst, get_or, ◌<◌, ◌≡◌, ℕ, zero, suc, ◌≤◌, List, [], ◌∷◌, ◌++◌, length, map, Some, refl, ap, sym, ◌∙◌, arith, append_assoc, length-append}
use Rattle.std.proofs.Math.ListN.{get_or-map}
use Rattle.std.proofs.lemmas.List.{append-nil, length-map, map-append}
use mathlib.Core.List.{IsPrefix}
use Rattle.std.specs.List.{last_or}

-- equal lists begin each other
pub same_begins : {A : Type 0} (xs ys : List A) → xs ≡ ys → IsPrefix xs ys
same_begins xs ys is = ([], append-nil xs ∙ is)

pub prefix_trans : {A : Type 0} (xs ys zs : List A) → IsPrefix xs ys → IsPrefix ys zs → IsPrefix xs zs
prefix_trans xs ys zs p q = (p.0 ++ q.0, sym (append_assoc xs p.0 q.0) ∙ (ap (λ w. w ++ q.0) p.1 ∙ q.1))

-- of two beginnings of one list the shorter begins the longer
pub prefix_shorter : {A : Type 0} (xs ys zs : List A) → IsPrefix xs zs → IsPrefix ys zs → length xs ≤ length ys → IsPrefix xs ys
prefix_shorter [] ys zs p q le = (ys, refl)
prefix_shorter (x ∷ xs) [] zs p q le = absurd (omega arith)
prefix_shorter (x ∷ xs) (y ∷ ys) [] p q le = absurd (cc (p.1))
prefix_shorter (x ∷ xs) (y ∷ ys) (z ∷ zs) p q le =
    let heads : x ≡ y = cc (p.1, q.1) in
    let rest = prefix_shorter xs ys zs (p.0, cc (p.1)) (q.0, cc (q.1)) (omega arith) in
    (rest.0, cc (heads, rest.1))

-- a beginning as long as the whole is the whole
pub prefix_whole : {A : Type 0} (xs ys : List A) → IsPrefix xs ys → length ys ≤ length xs → xs ≡ ys
prefix_whole [] [] p le = refl
prefix_whole [] (y ∷ ys) p le = absurd (omega arith)
prefix_whole (x ∷ xs) [] p le = absurd (cc (p.1))
prefix_whole (x ∷ xs) (y ∷ ys) p le =
    let rest = prefix_whole xs ys (p.0, cc (p.1)) (omega arith) in cc (p.1, rest)

pub prefix_length : {A : Type 0} (xs ys : List A) → IsPrefix xs ys → length xs ≤ length ys
prefix_length xs ys p = omega (arith, sym (ap length p.1) ∙ length-append xs p.0)

-- the entry at the end is the last
pub last_snoc : {A : Type 0} (o : Option A) (xs : List A) (x : A) → last_or o (xs ++ x ∷ []) ≡ Some x
last_snoc o [] x = refl
last_snoc o (y ∷ xs) x = last_snoc (Some y) xs x

-- a beginning, and the entry that comes next, is a beginning
pub prefix_next : {A : Type 0} (xs ys : List A) (x : A) → IsPrefix xs ys → length xs < length ys → x ≡ get_or ys (length xs) x → IsPrefix (xs ++ x ∷ []) ys
prefix_next [] [] x p lt at = absurd (omega arith)
prefix_next [] (y ∷ ys) x p lt at = (ys, ap (λ z. z ∷ ys) at)
prefix_next (w ∷ xs) [] x p lt at = absurd (cc (p.1))
prefix_next (w ∷ xs) (y ∷ ys) x p lt at =
    let rest = prefix_next xs ys x (p.0, cc (p.1)) (omega arith) at in (rest.0, cc (p.1, rest.1))

-- a list with one more entry goes on
pub one_more_begins : {A B : Type 0} (f : A → B) (xs ys : List A) (x : A) → ys ≡ xs ++ x ∷ [] → IsPrefix (map f xs) (map f ys)
one_more_begins f xs ys x is = (f x ∷ [], sym (map-append f xs (x ∷ [])) ∙ ap (map f) (sym is))

-- a list that is read through two functions, with as many entries
pub length-both : {A B C : Type 0} (f : A → B) (g : B → C) (xs : List A) → length (map g (map f xs)) ≡ length xs
length-both f g xs = length-map (map f xs) g ∙ length-map xs f

-- the entry that comes next in a list that is read through two functions, and the beginnings on both sides of it
pub grown : {A B C : Type 0} (f : A → B) (g : B → C) (list : List A) (old xs next : List C) (x : A) (n : ℕ)
    → IsPrefix old xs → IsPrefix xs (map g (map f list)) → n ≡ length xs → n < length list → x ≡ get_or list n x → next ≡ xs ++ g (f x) ∷ []
    → IsPrefix old next × IsPrefix next (map g (map f list))
grown {C = C} f g list old xs next x n p q len lt at is =
    let whole = map g (map f list) in
    let entry : g (f x) ≡ get_or whole n (g (f x)) =
    ap (λ y. g (f y)) at ∙ sym (get_or-map g (map f list) n (f x) ∙ ap g (get_or-map f list n x)) in
    let next_is : IsPrefix (xs ++ g (f x) ∷ []) whole =
    prefix_next xs whole (g (f x)) q (omega (arith, len, lt, length-both f g list)) (subst (λ (k : ℕ). g (f x) ≡ get_or whole k (g (f x))) len entry) in
    let old_is : IsPrefix old (xs ++ g (f x) ∷ []) = prefix_trans old xs (xs ++ g (f x) ∷ []) p (g (f x) ∷ [], refl) in
    (subst (λ (l : List C). IsPrefix old l) (sym is) old_is, subst (λ (l : List C). IsPrefix l whole) (sym is) next_is)
