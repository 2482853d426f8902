-- The list of what a function gives for the numbers below n.
use Rattle.std.proofs.Common.{◌≡◌, ◌≢◌, ℕ, zero, suc, ◌+◌, ◌<◌, ◌≤◌, ◌∙◌, ⊎_elim, List, [], ◌∷◌, ◌++◌, length, get_or, set, refl, ap, ap₂, sym, arith, length-append, replicate}
use Rattle.std.proofs.Math.ListN.{get_or-append}
use Rattle.std.proofs.Math.Seq.{get_or-append_seam, set-append_seam}
use Rattle.std.proofs.lemmas.List.{set-append_left, get_or_past, set_past, replicate_more}
use Rattle.std.proofs.lemmas.Bool.{cases_order}
use Rattle.std.specs.BTreeMap.{BTreeMap}
use Rattle.trace_check.specs.Owners.{listed, owner_in}
use Rattle.unit_model.specs.declared.machine.Owner.{Owner}
use Rattle.unit_model.specs.declared.machine.Owner.TheVariants.{Free}

set_last : {X : Type 0} (xs : List X) (y x : X) (k : ℕ) → k ≡ length xs → set (xs ++ y ∷ []) k x ≡ xs ++ x ∷ []
set_last xs y x k e = rw e (set-append_seam xs y [] x)

pub listed_length : {X : Type 0} (f : ℕ → X) (n : ℕ) → length (listed f n) ≡ n
listed_length f zero = refl
listed_length f (suc n) = omega (arith, length-append (listed f n) (f n ∷ []), listed_length f n)

last_of : {X : Type 0} (xs : List X) (x d : X) (n : ℕ) → length xs ≡ n → get_or (xs ++ x ∷ []) n d ≡ x
last_of xs x d n e = rw (← e) (get_or-append_seam xs x [] d)

pub listed_in : {X : Type 0} (f : ℕ → X) (n i : ℕ) (d : X) → i < n → get_or (listed f n) i d ≡ f i
listed_in f zero i d lt = absurd (omega arith)
listed_in f (suc n) i d lt =
    ⊎_elim
    (λ (e : i ≡ n). rw e (last_of (listed f n) (f n) d n (listed_length f n)))
    (λ s. ⊎_elim
    (λ (l : i < n). get_or-append (listed f n) (f n ∷ []) d i (omega (arith, listed_length f n)) ∙ listed_in f n i d l)
    (λ (g : n < i). absurd (omega arith))
    s)
    (cases_order i n)

pub listed_past : {X : Type 0} (f : ℕ → X) (n i : ℕ) (d : X) → n ≤ i → get_or (listed f n) i d ≡ d
listed_past f n i d le = get_or_past (listed f n) i d (omega (arith, listed_length f n))

listed_same : {X : Type 0} (f g : ℕ → X) (n : ℕ) → ((i : ℕ) → i < n → g i ≡ f i) → listed f n ≡ listed g n
listed_same f g zero same = refl
listed_same f g (suc n) same =
    let below : listed f n ≡ listed g n = listed_same f g n (λ i lt. same i (omega arith)) in
    let here : g n ≡ f n = same n (omega arith) in
    rw (below, here) refl

-- one value changed
pub set_listed : {X : Type 0} (f g : ℕ → X) (n k : ℕ) (x : X) → g k ≡ x → ((i : ℕ) → i ≢ k → g i ≡ f i) → set (listed f n) k x ≡ listed g n
set_listed f g zero k x here apart = refl
set_listed f g (suc n) k x here apart =
    ⊎_elim
    (λ (e : k ≡ n).
    let seam : set (listed f n ++ f n ∷ []) k x ≡ listed f n ++ x ∷ [] = set_last (listed f n) (f n) x k (omega (arith, listed_length f n)) in
    let below : listed f n ≡ listed g n = listed_same f g n (λ i lt. apart i (omega arith)) in
    let at : g n ≡ x = rw (← e) here in
    seam ∙ ap₂ (λ ys y. ys ++ y ∷ []) below (sym at))
    (λ s. ⊎_elim
    (λ (l : k < n).
    let at : g n ≡ f n = apart n (omega arith) in
    set-append_left (listed f n) (f n ∷ []) k x (omega (arith, listed_length f n)) ∙ ap₂ (λ ys y. ys ++ y ∷ []) (set_listed f g n k x here apart) (sym at))
    (λ (h : n < k).
    set_past (listed f (suc n)) k x (omega (arith, listed_length f (suc n))) ∙ listed_same f g (suc n) (λ i lt. apart i (omega arith)))
    s)
    (cases_order k n)

listed_all : {X : Type 0} (f : ℕ → X) (x : X) (n : ℕ) → ((i : ℕ) → f i ≡ x) → listed f n ≡ replicate n x
listed_all f x zero all = refl
listed_all f x (suc n) all = ap₂ (λ ys y. ys ++ y ∷ []) (listed_all f x n all) (all n) ∙ replicate_more n x ∙ ap (λ k. replicate k x) (let one : n + 1 ≡ suc n = omega arith in one)

-- a map without entries leaves every chunk free
pub all_free : (owners : BTreeMap ℕ Owner) (n : ℕ) → owners.entries ≡ [] → listed (owner_in owners) n ≡ replicate n Free
all_free owners n empty = listed_all (owner_in owners) Free n (λ i. rw empty refl)
