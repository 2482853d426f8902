-- What stands in a core after one queue, seat or chunk, or several chunks, have changed.
use Rattle.std.proofs.Common.{◌≡◌, ◌≢◌, ℕ, zero, suc, ◌+◌, ◌<◌, ◌≤◌, List, [], ◌∷◌, length, get_or, set, refl, sym, ap, subst, ◌∙◌, arith, inl, inr, ◌⊎◌}
use Rattle.std.proofs.lemmas.Bool.{cases_eq, cases_lt}
use Rattle.std.proofs.lemmas.List.{get_or-set_same, get_or-set_other, length-set, get_or_past}
use Rattle.unit_model.proofs.Changes.{changed_at, unchanged_at}
use Rattle.unit_model.specs.Core.{blank, no_queue}
use Rattle.unit_model.specs.Effects.{set_all}
use Rattle.unit_model.specs.Lists.{change_at}
use Rattle.unit_model.specs.declared.machine.Item.{Item}
use Rattle.unit_model.specs.declared.machine.Queue.{Queue}

-- ---- one element of a list

-- what holds of each element
pub each_changed : {X : Type 0} (P : ℕ → X → Type 0) (n : ℕ) (change : X → X) (xs : List X) (d : X) → P n (change (get_or xs n d)) → ((m : ℕ) → P m (get_or xs m d)) → (m : ℕ) → P m (get_or (change_at n change xs) m d)
each_changed P n change [] d here each m = each m
each_changed P zero change (x ∷ xs) d here each zero = here
each_changed P zero change (x ∷ xs) d here each (suc m) = each (suc m)
each_changed P (suc n) change (x ∷ xs) d here each zero = each zero
each_changed P (suc n) change (x ∷ xs) d here each (suc m) = each_changed (λ k. P (suc k)) n change xs d here (λ k. each (suc k)) m

-- ---- items

-- a queue that isn't there has no items
pub queue_there : (queues : List Queue) (queue item : ℕ) → item < length (get_or queues queue no_queue).items → queue < length queues
queue_there queues queue item inside =
    elim (cases_lt queue (length queues)) [
      | inl there ↦ there
      | inr past ↦ let none : length (get_or queues queue no_queue).items ≡ 0 = ap (λ (q : Queue). length q.items) (get_or_past queues queue no_queue past) in absurd (omega (arith, none))
    ]

-- the items of one queue, where one of them changed
item_elsewhere : (P : ℕ → Item → Type 0) (items : List Item) (i : ℕ) (new : Item) → i < length items → P i new → ((j : ℕ) → j ≢ i → P j (get_or items j blank)) → (j : ℕ) → P j (get_or (set items i new) j blank)
item_elsewhere P items i new inside here others j =
    elim (cases_eq j i) [
      | inl same ↦ subst (λ (k : ℕ). P k (get_or (set items i new) k blank)) (sym same) (subst (P i) (sym (get_or-set_same items i new blank inside)) here)
      | inr other ↦ subst (P j) (sym (get_or-set_other items i j new blank other)) (others j other)
    ]

-- what holds of each item of each queue, where one item changed
pub each_item_changed : (P : ℕ → ℕ → Item → Type 0) (queues : List Queue) (q i : ℕ) (change : Queue → Queue) (new : Item) → (change (get_or queues q no_queue)).items ≡ set (get_or queues q no_queue).items i new → i < length (get_or queues q no_queue).items → P q i new → ((m j : ℕ) → (m ≡ q → j ≡ i → ⊥) → P m j (get_or (get_or queues m no_queue).items j blank)) → (m j : ℕ) → P m j (get_or (get_or (change_at q change queues) m no_queue).items j blank)
each_item_changed P queues q i change new sets inside here others m j =
    elim (cases_eq m q) [
      | inl same ↦
          let items : List Item = (get_or queues q no_queue).items in
          let changed : (get_or (change_at q change queues) q no_queue).items ≡ set items i new =
          ap (λ (k : Queue). k.items) (changed_at q change queues no_queue (queue_there queues q i inside)) ∙ sets in
          let there : P q j (get_or (set items i new) j blank) = item_elsewhere (P q) items i new inside here (λ k other. others q k (λ _ is. other is)) j in
          subst (λ (k : ℕ). P k j (get_or (get_or (change_at q change queues) k no_queue).items j blank)) (sym same) (subst (λ (l : List Item). P q j (get_or l j blank)) (sym changed) there)
      | inr other ↦
          subst (λ (k : Queue). P m j (get_or k.items j blank)) (sym (unchanged_at q change queues m no_queue other)) (others m j (λ is _. other is))
    ]

-- ---- chunks

pub length-set_all : {X : Type 0} (xs : List X) (first count : ℕ) (x : X) → length (set_all xs first count x) ≡ length xs
length-set_all xs first zero x = refl
length-set_all xs first (suc count) x = length-set (set_all xs first count x) (first + count) x ∙ length-set_all xs first count x

pub set_all_outside : {X : Type 0} (xs : List X) (first count : ℕ) (x d : X) (n : ℕ) → (n < first) ⊎ (first + count ≤ n) → get_or (set_all xs first count x) n d ≡ get_or xs n d
set_all_outside xs first zero x d n off = refl
set_all_outside xs first (suc count) x d n off =
    get_or-set_other (set_all xs first count x) (first + count) n x d (omega (arith, off)) ∙ set_all_outside xs first count x d n (elim off [
      | inl low ↦ inl low
      | inr high ↦ inr (omega (arith, high))
    ])

pub set_all_inside : {X : Type 0} (xs : List X) (first count : ℕ) (x d : X) (n : ℕ) → first ≤ n → n < first + count → n < length xs → get_or (set_all xs first count x) n d ≡ x
set_all_inside xs first zero x d n low high inside = absurd (omega arith)
set_all_inside {X = X} xs first (suc count) x d n low high inside =
    let all : List X = set_all xs first count x in
    elim (cases_eq n (first + count)) [
      | inl last ↦ ap (λ (k : ℕ). get_or (set all (first + count) x) k d) last ∙ get_or-set_same all (first + count) x d (omega (arith, last, length-set_all xs first count x))
      | inr other ↦ get_or-set_other all (first + count) n x d other ∙ set_all_inside xs first count x d n low (omega (arith, other)) inside
    ]

-- what holds of each chunk, where one has a new owner
pub each_set : {X : Type 0} (P : ℕ → X → Type 0) (xs : List X) (i : ℕ) (x d : X) → i < length xs → P i x → ((n : ℕ) → n ≢ i → P n (get_or xs n d)) → (n : ℕ) → P n (get_or (set xs i x) n d)
each_set P xs i x d inside here others n =
    elim (cases_eq n i) [
      | inl same ↦ subst (λ (k : ℕ). P k (get_or (set xs i x) k d)) (sym same) (subst (P i) (sym (get_or-set_same xs i x d inside)) here)
      | inr other ↦ subst (P n) (sym (get_or-set_other xs i n x d other)) (others n other)
    ]

-- and where several neighbouring ones have it
pub each_set_all : {X : Type 0} (P : ℕ → X → Type 0) (xs : List X) (first count : ℕ) (x d : X) → first + count ≤ length xs → ((n : ℕ) → first ≤ n → n < first + count → P n x) → ((n : ℕ) → ((first ≤ n) × (n < first + count) → ⊥) → P n (get_or xs n d)) → (n : ℕ) → P n (get_or (set_all xs first count x) n d)
each_set_all P xs first count x d inside here others n =
    elim (cases_lt n first) [
      | inl low ↦ subst (P n) (sym (set_all_outside xs first count x d n (inl low))) (others n (λ is. omega (arith, is.0)))
      | inr from ↦ elim (cases_lt n (first + count)) [
        | inl within ↦ subst (P n) (sym (set_all_inside xs first count x d n from within (omega arith))) (here n from within)
        | inr high ↦ subst (P n) (sym (set_all_outside xs first count x d n (inr high))) (others n (λ is. omega (arith, is.1)))
      ]
    ]
