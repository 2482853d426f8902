-- A run that is being filled, and one that is being read.
use Rattle.std.proofs.Common.{ℕ, zero, suc, ◌≡◌, ◌≢◌, ◌+◌, ◌<◌, ◌≤◌, ◌⊎◌, ⊎_elim, List, [], ◌∷◌, ◌++◌, length, length-append, refl, sym, ap, ◌∙◌, subst, arith}
use Rattle.std.specs.Prelude.{Option, Some, None, slice_get}
use Rattle.std.proofs.lemmas.Bool.{cases_eq}
use Rattle.std.proofs.lemmas.List.{append-nil, append_assoc}
use Rattle.carried_slots.specs.Carried.{content, but}
use Rattle.carried_slots.specs.RunSlots.{HasEmpty, HasFull, HasValues, SameElsewhere}
use Rattle.carried_slots.proofs.Lookups.{content_here, content_there, but_other}
use Rattle.carried_slots.proofs.RunLists.{beyond}

module _ {T : Type 0} where
  -- ---- one slot is exchanged

  module _ (chunk : ℕ) (new : Option T) (c c' : List (ℕ × Option T)) (is : c' ≡ (chunk, new) ∷ but chunk c) where
    pub swapped_here : content c' chunk ≡ Some new
    swapped_here = ap (λ l. content l chunk) is ∙ content_here (chunk, new) (but chunk c) chunk refl

    pub swapped_other : (k : ℕ) → k ≢ chunk → content c' k ≡ content c k
    swapped_other k ne = ap (λ l. content l k) is ∙ content_there (chunk, new) (but chunk c) k (λ e. ne (sym e)) ∙ but_other c chunk k ne

  -- ---- lists

  pub snoc_front : (xs : List T) (x : T) (i : ℕ) → i < length xs → slice_get (xs ++ x ∷ []) i ≡ slice_get xs i
  snoc_front [] x i lt = absurd (omega (arith, lt))
  snoc_front (y ∷ ys) x zero lt = refl
  snoc_front (y ∷ ys) x (suc i) lt = snoc_front ys x i (omega (arith, lt))

  pub snoc_last : (xs : List T) (x : T) (i : ℕ) → i ≡ length xs → slice_get (xs ++ x ∷ []) i ≡ Some x
  snoc_last [] x zero is = refl
  snoc_last [] x (suc i) is = absurd (omega (arith, is))
  snoc_last (y ∷ ys) x zero is = absurd (omega (arith, is))
  snoc_last (y ∷ ys) x (suc i) is = snoc_last ys x i (omega (arith, is))

  value_there : (xs : List T) (i : ℕ) → i < length xs → (x : T) × (slice_get xs i ≡ Some x)
  value_there [] i lt = absurd (omega (arith, lt))
  value_there (x ∷ xs) zero lt = (x, refl)
  value_there (x ∷ xs) (suc i) lt = value_there xs i (omega (arith, lt))

  -- what was filled has values
  pub filled_is_full : (first n : ℕ) (values : List T) (c : List (ℕ × Option T)) → length values ≡ n → HasValues first values c → HasFull first n c
  filled_is_full first n values c long filled i lt =
      let there = value_there values i (omega (arith, lt, long)) in
      (there.0, filled i (omega (arith, lt, long)) ∙ ap (λ (o : Option T). Some o) there.1)

  -- ---- filling

  -- Of all values, those that were passed are in their slots, and the rest has empty slots from this chunk on.
  pub record Filling (first chunk : ℕ) (all left : List T) (start c : List (ℕ × Option T)) : Type 0 where
    pub passed : List T
    pub all_is : passed ++ left ≡ all
    pub at : chunk ≡ first + length passed
    pub values : HasValues first passed c
    pub empty : HasEmpty chunk (length left) c
    pub elsewhere : SameElsewhere first (length all) start c

  pub filling_starts : (first n : ℕ) (all : List T) (start : List (ℕ × Option T)) → length all ≡ n → HasEmpty first n start → Filling first first all all start start
  filling_starts first n all start long empty = record {
    passed = [];
    all_is = refl;
    at = omega arith;
    values = λ i lt. absurd (omega (arith, lt));
    empty = λ i lt. empty i (omega (arith, lt, long));
    elsewhere = λ k out. refl;
  }

  pub next_is_empty : (first chunk : ℕ) (all left rest : List T) (x : T) (start c : List (ℕ × Option T)) → left ≡ x ∷ rest → Filling first chunk all left start c → content c chunk ≡ Some None
  next_is_empty first chunk all left rest x start c is filling =
      let same : chunk + 0 ≡ chunk = omega arith in
      ap (content c) (sym same) ∙ filling.empty 0 (omega (arith, ap (length {A = T}) is))

  pub filling_goes : (first chunk : ℕ) (all left rest : List T) (x : T) (start c c' : List (ℕ × Option T)) → left ≡ x ∷ rest
      → content c' chunk ≡ Some (Some x) → ((k : ℕ) → k ≢ chunk → content c' k ≡ content c k) → Filling first chunk all left start c → Filling first (chunk + 1) all rest start c'
  filling_goes first chunk all left rest x start c c' is here others filling =
      let passed : List T = filling.passed in
      let long : length (passed ++ x ∷ []) ≡ length passed + 1 = length-append passed (x ∷ []) in
      let total : length passed + length left ≡ length all = sym (length-append passed left) ∙ ap (length {A = T}) filling.all_is in
      let more : length left ≡ 1 + length rest = omega (arith, ap (length {A = T}) is) in
      record {
        passed = passed ++ x ∷ [];
        all_is = append_assoc passed (x ∷ []) rest ∙ ap (λ (l : List T). passed ++ l) (sym is) ∙ filling.all_is;
        at = omega (arith, filling.at, long);
        values = λ i lt. ⊎_elim
            (λ same.
            let place : first + i ≡ chunk = omega (arith, same, filling.at) in
            ap (content c') place ∙ here ∙ ap (λ (o : Option T). Some o) (sym (snoc_last passed x i same)))
            (λ ne.
            let before : i < length passed = omega (arith, lt, long, ne) in
            others (first + i) (λ e. absurd (omega (arith, e, before, filling.at))) ∙ filling.values i before ∙ ap (λ (o : Option T). Some o) (sym (snoc_front passed x i before)))
            (cases_eq i (length passed));
        empty = λ i lt.
            let place : chunk + 1 + i ≡ chunk + suc i = omega arith in
            ap (content c') place ∙ others (chunk + suc i) (λ e. absurd (omega (arith, e))) ∙ filling.empty (suc i) (omega (arith, lt, more));
        elsewhere = λ k out. others k (λ e. beyond first (length all) k (length passed) out (omega (arith, total, more)) (e ∙ filling.at)) ∙ filling.elsewhere k out;
      }

  pub filling_ends : (first chunk n : ℕ) (all : List T) (start c : List (ℕ × Option T)) → length all ≡ n → Filling first chunk all [] start c → HasValues first all c × SameElsewhere first n start c
  filling_ends first chunk n all start c long filling = (
    subst (λ (l : List T). HasValues first l c) (sym (append-nil filling.passed) ∙ filling.all_is) filling.values,
    subst (λ (m : ℕ). SameElsewhere first m start c) long filling.elsewhere,
  )

  -- ---- reading

  -- Of n slots the first i were read, and are empty.
  pub record Reading (first n i : ℕ) (values : List T) (start c : List (ℕ × Option T)) : Type 0 where
    pub long : length values ≡ i
    pub read : HasValues first values start
    pub emptied : HasEmpty first i c
    pub left : (j : ℕ) → i ≤ j → content c (first + j) ≡ content start (first + j)
    pub elsewhere : SameElsewhere first n start c

  pub reading_starts : (first n : ℕ) (start : List (ℕ × Option T)) (values : List T) → values ≡ [] → Reading first n 0 values start start
  reading_starts first n start values none = record {
    long = ap (length {A = T}) none;
    read = λ i lt. absurd (omega (arith, lt, ap (length {A = T}) none));
    emptied = λ i lt. absurd (omega (arith, lt));
    left = λ j from. refl;
    elsewhere = λ k out. refl;
  }

  pub reading_goes : (first n i : ℕ) (values values' : List T) (x : T) (start c c' : List (ℕ × Option T)) → i < n → values' ≡ values ++ x ∷ []
      → content c (first + i) ≡ Some (Some x) → content c' (first + i) ≡ Some None → ((k : ℕ) → k ≢ first + i → content c' k ≡ content c k)
      → Reading first n i values start c → Reading first n (i + 1) values' start c'
  reading_goes first n i values values' x start c c' lt is was here others reading =
      let grown : length values' ≡ i + 1 = ap (length {A = T}) is ∙ length-append values (x ∷ []) ∙ ap (λ (m : ℕ). m + 1) reading.long in
      record {
        long = grown;
        read = λ j within. ⊎_elim
            (λ same.
            let place : first + j ≡ first + i = omega (arith, same) in
            ap (content start) place ∙ sym (reading.left i (omega arith)) ∙ was ∙ ap (λ (o : Option T). Some o) (sym (ap (λ (l : List T). slice_get l j) is ∙ snoc_last values x j (same ∙ sym reading.long))))
            (λ ne.
            let before : j < length values = omega (arith, within, grown, reading.long, ne) in
            reading.read j before ∙ ap (λ (o : Option T). Some o) (sym (ap (λ (l : List T). slice_get l j) is ∙ snoc_front values x j before)))
            (cases_eq j i);
        emptied = λ j within. ⊎_elim
            (λ same. let place : first + j ≡ first + i = omega (arith, same) in ap (content c') place ∙ here)
            (λ ne. others (first + j) (λ e. absurd (omega (arith, e, ne))) ∙ reading.emptied j (omega (arith, within, ne)))
            (cases_eq j i);
        left = λ j from. others (first + j) (λ e. absurd (omega (arith, e, from))) ∙ reading.left j (omega (arith, from));
        elsewhere = λ k out. others k (λ e. beyond first n k i out lt e) ∙ reading.elsewhere k out;
      }
