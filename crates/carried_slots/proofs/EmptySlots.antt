-- Empty slots that come and go.
use Rattle.std.proofs.Common.{ℕ, suc, ◌≡◌, ◌≢◌, ◌+◌, ◌<◌, ◌≤◌, ⊎_elim, Bool, if◌then◌else◌, List, [], ◌∷◌, refl, sym, ap, ◌∙◌, arith}
use Rattle.std.specs.Prelude.{Option, Some, None}
use Rattle.std.proofs.lemmas.Bool.{eq-eqb, ne_eqb, cases_eq}
use Rattle.std.proofs.lemmas.Option.{none-some}
use Rattle.unit_model.specs.Weights.{weigh, is_number, times}
use Rattle.unit_model.proofs.Weights.{is_number_same, is_number_other}
use Rattle.carried_slots.specs.Carried.{content, numbers, but, IsDistinct}
use Rattle.carried_slots.specs.EmptySlots.{empty_gone, without_empty, weight_if_empty, empty_weight, full_or, full_slots, empty_if_some, found_or_empty}
use Rattle.carried_slots.proofs.Lookups.{some_same, content_here, content_there, none_content, but_here, but_there}

module _ {T : Type 0} where
  -- ---- one that goes

  gone_here : (x : ℕ × Option T) (xs rest : List (ℕ × Option T)) (k : ℕ) → x.0 ≡ k → empty_gone None k x xs rest ≡ xs
  gone_here x xs rest k is = ap (λ (b : Bool). if b then xs else x ∷ rest) (eq-eqb x.0 k is)

  gone_there : (x : ℕ × Option T) (xs rest : List (ℕ × Option T)) (k : ℕ) → x.0 ≢ k → empty_gone None k x xs rest ≡ x ∷ rest
  gone_there x xs rest k ne = ap (λ (b : Bool). if b then xs else x ∷ rest) (ne_eqb x.0 k ne)

  pub empty_freed : (f : ℕ → ℕ) (k : ℕ) (c : List (ℕ × Option T)) → 0 < empty_weight (is_number k) c → empty_weight f (without_empty k c) + f k ≡ empty_weight f c
  empty_freed f k [] some_empty = absurd (omega (arith, some_empty))
  empty_freed f k (x ∷ xs) some_empty = by (empty_freed f k xs) x.1 refl
    where
      by : (0 < empty_weight (is_number k) xs → empty_weight f (without_empty k xs) + f k ≡ empty_weight f xs)
          → (o : Option T) → x.1 ≡ o → empty_weight f (empty_gone x.1 k x xs (without_empty k xs)) + f k ≡ weight_if_empty x.1 (f x.0) + empty_weight f xs
      by more (Some y) is =
          let mine : 0 < empty_weight (is_number k) xs = omega (arith, some_empty, ap (λ (o : Option T). weight_if_empty o (is_number k x.0)) is) in
          omega (
            arith,
            ap (λ (o : Option T). empty_weight f (empty_gone o k x xs (without_empty k xs))) is,
            ap (λ (o : Option T). weight_if_empty o (f x.0)) is,
            more mine,
          )
      by more None is = ⊎_elim
          (λ same. omega (
            arith,
            ap (λ (o : Option T). empty_weight f (empty_gone o k x xs (without_empty k xs))) is,
            ap (empty_weight f) (gone_here x xs (without_empty k xs) k same),
            ap (λ (o : Option T). weight_if_empty o (f x.0)) is,
            ap f same,
          ))
          (λ ne.
          let mine : 0 < empty_weight (is_number k) xs = omega (arith, some_empty, ap (λ (o : Option T). weight_if_empty o (is_number k x.0)) is, is_number_other k x.0 ne) in
          omega (
            arith,
            ap (λ (o : Option T). empty_weight f (empty_gone o k x xs (without_empty k xs))) is,
            ap (empty_weight f) (gone_there x xs (without_empty k xs) k ne),
            ap (λ (o : Option T). weight_if_empty o (f x.0)) is,
            more mine,
          ))
          (cases_eq x.0 k)

  pub full_stay : (k : ℕ) (c : List (ℕ × Option T)) → full_slots (without_empty k c) ≡ full_slots c
  full_stay k [] = refl
  full_stay k (x ∷ xs) = by (full_stay k xs) x.1 refl
    where
      by : full_slots (without_empty k xs) ≡ full_slots xs → (o : Option T) → x.1 ≡ o → full_slots (empty_gone x.1 k x xs (without_empty k xs)) ≡ full_or x.1 x (full_slots xs)
      by more (Some y) is =
          ap (λ (o : Option T). full_slots (empty_gone o k x xs (without_empty k xs))) is
          ∙ ap (full_or x.1 x) more
      by more None is = ap (λ (o : Option T). full_slots (empty_gone o k x xs (without_empty k xs))) is ∙ ⊎_elim
          (λ same. ap full_slots (gone_here x xs (without_empty k xs) k same) ∙ sym (ap (λ (o : Option T). full_or o x (full_slots xs)) is))
          (λ ne. ap full_slots (gone_there x xs (without_empty k xs) k ne) ∙ ap (full_or x.1 x) more)
          (cases_eq x.0 k)

  pub empty_is_but : (k : ℕ) (c : List (ℕ × Option T)) → content c k ≡ Some None → without_empty k c ≡ but k c
  empty_is_but k [] is = absurd (none-some None is)
  empty_is_but k (x ∷ xs) is = ⊎_elim
      (λ same.
      let empty : x.1 ≡ None = some_same (sym (content_here x xs k same) ∙ is) in
      ap (λ (o : Option T). empty_gone o k x xs (without_empty k xs)) empty ∙ gone_here x xs (without_empty k xs) k same ∙ sym (but_here x xs k same))
      (λ ne. by x.1 refl ne ∙ ap (λ l. x ∷ l) (empty_is_but k xs (sym (content_there x xs k ne) ∙ is)) ∙ sym (but_there x xs k ne))
      (cases_eq x.0 k)
    where
      by : (o : Option T) → x.1 ≡ o → x.0 ≢ k → empty_gone x.1 k x xs (without_empty k xs) ≡ x ∷ without_empty k xs
      by (Some y) at ne = ap (λ (o : Option T). empty_gone o k x xs (without_empty k xs)) at
      by None at ne = ap (λ (o : Option T). empty_gone o k x xs (without_empty k xs)) at ∙ gone_there x xs (without_empty k xs) k ne

  -- what doesn't weigh the slot weighs as much without it
  pub gone_weightless : (f : ℕ → ℕ) (k : ℕ) (c : List (ℕ × Option T)) → f k ≡ 0 → empty_weight f (without_empty k c) ≡ empty_weight f c
  gone_weightless f k [] none = refl
  gone_weightless f k (x ∷ xs) none = by (gone_weightless f k xs none) x.1 refl
    where
      by : empty_weight f (without_empty k xs) ≡ empty_weight f xs → (o : Option T) → x.1 ≡ o → empty_weight f (empty_gone x.1 k x xs (without_empty k xs)) ≡ weight_if_empty x.1 (f x.0) + empty_weight f xs
      by more (Some y) is = omega (arith, ap (λ (o : Option T). empty_weight f (empty_gone o k x xs (without_empty k xs))) is, more)
      by more None is = ⊎_elim
          (λ same. omega (
            arith,
            ap (λ (o : Option T). empty_weight f (empty_gone o k x xs (without_empty k xs))) is,
            ap (empty_weight f) (gone_here x xs (without_empty k xs) k same),
            ap (λ (o : Option T). weight_if_empty o (f x.0)) is,
            ap f same,
            none,
          ))
          (λ ne. omega (
            arith,
            ap (λ (o : Option T). empty_weight f (empty_gone o k x xs (without_empty k xs))) is,
            ap (empty_weight f) (gone_there x xs (without_empty k xs) k ne),
            more,
          ))
          (cases_eq x.0 k)

  pub empty_same : (f g : ℕ → ℕ) (c : List (ℕ × Option T)) → ((k : ℕ) → f k ≡ g k) → empty_weight f c ≡ empty_weight g c
  empty_same f g [] same = refl
  empty_same f g (x ∷ xs) same = omega (arith, ap (weight_if_empty x.1) (same x.0), empty_same f g xs same)

  -- ---- what a slot has

  -- empty slots, and those with values, are all of them
  pub parts_weigh : (f : ℕ → ℕ) (c : List (ℕ × Option T)) → empty_weight f c + weigh f (numbers (full_slots c)) ≡ weigh f (numbers c)
  parts_weigh f [] = refl
  parts_weigh f (x ∷ xs) = by (parts_weigh f xs) x.1
    where
      by : empty_weight f xs + weigh f (numbers (full_slots xs)) ≡ weigh f (numbers xs) → (o : Option T)
          → weight_if_empty o (f x.0) + empty_weight f xs + weigh f (numbers (full_or o x (full_slots xs))) ≡ f x.0 + weigh f (numbers xs)
      by more None = omega (arith, more)
      by more (Some y) = omega (arith, more)

  full_less : (k : ℕ) (c : List (ℕ × Option T)) → times k (numbers (full_slots c)) ≤ times k (numbers c)
  full_less k [] = omega arith
  full_less k (x ∷ xs) = by (full_less k xs) x.1 refl
    where
      by : times k (numbers (full_slots xs)) ≤ times k (numbers xs) → (o : Option T) → x.1 ≡ o → times k (numbers (full_or x.1 x (full_slots xs))) ≤ is_number k x.0 + times k (numbers xs)
      by more None is = omega (arith, ap (λ (o : Option T). times k (numbers (full_or o x (full_slots xs)))) is, more)
      by more (Some y) is = omega (arith, ap (λ (o : Option T). times k (numbers (full_or o x (full_slots xs)))) is, more)

  pub slot_known : (k : ℕ) (c : List (ℕ × Option T)) → IsDistinct c → content c k ≡ found_or_empty (content (full_slots c) k) (empty_weight (is_number k) c)
  slot_known k [] once = refl
  slot_known k (x ∷ xs) once = by (slot_known k xs (λ j. omega (arith, once j))) x.1 refl
    where
      by : content xs k ≡ found_or_empty (content (full_slots xs) k) (empty_weight (is_number k) xs)
          → (o : Option T) → x.1 ≡ o → content (x ∷ xs) k ≡ found_or_empty (content (full_or x.1 x (full_slots xs)) k) (weight_if_empty x.1 (is_number k x.0) + empty_weight (is_number k) xs)
      by more (Some y) is = ⊎_elim
          (λ same.
          content_here x xs k same
          ∙ sym (ap (λ (o : Option (Option T)). found_or_empty o (weight_if_empty x.1 (is_number k x.0) + empty_weight (is_number k) xs))
          (ap (λ (o : Option T). content (full_or o x (full_slots xs)) k) is ∙ content_here x (full_slots xs) k same)))
          (λ ne.
          let no_more : 0 + empty_weight (is_number k) xs ≡ empty_weight (is_number k) xs = omega arith in
          content_there x xs k ne ∙ more
          ∙ sym (ap (λ (o : Option T). found_or_empty (content (full_or o x (full_slots xs)) k) (weight_if_empty o (is_number k x.0) + empty_weight (is_number k) xs)) is
          ∙ ap (λ (o : Option (Option T)). found_or_empty o (0 + empty_weight (is_number k) xs)) (content_there x (full_slots xs) k ne)
          ∙ ap (found_or_empty (content (full_slots xs) k)) no_more))
          (cases_eq x.0 k)
      by more None is = ⊎_elim
          (λ same.
          let none_left : times k (numbers xs) ≡ 0 = omega (arith, once k, ap (is_number k) same, is_number_same k) in
          let not_full : content (full_slots xs) k ≡ None = none_content (full_slots xs) k (omega (arith, none_left, full_less k xs)) in
          let one_more : is_number k x.0 + empty_weight (is_number k) xs ≡ suc (empty_weight (is_number k) xs) = omega (arith, ap (is_number k) same, is_number_same k) in
          content_here x xs k same ∙ ap (λ (o : Option T). Some o) is
          ∙ sym (ap (λ (o : Option T). found_or_empty (content (full_or o x (full_slots xs)) k) (weight_if_empty o (is_number k x.0) + empty_weight (is_number k) xs)) is
          ∙ ap (λ (o : Option (Option T)). found_or_empty o (is_number k x.0 + empty_weight (is_number k) xs)) not_full
          ∙ ap empty_if_some one_more))
          (λ ne.
          let as_many : is_number k x.0 + empty_weight (is_number k) xs ≡ empty_weight (is_number k) xs = omega (arith, is_number_other k x.0 ne) in
          content_there x xs k ne ∙ more
          ∙ sym (ap (λ (o : Option T). found_or_empty (content (full_or o x (full_slots xs)) k) (weight_if_empty o (is_number k x.0) + empty_weight (is_number k) xs)) is
          ∙ ap (found_or_empty (content (full_slots xs) k)) as_many))
          (cases_eq x.0 k)

  -- slots that are full alike, and empty alike, are the same
  pub same_known : (k : ℕ) (c c' : List (ℕ × Option T)) → IsDistinct c → IsDistinct c' → full_slots c' ≡ full_slots c → empty_weight (is_number k) c' ≡ empty_weight (is_number k) c → content c' k ≡ content c k
  same_known k c c' once once' full empty =
      slot_known k c' once'
      ∙ ap (λ l. found_or_empty (content l k) (empty_weight (is_number k) c')) full
      ∙ ap (found_or_empty (content (full_slots c) k)) empty
      ∙ sym (slot_known k c once)

  empty_less : (k : ℕ) (c : List (ℕ × Option T)) → empty_weight (is_number k) c ≤ times k (numbers c)
  empty_less k [] = omega arith
  empty_less k (x ∷ xs) = by (empty_less k xs) x.1
    where
      by : empty_weight (is_number k) xs ≤ times k (numbers xs) → (o : Option T) → weight_if_empty o (is_number k x.0) + empty_weight (is_number k) xs ≤ is_number k x.0 + times k (numbers xs)
      by more None = omega (arith, more)
      by more (Some y) = omega (arith, more)

  -- a slot that weighs among the empty ones is empty
  pub empty_known : (k : ℕ) (c : List (ℕ × Option T)) → IsDistinct c → 0 < empty_weight (is_number k) c → content c k ≡ Some None
  empty_known k [] once some_empty = absurd (omega (arith, some_empty))
  empty_known k (x ∷ xs) once some_empty = by (empty_known k xs (λ j. omega (arith, once j))) x.1 refl
    where
      by : (0 < empty_weight (is_number k) xs → content xs k ≡ Some None) → (o : Option T) → x.1 ≡ o → content (x ∷ xs) k ≡ Some None
      by more (Some y) is =
          let mine : 0 < empty_weight (is_number k) xs = omega (arith, some_empty, ap (λ (o : Option T). weight_if_empty o (is_number k x.0)) is) in
          let apart : x.0 ≢ k = λ same. absurd (omega (arith, once k, ap (is_number k) same, is_number_same k, mine, empty_less k xs)) in
          content_there x xs k apart ∙ more mine
      by more None is = ⊎_elim
          (λ same. content_here x xs k same ∙ ap (λ (o : Option T). Some o) is)
          (λ ne. content_there x xs k ne ∙ more (omega (arith, some_empty, ap (λ (o : Option T). weight_if_empty o (is_number k x.0)) is, is_number_other k x.0 ne)))
          (cases_eq x.0 k)

  -- and the other way round
  pub known_empty : (k : ℕ) (c : List (ℕ × Option T)) → content c k ≡ Some None → 0 < empty_weight (is_number k) c
  known_empty k [] is = absurd (none-some None is)
  known_empty k (x ∷ xs) is = ⊎_elim
      (λ same.
      let empty : x.1 ≡ None = some_same (sym (content_here x xs k same) ∙ is) in
      omega (arith, ap (λ (o : Option T). weight_if_empty o (is_number k x.0)) empty, ap (is_number k) same, is_number_same k))
      (λ ne. omega (arith, known_empty k xs (sym (content_there x xs k ne) ∙ is)))
      (cases_eq x.0 k)
