-- Parcels in chunks, one after another.
use Rattle.std.proofs.Common.{◌≡◌, ℕ, zero, suc, ◌+◌, ◌≤◌, ◌<◌, ◌⊎◌, inl, inr, List, [], ◌∷◌, ◌++◌, length, get_or, set, refl, ap, ap₂, subst, ◌∙◌, arith}
use Rattle.std.specs.Prelude.{Option, Some, None}
use Rattle.std.proofs.lemmas.Bool.{cases_eq}
use Rattle.std.proofs.lemmas.List.{append_assoc, get_or-set_same, get_or-set_other, length-set}
use Rattle.plain_fabric.specs.Contents.{HoldNothing, HoldNothingBeside, held, held_from}

module _ {X : Type 0} where
  -- places that hold the same
  pub same_held : (chunks new : List (Option X)) (first count : ℕ) → ((number : ℕ) → first ≤ number → number < first + count → get_or new number None ≡ get_or chunks number None) → held_from new first count ≡ held_from chunks first count
  same_held chunks new first zero same = refl
  same_held chunks new first (suc count) same =
      ap₂ (λ (before : List X) (last : Option X). before ++ held last)
      (same_held chunks new first count (λ number from below. same number from (omega (arith, below))))
      (same (first + count) (omega arith) (omega arith))

  -- one more is laid
  pub laid_more : (chunks : List (Option X)) (first count : ℕ) (x : X) (rest parcels : List X) → first + count < length chunks → held_from chunks first count ++ x ∷ rest ≡ parcels
      → held_from (set chunks (first + count) (Some x)) first (count + 1) ++ rest ≡ parcels
  laid_more chunks first count x rest parcels inside before =
      let now : List (Option X) = set chunks (first + count) (Some x) in
      let same : held_from now first count ≡ held_from chunks first count =
      same_held chunks now first count (λ number from below. get_or-set_other chunks (first + count) number (Some x) None (omega (arith, below))) in
      let here : get_or now (first + count) None ≡ Some x = get_or-set_same chunks (first + count) (Some x) None inside in
      let one : suc count ≡ count + 1 = omega arith in
      subst (λ (n : ℕ). held_from now first n ++ rest ≡ parcels) one
      (ap₂ (λ (front : List X) (last : Option X). (front ++ held last) ++ rest) same here
      ∙ append_assoc (held_from chunks first count) (x ∷ []) rest
      ∙ before)

  pub beside_more : (chunks : List (Option X)) (first count : ℕ) (now : Option X) → HoldNothingBeside chunks first count → HoldNothingBeside (set chunks (first + count) now) first (count + 1)
  beside_more chunks first count now old number away =
      get_or-set_other chunks (first + count) number now None (elim away [
        | inl less ↦ omega (arith, less)
        | inr more ↦ omega (arith, more)
      ]) ∙ old number (elim away [
        | inl less ↦ inl less
        | inr more ↦ inr (omega (arith, more))
      ])

  pub none_beside : (chunks : List (Option X)) (first : ℕ) → HoldNothing chunks → HoldNothingBeside chunks first 0
  none_beside chunks first none number away = none number

  -- those from low on hold what they held, and the others nothing
  pub record AreOut (old now : List (Option X)) (low high : ℕ) : Type 0 where
    pub still : (number : ℕ) → low ≤ number → number < high → get_or now number None ≡ get_or old number None
    pub out : (number : ℕ) → (number < low) ⊎ (high ≤ number) → get_or now number None ≡ None
    pub long : length now ≡ length old

  pub one_out : (old now : List (Option X)) (low high : ℕ) → AreOut old now low high → low < high → high ≤ length old → AreOut old (set now low None) (low + 1) high
  one_out old now low high are some within = record {
    still = λ number from below. get_or-set_other now low number None None (omega (arith, from)) ∙ are.still number (omega (arith, from)) below;
    out = λ number away. elim (cases_eq number low) [
      | inl same ↦ ap (λ (n : ℕ). get_or (set now low None) n None) same ∙ get_or-set_same now low None None (omega (arith, some, within, are.long))
      | inr other ↦ get_or-set_other now low number None None other ∙ are.out number (elim away [
        | inl less ↦ inl (omega (arith, less, other))
        | inr more ↦ inr more
      ])
    ];
    long = length-set now low None ∙ are.long;
  }
