-- Lemmas on patterns without a star, and on one pass over a list of patterns.
use Rattle.std.proofs.Common.{◌≡◌, ℕ, Bool, true, false, ◌&&◌, ◌||◌, eqb, cond, List, [], ◌∷◌, drop, sym, refl, ap, ◌∙◌, map-id, arith}
use Rattle.std.specs.Str.{bytes_eq}
use Rattle.std.specs.Char.{to_ascii_lowercase}
use Rattle.std.proofs.lemmas.Bool.{cond-false, both_ways}
use Rattle.std.proofs.lemmas.Bool.Decides.{nat_tests}
use Rattle.pattern_text.specs.declared.case.Case.{Case}
use Rattle.pattern_text.specs.declared.case.Case.TheVariants.{Exact, Ignored}
use Rattle.pattern_text.specs.Case.{folded, folded_all, holds_of}
use Rattle.pattern_text.specs.TextPattern.{is_negated, plain_part, text_matches, contains_star}

not_first : (x y : Bool) → (x || y) ≡ false → x ≡ false
not_first true y none = none
not_first false y none = refl

not_rest : (x y : Bool) → (x || y) ≡ false → y ≡ false
not_rest true y none = absurd (both_ways _ none refl)
not_rest false y none = none

-- without a star each byte stands for itself
matches_itself_alone : (pattern text : List ℕ) → contains_star pattern ≡ false → text_matches pattern text ≡ bytes_eq text pattern
matches_itself_alone [] [] none = refl
matches_itself_alone [] (b ∷ bs) none = refl
matches_itself_alone (p ∷ ps) [] none = cond-false _ _ _ (not_first (eqb p 42) (contains_star ps) none)
matches_itself_alone (p ∷ ps) (b ∷ bs) none =
    cond-false _ _ _ (not_first (eqb p 42) (contains_star ps) none) ∙ ap (λ t. eqb b p && t) (matches_itself_alone ps bs (not_rest (eqb p 42) (contains_star ps) none))

-- case leaves the stars
star_folded : (case : Case) (b : ℕ) → eqb (folded case b) 42 ≡ eqb b 42
star_folded Exact b = refl
star_folded Ignored b = lower b
  where
    lower : (b : ℕ) → eqb (to_ascii_lowercase b) 42 ≡ eqb b 42
    lower b = grind (arith, nat_tests)

contains_star-folded : (case : Case) (pattern : List ℕ) → contains_star (folded_all case pattern) ≡ contains_star pattern
contains_star-folded case [] = refl
contains_star-folded case (b ∷ bs) = λ i. star_folded case b i || contains_star-folded case bs i

contains_star-plain : (pattern : List ℕ) → contains_star pattern ≡ false → contains_star (plain_part pattern) ≡ false
contains_star-plain pattern none = by_sign (is_negated pattern) pattern none
  where
    by_sign : (t : Bool) (pattern : List ℕ) → contains_star pattern ≡ false → contains_star (cond t (drop 1 pattern) pattern) ≡ false
    by_sign false pattern none = none
    by_sign true [] none = refl
    by_sign true (b ∷ bs) none = not_rest (eqb b 42) (contains_star bs) none

pub holds_without_star : (case : Case) (pattern text : List ℕ) → contains_star pattern ≡ false → holds_of case pattern text ≡ bytes_eq (folded_all case text) (folded_all case (plain_part pattern))
holds_without_star case pattern text none =
    matches_itself_alone (folded_all case (plain_part pattern)) (folded_all case text) (contains_star-folded case (plain_part pattern) ∙ contains_star-plain pattern none)

pub same_exactly : (case : Case) → case ≡ Exact → (text other : List ℕ) → bytes_eq text other ≡ bytes_eq (folded_all case text) (folded_all case other)
same_exactly case exact text other =
    (λ i. bytes_eq (sym (map-id text) i) (sym (map-id other) i)) ∙ ap (λ k. bytes_eq (folded_all k text) (folded_all k other)) (sym exact)
