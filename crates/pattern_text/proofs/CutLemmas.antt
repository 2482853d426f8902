-- The test of a pattern finds exactly the texts that can be cut into its parts.
use Rattle.std.proofs.Common.{◌≡◌, ◌↔◌, ℕ, true, false, ◌&&◌, eqb, List, [], ◌∷◌, ◌++◌, sym, refl, ap, ◌∙◌, subst, ⊎_elim}
use Rattle.std.specs.List.{onto_first}
use Rattle.std.proofs.lemmas.Bool.{cond-true, cond-false, cases_Bool, and_parts, and_from, both_ways, false≢true, eqb-true, eq-eqb}
use Rattle.std.proofs.lemmas.List.Splits.{slice_split-cons_yes, slice_split-cons_no}
use Rattle.pattern_text.specs.TextPattern.{parts_of, CutsInto, TextMatches, text_matches, some_end, begins_with, is_nil}
use Rattle.pattern_text.proofs.GlobLemmas.{passing_end, some_end_at}

-- the first part of a pattern, and the others
abbrev HasParts : List ℕ → Type 0
HasParts pattern = (part : List ℕ) × (more : List (List ℕ)) × (parts_of pattern ≡ part ∷ more)

parts_at_star : (p : ℕ) (ps : List ℕ) → eqb p 42 ≡ true → parts_of (p ∷ ps) ≡ [] ∷ parts_of ps
parts_at_star p ps e = slice_split-cons_yes (λ b. eqb b 42) p ps e

parts_at_byte : (p : ℕ) (ps : List ℕ) → eqb p 42 ≡ false → parts_of (p ∷ ps) ≡ onto_first p (parts_of ps)
parts_at_byte p ps e = slice_split-cons_no (λ b. eqb b 42) p ps e

has_more_parts : (p : ℕ) (ps : List ℕ) → HasParts ps → HasParts (p ∷ ps)
has_more_parts p ps first =
    ⊎_elim
    (λ e. ([], parts_of ps, parts_at_star p ps e))
    (λ e. (p ∷ first.0, first.1, parts_at_byte p ps e ∙ ap (onto_first p) first.2))
    (cases_Bool (eqb p 42))

has_parts : (pattern : List ℕ) → HasParts pattern
has_parts [] = ([], [], refl)
has_parts (p ∷ ps) = has_more_parts p ps (has_parts ps)

-- a byte more at the front of text and part
grow : (p : ℕ) (part : List ℕ) (more : List (List ℕ)) (bs : List ℕ) → CutsInto (part ∷ more) bs → CutsInto ((p ∷ part) ∷ more) (p ∷ bs)
grow p part [] bs cut = ap (λ x. p ∷ x) cut
grow p part (next ∷ more) bs cut = (cut.0, cut.1, ap (λ x. p ∷ x) cut.2, cut.3)

shrink : (p : ℕ) (part : List ℕ) (more : List (List ℕ)) (text : List ℕ) → CutsInto ((p ∷ part) ∷ more) text → (bs : List ℕ) × (text ≡ p ∷ bs) × CutsInto (part ∷ more) bs
shrink p part [] text cut = (part, cut, refl)
shrink p part (next ∷ more) text cut = (part ++ (cut.0 ++ cut.1), cut.2, (cut.0, cut.1, refl, cut.3))

-- what holds of a shorter pattern, at any text
abbrev IsCut : List ℕ → Type 0
IsCut pattern = (text : List ℕ) → text_matches pattern text ≡ true → CutsInto (parts_of pattern) text

abbrev IsMatched : List ℕ → Type 0
IsMatched pattern = (text : List ℕ) → CutsInto (parts_of pattern) text → text_matches pattern text ≡ true

cut_at_star : (p : ℕ) (ps : List ℕ) → HasParts ps → IsCut ps → eqb p 42 ≡ true → IsCut (p ∷ ps)
cut_at_star p ps first shorter e text matched =
    let found = passing_end (text_matches ps) text (sym (cond-true _ _ _ e) ∙ matched) in
    let behind : CutsInto (first.0 ∷ first.1) found.1 = subst (λ x. CutsInto x found.1) first.2 (shorter found.1 found.3) in
    let whole : CutsInto ([] ∷ first.0 ∷ first.1) text = (found.0, found.1, found.2, behind) in
    subst (λ x. CutsInto x text) (sym (parts_at_star p ps e ∙ ap (λ x. [] ∷ x) first.2)) whole

cut_at_byte : (p : ℕ) (ps : List ℕ) → HasParts ps → IsCut ps → eqb p 42 ≡ false → IsCut (p ∷ ps)
cut_at_byte p ps first shorter e [] matched = absurd (both_ways _ (cond-false _ _ _ e) matched)
cut_at_byte p ps first shorter e (b ∷ bs) matched =
    let both : (eqb b p && text_matches ps bs) ≡ true = sym (cond-false _ _ _ e) ∙ matched in
    let parts = and_parts _ _ both in
    let behind : CutsInto (first.0 ∷ first.1) bs = subst (λ x. CutsInto x bs) first.2 (shorter bs parts.1) in
    let grown : CutsInto ((p ∷ first.0) ∷ first.1) (b ∷ bs) = subst (λ x. CutsInto ((p ∷ first.0) ∷ first.1) (x ∷ bs)) (sym (eqb-true b p parts.0)) (grow p first.0 first.1 bs behind) in
    subst (λ x. CutsInto x (b ∷ bs)) (sym (parts_at_byte p ps e ∙ ap (onto_first p) first.2)) grown

to_cuts : (pattern : List ℕ) → IsCut pattern
to_cuts [] [] matched = refl
to_cuts [] (b ∷ bs) matched = absurd (false≢true matched)
to_cuts (p ∷ ps) text matched =
    let first = has_parts ps in
    ⊎_elim
    (λ e. cut_at_star p ps first (to_cuts ps) e text matched)
    (λ e. cut_at_byte p ps first (to_cuts ps) e text matched)
    (cases_Bool (eqb p 42))

matched_at_star : (p : ℕ) (ps : List ℕ) → HasParts ps → IsMatched ps → eqb p 42 ≡ true → IsMatched (p ∷ ps)
matched_at_star p ps first shorter e text cut =
    let whole : CutsInto ([] ∷ first.0 ∷ first.1) text = subst (λ x. CutsInto x text) (parts_at_star p ps e ∙ ap (λ x. [] ∷ x) first.2) cut in
    let behind = shorter whole.1 (subst (λ x. CutsInto x whole.1) (sym first.2) whole.3) in
    cond-true _ _ _ e ∙ ap (some_end (text_matches ps)) whole.2 ∙ some_end_at (text_matches ps) whole.0 whole.1 behind

matched_at_byte : (p : ℕ) (ps : List ℕ) → HasParts ps → IsMatched ps → eqb p 42 ≡ false → IsMatched (p ∷ ps)
matched_at_byte p ps first shorter e text cut =
    let whole : CutsInto ((p ∷ first.0) ∷ first.1) text = subst (λ x. CutsInto x text) (parts_at_byte p ps e ∙ ap (onto_first p) first.2) cut in
    let rest = shrink p first.0 first.1 text whole in
    let behind = shorter rest.0 (subst (λ x. CutsInto x rest.0) (sym first.2) rest.2) in
    cond-false _ _ _ e ∙ ap (begins_with p (text_matches ps)) rest.1 ∙ and_from _ _ (eq-eqb p p refl) behind

from_cuts : (pattern : List ℕ) → IsMatched pattern
from_cuts [] text cut = ap is_nil cut
from_cuts (p ∷ ps) text cut =
    let first = has_parts ps in
    ⊎_elim
    (λ e. matched_at_star p ps first (from_cuts ps) e text cut)
    (λ e. matched_at_byte p ps first (from_cuts ps) e text cut)
    (cases_Bool (eqb p 42))

pub matches_where_cut : (pattern text : List ℕ) → (text_matches pattern text ≡ true) ↔ TextMatches pattern text
matches_where_cut pattern text = (to_cuts pattern text, from_cuts pattern text)
