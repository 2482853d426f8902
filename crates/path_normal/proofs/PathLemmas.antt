-- Lemmas on paths and their segments.
use Rattle.std.proofs.Common.{◌≡◌, ◌≢◌, ℕ, ◌+◌, ◌<◌, Bool, true, false, cond, ◌⊎◌, List, [], ◌∷◌, ◌++◌, length, drop, get_or, All, Option, Some, None, sym, refl, ap, ◌∙◌, subst, ⊎_elim, append_assoc, append-nil, length-append, arith}
use Rattle.std.specs.Borrow.{Bor}
use Rattle.std.proofs.lemmas.Bool.{cond-true, cond-false, cond_both}
use Rattle.std.proofs.lemmas.List.Elements.{All-nil, All-cons, All-head, All-tail, All-append}
use Rattle.std.proofs.lemmas.List.Concat.{flat_map-append}
use Rattle.path_normal.specs.Path.{says_nothing, goes_up, without_last, left_with, HasNoSlash, LosesSegment, joined, AddsSegment, EndsPath}

-- how much text is left to walk over
abbrev pub text_length : Option (Bor (List ℕ)) → ℕ
text_length None = 0
text_length (Some text) = length text.now + 1

-- ---- the last slash

no_slash_inside : (front back : List ℕ) → HasNoSlash (front ++ 47 ∷ back) → ⊥
no_slash_inside [] back clean = All-head (λ b. b ≢ 47) 47 back clean refl
no_slash_inside (f ∷ front) back clean = no_slash_inside front back (All-tail (λ b. b ≢ 47) f (front ++ 47 ∷ back) clean)

same_front : (a b x y : List ℕ) → HasNoSlash x → HasNoSlash y → a ++ 47 ∷ x ≡ b ++ 47 ∷ y → a ≡ b
same_front [] [] x y clean_x clean_y same = refl
same_front [] (c ∷ b) x y clean_x clean_y same =
    absurd (no_slash_inside b y (subst HasNoSlash (ap (drop 1) same) clean_x))
same_front (c ∷ a) [] x y clean_x clean_y same =
    absurd (no_slash_inside a x (subst HasNoSlash (sym (ap (drop 1) same)) clean_y))
same_front (c ∷ a) (d ∷ b) x y clean_x clean_y same =
    let tails = same_front a b x y clean_x clean_y (ap (drop 1) same) in
    let heads : c ≡ d = ap (λ l. get_or l 0 0) same in
    cc

-- a path ends with its last segment
pub last_segment : (s : List ℕ) (more : List (List ℕ)) → All HasNoSlash (s ∷ more) → (last : List ℕ) × HasNoSlash last × (joined (s ∷ more) ≡ joined (without_last (s ∷ more)) ++ 47 ∷ last)
last_segment s [] clean = (s, All-head HasNoSlash s [] clean, append-nil (47 ∷ s))
last_segment s (t ∷ more) clean =
    let found = last_segment t more (All-tail HasNoSlash s (t ∷ more) clean) in
    (found.0, found.1, ap (λ x. (47 ∷ s) ++ x) found.2 ∙ sym (append_assoc (47 ∷ s) (joined (without_last (t ∷ more))) (47 ∷ found.0)))

pub loses_last : (left : List (List ℕ)) (old new : List ℕ) → All HasNoSlash left → old ≡ joined left → LosesSegment old new → new ≡ joined (without_last left)
loses_last [] old new clean is loses =
    ⊎_elim
    (λ all. all.1)
    (λ some. absurd (omega (arith, ap length some.2, ap length is, length-append new (47 ∷ some.0))))
    loses
loses_last (s ∷ more) old new clean is loses =
    let found = last_segment s more clean in
    ⊎_elim
    (λ all. absurd (no_slash_inside (joined (without_last (s ∷ more))) found.0 (subst HasNoSlash (is ∙ found.2) all.0)))
    (λ some. same_front new (joined (without_last (s ∷ more))) some.0 found.0 some.1 found.1 (sym some.2 ∙ is ∙ found.2))
    loses

-- ---- one segment more

pub adds_nothing : (segment path : List ℕ) → says_nothing segment ≡ true → AddsSegment segment path path
adds_nothing segment path e left clean is = is ∙ sym (ap joined (cond-true _ _ _ e))

pub adds_upwards : (segment old new : List ℕ) → says_nothing segment ≡ false → goes_up segment ≡ true → LosesSegment old new → AddsSegment segment old new
adds_upwards segment old new e up loses left clean is =
    loses_last left old new clean is loses ∙ sym (ap joined (cond-false _ _ _ e ∙ cond-true _ _ _ up))

pub adds_segment : (segment old : List ℕ) → says_nothing segment ≡ false → goes_up segment ≡ false → AddsSegment segment old ((old ++ 47 ∷ []) ++ segment)
adds_segment segment old e up left clean is =
    let named : joined (left ++ segment ∷ []) ≡ joined left ++ ((47 ∷ segment) ++ []) = flat_map-append (λ s. 47 ∷ s) left (segment ∷ []) in
    append_assoc old (47 ∷ []) segment ∙ ap (λ x. x ++ 47 ∷ segment) is ∙ ap (λ x. joined left ++ x) (sym (append-nil (47 ∷ segment))) ∙ sym named ∙ sym (ap joined (cond-false _ _ _ e ∙ cond-false _ _ _ up))

pub without_last_all : (P : List ℕ → Type 0) (left : List (List ℕ)) → All P left → All P (without_last left)
without_last_all P [] all = all
without_last_all P (s ∷ []) all = All-nil P
without_last_all P (s ∷ t ∷ more) all =
    All-cons P s (without_last (t ∷ more)) (All-head P s (t ∷ more) all) (without_last_all P (t ∷ more) (All-tail P s (t ∷ more) all))

pub left_clean : (left : List (List ℕ)) (segment : List ℕ) → All HasNoSlash left → HasNoSlash segment → All HasNoSlash (left_with left segment)
left_clean left segment clean one =
    cond_both (says_nothing segment) left (cond (goes_up segment) (without_last left) (left ++ segment ∷ [])) (All HasNoSlash)
    (λ _. clean)
    (λ _. cond_both (goes_up segment) (without_last left) (left ++ segment ∷ []) (All HasNoSlash)
    (λ _. without_last_all HasNoSlash left clean)
    (λ _. All-append HasNoSlash left (segment ∷ []) clean (All-cons HasNoSlash segment [] one (All-nil HasNoSlash))))

-- ---- the end

pub ends_with_slash : (final : Bool) (old : List ℕ) → (final ≡ true) ⊎ (length old ≡ 0) → EndsPath final old (old ++ 47 ∷ [])
ends_with_slash final old why [] is = ap (λ x. x ++ 47 ∷ []) is
ends_with_slash final old why (s ∷ more) is =
    ⊎_elim
    (λ e. ap (λ x. x ++ 47 ∷ []) is ∙ ap (λ x. joined (s ∷ more) ++ x) (sym (cond-true _ _ _ e)))
    (λ none. absurd (omega (arith, ap length is, none)))
    why

pub ends_without : (final : Bool) (old : List ℕ) → final ≡ false → 0 < length old → EndsPath final old old
ends_without final old e some [] is = absurd (omega (arith, ap length is, some))
ends_without final old e some (s ∷ more) is =
    is ∙ sym (append-nil (joined (s ∷ more))) ∙ ap (λ x. joined (s ∷ more) ++ x) (sym (cond-false _ _ _ e))
