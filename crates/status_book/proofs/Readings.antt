-- What is noted after a list of counts was found.
use Rattle.std.proofs.Common.{ℕ, zero, suc, ◌≡◌, ◌≢◌, ◌+◌, ◌<◌, ◌≤◌, Bool, cond, List, ◌∷◌, ◌++◌, length, slice_index, set, replicate, refl, sym, ap, ◌∙◌, subst, inl, inr, arith, get_or-set_same, get_or-set_other}
use Rattle.std.proofs.lemmas.Bool.{eq-eqb, ne_eqb, cases_eq}
use Rattle.status_book.specs.declared.view.Reading.{Reading}
use Rattle.status_book.specs.Rule.{HaveReached}
use Rattle.status_book.specs.Views.{last_reading, readings_told}
use Rattle.status_book.specs.Words.{word_at}
use Rattle.status_book.proofs.Places.{words_apart}

reading_here : (r : Reading) (rs : List Reading) (word : ℕ) → r.word ≡ word → last_reading word (r ∷ rs) ≡ r.number
reading_here r rs word same = ap (λ (b : Bool). cond b r.number (last_reading word rs)) (eq-eqb r.word word same)

reading_else : (r : Reading) (rs : List Reading) (word : ℕ) → r.word ≢ word → last_reading word (r ∷ rs) ≡ last_reading word rs
reading_else r rs word other = ap (λ (b : Bool). cond b r.number (last_reading word rs)) (ne_eqb r.word word other)

-- a number that is found isn't above its word
pub reached_more : (word : ℕ → ℕ) (r : Reading) (rs : List Reading) → r.number ≤ word r.word → HaveReached word rs → HaveReached word (r ∷ rs)
reached_more word r rs here old i =
    elim (cases_eq r.word i) [
      | inl same ↦ subst (λ (n : ℕ). n ≤ word i) (sym (reading_here r rs i same)) (subst (λ (j : ℕ). r.number ≤ word j) same here)
      | inr other ↦ subst (λ (n : ℕ). n ≤ word i) (sym (reading_else r rs i other)) (old i)
    ]

abbrev told : List ℕ → ℕ → Reading
told counts place = record { word = word_at place; number = slice_index counts place }

-- the readings depend on the counts that were found alone
pub told_same : (counts counts' : List ℕ) (place : ℕ) → ((q : ℕ) → q < place → slice_index counts' q ≡ slice_index counts q) → readings_told counts' place ≡ readings_told counts place
told_same counts counts' zero same = refl
told_same counts counts' (suc place) same =
    ap (λ (n : ℕ). record { word = word_at place; number = n } ∷ readings_told counts' place) (same place (omega arith))
    ∙ ap (λ (rs : List Reading). record { word = word_at place; number = slice_index counts place } ∷ rs) (told_same counts counts' place (λ q lt. same q (omega arith)))

-- behind the places that were looked at, what was noted before is noted
pub noted_behind : (counts : List ℕ) (old : List Reading) (place q : ℕ) → place ≤ q → last_reading (word_at q) (readings_told counts place ++ old) ≡ last_reading (word_at q) old
noted_behind counts old zero q le = refl
noted_behind counts old (suc place) q le =
    reading_else (told counts place) (readings_told counts place ++ old) (word_at q) (words_apart place q (λ same. omega arith))
    ∙ noted_behind counts old place q (omega arith)

-- at a place that was looked at, its count is noted
pub noted_here : (counts : List ℕ) (old : List Reading) (place q : ℕ) → q < place → last_reading (word_at q) (readings_told counts place ++ old) ≡ slice_index counts q
noted_here counts old zero q lt = absurd (omega arith)
noted_here counts old (suc place) q lt =
    elim (cases_eq place q) [
      | inl same ↦ reading_here (told counts place) (readings_told counts place ++ old) (word_at q) (ap word_at same) ∙ ap (slice_index counts) same
      | inr other ↦ reading_else (told counts place) (readings_told counts place ++ old) (word_at q) (words_apart place q other) ∙ noted_here counts old place q (omega arith)
    ]

-- one count more
pub told_next : (counts : List ℕ) (place number : ℕ) → place < length counts → record { word = word_at place; number = number } ∷ readings_told counts place ≡ readings_told (set counts place number) (suc place)
told_next counts place number lt =
    sym (
    ap (λ (n : ℕ). record { word = word_at place; number = n } ∷ readings_told (set counts place number) place) (get_or-set_same counts place number 0 lt)
    ∙ ap (λ (rs : List Reading). record { word = word_at place; number = number } ∷ rs) (told_same counts (set counts place number) place (λ q below. get_or-set_other counts place q number 0 (λ same. omega arith)))
    )

-- ---- a list of counts that is filled from its front

pub filled_next : (f : ℕ → ℕ) (counts : List ℕ) (place number : ℕ) → place < length counts → ((q : ℕ) → q < place → slice_index counts q ≡ f q)
    → number ≡ f place → (q : ℕ) → q < place + 1 → slice_index (set counts place number) q ≡ f q
filled_next f counts place number lt before is q below =
    elim (cases_eq q place) [
      | inl same ↦ ap (slice_index (set counts place number)) same ∙ get_or-set_same counts place number 0 lt ∙ is ∙ sym (ap f same)
      | inr other ↦ get_or-set_other counts place q number 0 other ∙ before q (omega arith)
    ]

pub risen_next : (f : ℕ → ℕ) (counts : List ℕ) (place number : ℕ) → place < length counts → ((q : ℕ) → q < place → f q ≤ slice_index counts q)
    → f place ≤ number → (q : ℕ) → q < place + 1 → f q ≤ slice_index (set counts place number) q
risen_next f counts place number lt before rises q below =
    elim (cases_eq q place) [
      | inl same ↦
          let here : slice_index (set counts place number) q ≡ number = ap (slice_index (set counts place number)) same ∙ get_or-set_same counts place number 0 lt in
          omega (arith, ap f same, here, rises)
      | inr other ↦
          let there : slice_index (set counts place number) q ≡ slice_index counts q = get_or-set_other counts place q number 0 other in
          omega (arith, there, before q (omega arith))
    ]

pub empty_behind : (counts : List ℕ) (place number : ℕ) → ((q : ℕ) → place ≤ q → slice_index counts q ≡ 0)
    → (q : ℕ) → place + 1 ≤ q → slice_index (set counts place number) q ≡ 0
empty_behind counts place number before q le = get_or-set_other counts place q number 0 (λ same. omega arith) ∙ before q (omega arith)

pub zeros : (m i : ℕ) → slice_index (replicate m 0) i ≡ 0
zeros zero i = refl
zeros (suc m) zero = refl
zeros (suc m) (suc i) = zeros m i
