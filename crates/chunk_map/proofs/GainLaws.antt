-- What a view holds, and what a search saw, after it gained neighbouring chunks or gave them back.
use Rattle.std.proofs.Common.{ℕ, zero, suc, ◌≡◌, ◌≢◌, ◌+◌, ◌<◌, ◌≤◌, ◌==◌, ◌⊎◌, inl, inr, ⊎_elim, Bool, true, false, if◌then◌else◌, List, [], ◌∷◌, ◌++◌, refl, sym, ap, subst, ◌∙◌, arith}
use Rattle.std.specs.List.{range_with_len}
use Rattle.std.proofs.lemmas.Bool.{eq-eqb, ne_eqb, cases_eq}
use Rattle.unit_model.specs.Weights.{weigh, below, is_number}
use Rattle.unit_model.proofs.Weights.{is_number_same, is_number_other, weigh_range}
use Rattle.chunk_map.specs.declared.view.MapEvent.{MapEvent}
use Rattle.chunk_map.specs.declared.view.MapEvent.TheVariants.{Gained, Missed, Released}
use Rattle.chunk_map.specs.Gains.{gained, given_back, tried, more, with_events, Steps, SameSearch}
use Rattle.chunk_map.specs.Looks.{was_gained, seen_free, was_looked}

-- ---- what some events make of a view, and what is held

module _ (V : Type 0) (after : MapEvent → V → V) where
  pub more_steps : (events : List MapEvent) (v w u : V) → w ≡ with_events after events v → Steps after w u → Steps after v u
  more_steps events v w u one two = (two.0 ++ events, two.1 ∙ ap (with_events after two.0) one ∙ joined two.0)
    where
      joined : (es : List MapEvent) → with_events after es (with_events after events v) ≡ with_events after (es ++ events) v
      joined [] = refl
      joined (e ∷ es) = ap (after e) (joined es)

  pub steps_on : (v w u : V) → Steps after v w → Steps after w u → Steps after v u
  steps_on v w u one two = more_steps one.0 v w u one.1 two

  pub steps_one : (e : MapEvent) (v w : V) → w ≡ after e v → Steps after v w
  steps_one e v w is = (e ∷ [], is)

  pub steps_gained : (first n : ℕ) (v : V) → Steps after v (gained after first n v)
  steps_gained first zero v = ([], refl)
  steps_gained first (suc n) v = steps_on v (gained after first n v) (gained after first (suc n) v) (steps_gained first n v) (steps_one (Gained (first + n)) (gained after first n v) (gained after first (suc n) v) refl)

  pub steps_back : (first n : ℕ) (v : V) → Steps after v (given_back after first n v)
  steps_back first zero v = ([], refl)
  steps_back first (suc n) v = steps_on v (after (Released (first + n)) v) (given_back after first (suc n) v) (steps_one (Released (first + n)) v (after (Released (first + n)) v) refl) (steps_back first n (after (Released (first + n)) v))

  pub steps_tried : (first n : ℕ) (v : V) → Steps after v (tried after first n v)
  steps_tried first n v =
      let had : V = gained after first n v in
      let missed : V = after (Missed (first + n)) had in
      steps_on v had (tried after first n v) (steps_gained first n v) (steps_on had missed (tried after first n v) (steps_one (Missed (first + n)) had missed refl) (steps_back first n missed))

  -- what each event leaves true, some events leave true
  pub steps_keep : (Holds : V → Type 0) → ((e : MapEvent) (v : V) → Holds v → Holds (after e v)) → (v u : V) → Steps after v u → Holds v → Holds u
  steps_keep Holds keeps v u steps holds = subst Holds (sym steps.1) (by steps.0)
    where
      by : (es : List MapEvent) → Holds (with_events after es v)
      by [] = holds
      by (e ∷ es) = keeps e (with_events after es v) (by es)

  -- what a view tells of its log
  module _ (log : V → List MapEvent) (logs : (e : MapEvent) (v : V) → log (after e v) ≡ e ∷ log v) where
    pub log_gained : (first n : ℕ) (v : V) → log (gained after first n v) ≡ gained more first n (log v)
    log_gained first zero v = refl
    log_gained first (suc n) v = logs (Gained (first + n)) (gained after first n v) ∙ ap (more (Gained (first + n))) (log_gained first n v)

    pub log_back : (first n : ℕ) (v : V) → log (given_back after first n v) ≡ given_back more first n (log v)
    log_back first zero v = refl
    log_back first (suc n) v = log_back first n (after (Released (first + n)) v) ∙ ap (given_back more first n) (logs (Released (first + n)) v)

    pub log_tried : (first n : ℕ) (v : V) → log (tried after first n v) ≡ tried more first n (log v)
    log_tried first n v =
        log_back first n (after (Missed (first + n)) (gained after first n v))
        ∙ ap (given_back more first n) (logs (Missed (first + n)) (gained after first n v) ∙ ap (more (Missed (first + n))) (log_gained first n v))

  -- what is held weighs
  module _ (weighs : (ℕ → ℕ) → V → ℕ) (frees : (f : ℕ → ℕ) (chunk : ℕ) (v : V) → 0 < weighs (is_number chunk) v → weighs f (after (Released chunk) v) + f chunk ≡ weighs f v) where
    -- a chunk given back leaves the others
    pub still_held : (chunk other : ℕ) (v : V) → chunk ≢ other → 0 < weighs (is_number chunk) v → 0 < weighs (is_number other) v → 0 < weighs (is_number other) (after (Released chunk) v)
    still_held chunk other v ne mine theirs = omega (arith, theirs, frees (is_number other) chunk v mine, is_number_other other chunk ne)

    pub back_weigh : (first n : ℕ) (v : V) (f : ℕ → ℕ) → ((i : ℕ) → i < n → 0 < weighs (is_number (first + i)) v) → weigh f (range_with_len first n) + weighs f (given_back after first n v) ≡ weighs f v
    back_weigh first n v f mine = omega (arith, weigh_range f first n, by n v mine)
      where
        by : (n : ℕ) (v : V) → ((i : ℕ) → i < n → 0 < weighs (is_number (first + i)) v) → below (λ i. f (first + i)) n + weighs f (given_back after first n v) ≡ weighs f v
        by zero v mine = omega arith
        by (suc n) v mine =
            let last = mine n (omega arith) in
            omega (
              arith,
              by n (after (Released (first + n)) v) (λ i lt. still_held (first + n) (first + i) v (λ e. absurd (omega (arith, lt, e))) last (mine i (omega (arith, lt)))),
              frees f (first + n) v last,
            )

  -- of a map with so many chunks
  module _ (weighs : (ℕ → ℕ) → V → ℕ) (size : ℕ) (gains : (f : ℕ → ℕ) (chunk : ℕ) (v : V) → chunk < size → weighs f (after (Gained chunk) v) ≡ f chunk + weighs f v) where
    pub gained_weigh : (first n : ℕ) (v : V) (f : ℕ → ℕ) → first + n ≤ size → weighs f (gained after first n v) ≡ below (λ i. f (first + i)) n + weighs f v
    gained_weigh first zero v f fits = omega arith
    gained_weigh first (suc n) v f fits = omega (arith, gained_weigh first n v f (omega (arith, fits)), gains f (first + n) (gained after first n v) (omega (arith, fits)))

    pub gained_run : (first n : ℕ) (v : V) (f : ℕ → ℕ) → first + n ≤ size → weighs f (gained after first n v) ≡ weigh f (range_with_len first n) + weighs f v
    gained_run first n v f fits = omega (arith, gained_weigh first n v f fits, weigh_range f first n)

    pub gained_held : (first n i : ℕ) (v : V) → first + n ≤ size → i < n → 0 < weighs (is_number (first + i)) (gained after first n v)
    gained_held first zero i v fits lt = absurd (omega (arith, lt))
    gained_held first (suc n) i v fits lt =
        let one : weighs (is_number (first + i)) (gained after first (suc n) v) ≡ is_number (first + i) (first + n) + weighs (is_number (first + i)) (gained after first n v) = gains (is_number (first + i)) (first + n) (gained after first n v) (omega (arith, fits)) in
        ⊎_elim
        (λ is. omega (arith, one, ap (λ (k : ℕ). is_number (first + k) (first + n)) is, is_number_same (first + n)))
        (λ ne. omega (arith, one, gained_held first n i v (omega (arith, fits)) (omega (arith, lt, ne))))
        (cases_eq i n)

    -- a try leaves what is held
    pub tried_weigh : ((f : ℕ → ℕ) (chunk : ℕ) (v : V) → 0 < weighs (is_number chunk) v → weighs f (after (Released chunk) v) + f chunk ≡ weighs f v) → ((f : ℕ → ℕ) (chunk : ℕ) (v : V) → weighs f (after (Missed chunk) v) ≡ weighs f v)
        → (first n : ℕ) (v : V) (f : ℕ → ℕ) → first + n ≤ size → weighs f (tried after first n v) ≡ weighs f v
    tried_weigh frees misses first n v f fits =
        let had : V = gained after first n v in
        let missed : V = after (Missed (first + n)) had in
        omega (
          arith,
          back_weigh weighs frees first n missed f (λ i lt. omega (arith, misses (is_number (first + i)) (first + n) had, gained_held first n i v fits lt)),
          misses f (first + n) had,
          gained_run first n v f fits,
        )

-- ---- what the search saw

pub seen_back : (first n : ℕ) (v : List MapEvent) (chunk : ℕ) → seen_free (given_back more first n v) chunk ≡ seen_free v chunk
seen_back first zero v chunk = refl
seen_back first (suc n) v chunk = seen_back first n (more (Released (first + n)) v) chunk

pub gained_back : (first n : ℕ) (v : List MapEvent) (chunk : ℕ) → was_gained (given_back more first n v) chunk ≡ was_gained v chunk
gained_back first zero v chunk = refl
gained_back first (suc n) v chunk = gained_back first n (more (Released (first + n)) v) chunk

pub seen_inside : (first n i : ℕ) (v : List MapEvent) → i < n → seen_free (gained more first n v) (first + i) ≡ true
seen_inside first zero i v lt = absurd (omega (arith, lt))
seen_inside first (suc n) i v lt = ⊎_elim
    (λ is. ap (λ (b : Bool). if b then true else seen_free (gained more first n v) (first + i)) (eq-eqb (first + n) (first + i) (ap (λ (k : ℕ). first + k) (sym is))))
    (λ ne. ap (λ (b : Bool). if b then true else seen_free (gained more first n v) (first + i)) (ne_eqb (first + n) (first + i) (λ e. ne (omega (arith, e)))) ∙ seen_inside first n i v (omega (arith, lt, ne)))
    (cases_eq i n)

pub seen_outside : (first n : ℕ) (v : List MapEvent) (chunk : ℕ) → (chunk < first) ⊎ (first + n ≤ chunk) → seen_free (gained more first n v) chunk ≡ seen_free v chunk
seen_outside first zero v chunk out = refl
seen_outside first (suc n) v chunk out =
    ap (λ (b : Bool). if b then true else seen_free (gained more first n v) chunk) (ne_eqb (first + n) chunk (λ e. ⊎_elim (λ lt. absurd (omega (arith, lt, e))) (λ le. absurd (omega (arith, le, e))) out))
    ∙ seen_outside first n v chunk (⊎_elim (λ lt. inl lt) (λ le. inr (omega (arith, le))) out)

pub gained_outside : (first n : ℕ) (v : List MapEvent) (chunk : ℕ) → (chunk < first) ⊎ (first + n ≤ chunk) → was_gained (gained more first n v) chunk ≡ was_gained v chunk
gained_outside first zero v chunk out = refl
gained_outside first (suc n) v chunk out =
    ap (λ (b : Bool). if b then true else was_gained (gained more first n v) chunk) (ne_eqb (first + n) chunk (λ e. ⊎_elim (λ lt. absurd (omega (arith, lt, e))) (λ le. absurd (omega (arith, le, e))) out))
    ∙ gained_outside first n v chunk (⊎_elim (λ lt. inl lt) (λ le. inr (omega (arith, le))) out)

-- ---- the search goes on

pub still_true : (b x : Bool) → x ≡ true → (if b then true else x) ≡ true
still_true true x is = refl
still_true false x is = is

pub search_same : (v : List MapEvent) → SameSearch v v
search_same v = record { opened = refl; looked = λ chunk was. was; searched = λ count before s. s }

pub search_on : (v w u : List MapEvent) → SameSearch v w → SameSearch w u → SameSearch v u
search_on v w u one two = record {
  opened = two.opened ∙ one.opened;
  looked = λ chunk was. two.looked chunk (one.looked chunk was);
  searched = λ count before s. two.searched count before (one.searched count before s);
}

pub search_gained : (first n : ℕ) (v : List MapEvent) → SameSearch v (gained more first n v)
search_gained first zero v = search_same v
search_gained first (suc n) v = let before = search_gained first n v in record { opened = before.opened; looked = λ chunk was. still_true (first + n == chunk) (was_looked (gained more first n v) chunk) (before.looked chunk was); searched = before.searched }

pub search_back : (first n : ℕ) (v : List MapEvent) → SameSearch v (given_back more first n v)
search_back first zero v = search_same v
search_back first (suc n) v =
    let later = search_back first n (more (Released (first + n)) v) in
    record { opened = later.opened; looked = later.looked; searched = later.searched }

pub search_tried : (first n : ℕ) (v : List MapEvent) → SameSearch v (tried more first n v)
search_tried first n v =
    let missed : List MapEvent = more (Missed (first + n)) (gained more first n v) in
    let before = search_gained first n v in
    search_on v missed (given_back more first n missed) record { opened = before.opened; looked = λ chunk was. still_true (first + n == chunk) (was_looked (gained more first n v) chunk) (before.looked chunk was); searched = before.searched } (search_back first n missed)

-- ---- a try that missed a chunk

pub tried_missed : (first n : ℕ) (v : List MapEvent) → was_gained v (first + n) ≡ false → seen_free (tried more first n v) (first + n) ≡ false
tried_missed first n v never =
    seen_back first n (more (Missed (first + n)) (gained more first n v)) (first + n)
    ∙ ap (λ (b : Bool). if b then was_gained (gained more first n v) (first + n) else seen_free (gained more first n v) (first + n)) (eq-eqb (first + n) (first + n) refl)
    ∙ gained_outside first n v (first + n) (inr (omega arith))
    ∙ never

pub tried_inside : (first n i : ℕ) (v : List MapEvent) → i < n → seen_free (tried more first n v) (first + i) ≡ true
tried_inside first n i v lt =
    seen_back first n (more (Missed (first + n)) (gained more first n v)) (first + i)
    ∙ ap (λ (b : Bool). if b then was_gained (gained more first n v) (first + i) else seen_free (gained more first n v) (first + i)) (ne_eqb (first + n) (first + i) (λ e. absurd (omega (arith, lt, e))))
    ∙ seen_inside first n i v lt

pub tried_outside : (first n : ℕ) (v : List MapEvent) (chunk : ℕ) → (chunk < first) ⊎ (first + n < chunk) → seen_free (tried more first n v) chunk ≡ seen_free v chunk
tried_outside first n v chunk out =
    seen_back first n (more (Missed (first + n)) (gained more first n v)) chunk
    ∙ ap (λ (b : Bool). if b then was_gained (gained more first n v) chunk else seen_free (gained more first n v) chunk) (ne_eqb (first + n) chunk (λ e. ⊎_elim (λ lt. absurd (omega (arith, lt, e))) (λ lt. absurd (omega (arith, lt, e))) out))
    ∙ seen_outside first n v chunk (⊎_elim (λ lt. inl lt) (λ lt. inr (omega (arith, lt))) out)

pub tried_gained : (first n : ℕ) (v : List MapEvent) (chunk : ℕ) → (chunk < first) ⊎ (first + n ≤ chunk) → was_gained (tried more first n v) chunk ≡ was_gained v chunk
tried_gained first n v chunk out = gained_back first n (more (Missed (first + n)) (gained more first n v)) chunk ∙ gained_outside first n v chunk out
