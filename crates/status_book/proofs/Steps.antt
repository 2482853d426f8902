-- Each step on a table of counts keeps its rule.
use Rattle.std.proofs.Common.{ℕ, ◌≡◌, ◌≢◌, ◌+◌, ◌-◌, ◌*◌, ◌%◌, ◌^◌, ◌<◌, ◌≤◌, inl, inr, ⊎_elim, List, [], ◌∷◌, length, map, get_or, slice_index, set, replicate, refl, sym, ap, ◌∙◌, subst, arith, get_or-set_same, get_or-set_other, length-set}
use Rattle.std.specs.List.{All, range_with_len}
use Rattle.std.proofs.lemmas.Bool.{cases_eq}
use Rattle.std.proofs.lemmas.List.{set-get_or, length-replicate}
use Rattle.std.proofs.lemmas.List.Elements.{All-nil, All-cons, All-append, All-take, All-drop}
use Rattle.std.proofs.Math.Nat.{mod-eq_of_lt}
use mathlib.Core.Option.{none, some}
use lib.ListN.{get_elem?}
use Rattle.atomic_table.specs.Table.{State, Me, Act, keeps, step, stepped, Valid, carried_after, opening, Splits, Joins}
use Rattle.atomic_table.proofs.Lists.{at_set, at_snoc, set_else}
use Rattle.unit_model.specs.Sharing.{Holds}
use Rattle.unit_model.specs.Weights.{below, is_number}
use Rattle.unit_model.proofs.Sharing.{owned_stays, owned_below, owned_split, owned_join, owned_once}
use Rattle.unit_model.proofs.Views.{only_view}
use Rattle.unit_model.proofs.Weights.{weigh-append, weigh-map, weigh-take-drop, weigh_at, weigh_range, below_same, is_number_same}
use Rattle.status_book.specs.declared.view.EngineSums.{EngineSums}
use Rattle.status_book.specs.declared.view.StatusView.{StatusView}
use Rattle.status_book.specs.Rule.{AreSums, IsKnown, StatusHolds, Counts, Reads}
use Rattle.status_book.specs.Views.{held_by, last_reading, new_engine, new_engines, of_engine, empty, first_of, others_of, together, counted, after_count, after_reading}
use Rattle.status_book.specs.Words.{kinds, word_of}
use Rattle.status_book.proofs.Readings.{reached_more, zeros}

-- the stepping seat's view, and all others
known_step : (word' : ℕ → ℕ) (views : List StatusView) (k : ℕ) (u : StatusView) → IsKnown word' u
    → ((j : ℕ) (w : StatusView) → j ≢ k → get_elem? views j ≡ some w → IsKnown word' w)
    → (j : ℕ) (w : StatusView) → get_elem? (set views k u) j ≡ some w → IsKnown word' w
known_step word' views k u own others j w there =
    ⊎_elim (λ t. subst (IsKnown word') t.1 own) (λ t. others j w t.0 t.1) (at_set views k j u w there)

-- no word changes
known_stays : (word word' : ℕ → ℕ) (v : StatusView) → ((i : ℕ) → word' i ≡ word i) → IsKnown word v → IsKnown word' v
known_stays word word' v same old =
    (λ k d lt kind below. same (word_of (get_or v.engines k d).engine kind) ∙ old.0 k d lt kind below, λ i. subst (λ (n : ℕ). last_reading i v.readings ≤ n) (sym (same i)) (old.1 i))

-- ---- a look

module _ (n i slots id : ℕ) (v : StatusView) (carried : List (ℕ × ℕ)) (s : State ℕ StatusView) (holds : StatusHolds n s) (at : get_elem? s.views id ≡ some v) where
  abbrev pub After : ℕ → (Me ℕ StatusView → Type 0) → Type 0
  After new told = (w : StatusView) × (a : Act ℕ) × Valid s.homes carried a × StatusHolds n (stepped s i new id carried w a) × told (w, carried_after carried a)

  pub reads : After (slice_index s.words i) (Reads (step slots i 0 0 none) (v, carried) (slice_index s.words i))
  reads =
      let found : ℕ = slice_index s.words i in
      let same : (j : ℕ) → slice_index (set s.words i found) j ≡ slice_index s.words j = λ j. ap (λ (ws : List ℕ). slice_index ws j) (set-get_or s.words i 0) in
      let mine : IsKnown (slice_index (set s.words i found)) v = known_stays (slice_index s.words) (slice_index (set s.words i found)) v same (holds.known id v at) in
      let reached : found ≤ slice_index (set s.words i found) i = omega (arith, same i) in (
        after_reading i found v,
        keeps,
        tt,
        record {
          wide = length-set s.words i found ∙ holds.wide;
          owned = owned_stays held_by (λ f. 0) n s.views id v (after_reading i found v) at (λ f. refl) holds.owned;
          known = known_step (slice_index (set s.words i found)) s.views id (after_reading i found v)
              (mine.0, reached_more (slice_index (set s.words i found)) (record { word = i; number = found }) v.readings reached mine.1)
              (λ j w ne there. known_stays (slice_index s.words) (slice_index (set s.words i found)) w same (holds.known j w there));
        },
        (refl, refl, (holds.known id v at).1 i),
      )

-- ---- an addition

same_engine : (a b k l : ℕ) → k < 8 → l < 8 → 16 * a + k ≡ 16 * b + l → a ≡ b
same_engine a b k l k_lt l_lt same = omega arith

module _ (n slots id engine kind amount : ℕ) (sums : List ℕ) (carried : List (ℕ × ℕ)) (s : State ℕ StatusView) (kind_lt : kind < kinds) (long : length sums ≡ kinds) (room : slice_index sums kind + amount < 2 ^ 60) (holds : StatusHolds n s) (at : get_elem? s.views id ≡ some (of_engine engine sums)) where
  abbrev pub e : EngineSums
  e = record { engine = engine; sums = sums }

  abbrev pub i : ℕ
  i = word_of engine kind

  abbrev pub new : ℕ
  new = (slice_index s.words i + amount) % 2 ^ 64

  abbrev pub word' : ℕ → ℕ
  word' = slice_index (set s.words i new)

  mine : Holds held_by engine (of_engine engine sums)
  mine = omega (arith, is_number_same engine)

  engine_lt : engine < n
  engine_lt = owned_below held_by (λ f. 0) n s.views id (of_engine engine sums) at engine mine holds.owned

  before : AreSums (slice_index s.words) e
  before = (holds.known id (of_engine engine sums) at).0 0 e (omega arith)

  found : slice_index s.words i ≡ slice_index sums kind
  found = before kind kind_lt

  grown : new ≡ slice_index sums kind + amount
  grown =
      mod-eq_of_lt {n = slice_index s.words i + amount} {m = 2 ^ 64} (omega (arith, found, room)) ∙ ap (λ (x : ℕ). x + amount) found

  here : word' i ≡ slice_index sums kind + amount
  here = get_or-set_same s.words i new 0 (omega (arith, holds.wide, engine_lt, kind_lt)) ∙ grown

  else : (j : ℕ) → j ≢ i → word' j ≡ slice_index s.words j
  else j ne = get_or-set_other s.words i j new 0 ne

  rises : (j : ℕ) → slice_index s.words j ≤ word' j
  rises j =
      elim (cases_eq j i) [
        | inl same ↦ omega (arith, ap (slice_index s.words) same, ap word' same, here, found)
        | inr other ↦ omega (arith, else j other)
      ]

  own_sums : AreSums word' (counted kind amount e)
  own_sums k lt =
      elim (cases_eq k kind) [
        | inl same ↦ ap (λ (x : ℕ). word' (word_of engine x)) same ∙ here ∙ sym (ap (slice_index (set sums kind (slice_index sums kind + amount))) same ∙ get_or-set_same sums kind (slice_index sums kind + amount) 0 (omega (arith, long, kind_lt)))
        | inr other ↦ else (word_of engine k) (λ same. other (omega (arith, same))) ∙ before k lt ∙ sym (get_or-set_other sums kind k (slice_index sums kind + amount) 0 other)
      ]

  -- the seat's view after it, where the kind is read from the word
  abbrev pub after : StatusView
  after = after_count i amount (of_engine engine sums)

  own : IsKnown word' after
  own =
      let kind_is : i - 16 * engine ≡ kind = omega arith in (
        All-cons (AreSums word') (counted (i - 16 * engine) amount e) [] (subst (λ (k : ℕ). AreSums word' (counted k amount e)) (sym kind_is) own_sums) (All-nil (AreSums word')),
        λ j. omega arith,
      )

  others : (j : ℕ) (w : StatusView) → j ≢ id → get_elem? s.views j ≡ some w → IsKnown word' w
  others j w ne there =
      let known = holds.known j w there in (
        λ k d lt kind' lt'. else (word_of (get_or w.engines k d).engine kind') (λ same. not_held w k d lt j ne there (same_engine (get_or w.engines k d).engine engine kind' kind lt' kind_lt same)) ∙ known.0 k d lt kind' lt',
        λ r. omega (arith, known.1 r, rises r),
      )
    where
      not_held : (w : StatusView) (k : ℕ) (d : EngineSums) → k < length w.engines → (j : ℕ) → j ≢ id → get_elem? s.views j ≡ some w → (get_or w.engines k d).engine ≢ engine
      not_held w k d lt j ne there same =
          let f : EngineSums → ℕ = λ x. is_number engine x.engine in
          owned_once held_by (λ g. 0) n s.views id j (of_engine engine sums) w (λ is. ne (sym is)) at there engine engine_lt mine holds.owned
          (omega (arith, weigh_at f w.engines k d lt, ap (is_number engine) same, is_number_same engine))

  pub counts : (w : StatusView) × (a : Act ℕ) × Valid s.homes carried a × StatusHolds n (stepped s i new id carried w a) × Counts (step slots i amount 0 none) (of_engine engine sums, carried) (slice_index s.words i) (w, carried_after carried a)
  counts = (
    after,
    keeps,
    tt,
    record {
      wide = length-set s.words i new ∙ holds.wide;
      owned = owned_stays held_by (λ f. 0) n s.views id (of_engine engine sums) after at (λ f. refl) holds.owned;
      known = known_step word' s.views id after own others;
    },
    (refl, refl),
  )

-- ---- seats

pub splits : (n id : ℕ) (v : StatusView) → Splits {S = ℕ} (StatusHolds n) id v (others_of v) (first_of v)
splits n id v s holds at =
    let word : ℕ → ℕ = slice_index s.words in
    let known = holds.known id v at in
    record {
      wide = holds.wide;
      owned = owned_split held_by (λ f. 0) n s.views id v (others_of v) (first_of v) at (λ f. omega (arith, weigh-take-drop (λ (e : EngineSums). f e.engine) 1 v.engines)) holds.owned;
      known = λ j w there. ⊎_elim
          (λ left. known_step word s.views id (others_of v) (All-drop (AreSums word) 1 v.engines known.0, known.1) (λ j' w' ne. holds.known j' w') j w left)
          (λ is. subst (IsKnown word) is (All-take (AreSums word) 1 v.engines known.0, λ i. omega arith))
          (at_snoc (set s.views id (others_of v)) (first_of v) w j there);
    }

pub joins : (n id other : ℕ) (v w : StatusView) → Joins {S = ℕ} (StatusHolds n) id v other w (together v w) empty
joins n id other v w s holds at apart there =
    let word : ℕ → ℕ = slice_index s.words in
    let before : get_elem? s.views other ≡ some w = sym (set_else s.views id other (together v w) apart) ∙ there in
    let mine = holds.known id v at in
    let theirs = holds.known other w before in
    let both : IsKnown word (together v w) = (All-append (AreSums word) w.engines v.engines theirs.0 mine.0, mine.1) in
    record {
      wide = holds.wide;
      owned = owned_join held_by (λ f. 0) n s.views id other v w (together v w) empty at there (λ f. omega (arith, weigh-append (λ (e : EngineSums). f e.engine) w.engines v.engines)) holds.owned;
      known = known_step word (set s.views id (together v w)) other empty (All-nil (AreSums word), λ i. omega arith)
          (λ j u ne. known_step word s.views id (together v w) both (λ j' u' ne'. holds.known j' u') j u);
    }

-- ---- the table at first

all_new : (word : ℕ → ℕ) → ((i : ℕ) → word i ≡ 0) → (xs : List ℕ) → All (AreSums word) (map new_engine xs)
all_new word all_zero [] = All-nil (AreSums word)
all_new word all_zero (x ∷ xs) = All-cons (AreSums word) (new_engine x) (map new_engine xs) (λ kind lt. all_zero (word_of x kind) ∙ sym (zeros kinds kind)) (all_new word all_zero xs)

held_new : (f : ℕ → ℕ) (n : ℕ) → held_by f (new_engines 0 n) ≡ below f n
held_new f n = weigh-map (λ (e : EngineSums). f e.engine) new_engine (range_with_len 0 n) ∙ weigh_range f 0 n ∙ below_same (λ i. f (0 + i)) f n (λ i lt. let same : 0 + i ≡ i = omega arith in ap f same)

pub opens : (n : ℕ) (words : List ℕ) → words ≡ replicate (16 * n) 0 → StatusHolds {S = ℕ} n (opening words [] (new_engines 0 n))
opens n words are =
    let all_zero : (i : ℕ) → slice_index words i ≡ 0 = λ i. ap (λ (ws : List ℕ). slice_index ws i) are ∙ zeros (16 * n) i in
    let first : IsKnown (slice_index words) (new_engines 0 n) = (all_new (slice_index words) all_zero (range_with_len 0 n), λ i. omega arith) in
    record {
      wide = ap length are ∙ length-replicate (16 * n) 0;
      owned = λ f. omega (arith, held_new f n);
      known = λ k v at. subst (IsKnown (slice_index words)) (only_view (new_engines 0 n) v k at) first;
    }
