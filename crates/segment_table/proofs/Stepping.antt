-- Each step on the table keeps its rule.
use Rattle.std.proofs.Common.{ℕ, ◌≡◌, ◌≢◌, ◌+◌, ◌*◌, ◌/◌, ◌%◌, ◌^◌, ◌<◌, ◌≤◌, ◌==◌, inl, inr, ⊎_elim, zero, suc, true, true≢false, List, [], ◌∷◌, map, length, slice_index, set, replicate, refl, sym, ap, ◌∙◌, subst, arith, get_or-set_same, get_or-set_other, length-set}
use Rattle.std.specs.Prelude.{Option, Some, None, bit_and, bit_or}
use Rattle.std.specs.Int.{bit_at, bit_not, w64}
use Rattle.std.proofs.lemmas.List.{set-get_or, length-replicate, get_or-replicate}
use Rattle.std.proofs.lemmas.Bool.{cases_eq, cases_lt}
use Rattle.std.proofs.lemmas.Nat.Bits.{bit_at-lt, bit_at_clear_same, bit_at_clear_other, bit_at_set_same, bit_at_set_other, bit_at_ones}
use mathlib.Core.Option.{none, some}
use lib.ListN.{get_elem?}
use Rattle.atomic_table.specs.Table.{State, Me, Act, keeps, takes, step, stepped, Valid, homes_after, carried_after, opening, Splits, Joins}
use Rattle.carried_slots.specs.Acts.{becomes}
use Rattle.carried_slots.specs.Carried.{content, numbers, but, front}
use Rattle.carried_slots.specs.FreeSlots.{FreeSlots, FreeUncarried, SlotGained, SlotGiven}
use Rattle.carried_slots.specs.SlotLaws.{Becomes}
use Rattle.carried_slots.proofs.EmptySlots.{empty_is_but}
use Rattle.carried_slots.proofs.FreeSlots.{free_first, free_stay, free_become, slot_gained, slot_given}
use Rattle.carried_slots.proofs.Lookups.{some_content, front_weighs, front_among}
use Rattle.carried_slots.proofs.Moving.{slots_become}
use Rattle.unit_model.specs.Sharing.{Owned, Holds}
use Rattle.unit_model.specs.Weights.{weigh, is_number, times, one_if, below}
use Rattle.unit_model.proofs.Sharing.{owned_stays, owned_split, owned_join, owned_moves, owned_here}
use Rattle.unit_model.proofs.Views.{sum_at}
use Rattle.unit_model.proofs.Weights.{below_is, below_is_not}
use Rattle.chunk_map.specs.Rule.{map_words, table_index, word_number}
use Rattle.chunk_map.specs.Views.{held_by, empty, together, does, frees_one}
use Rattle.chunk_map.specs.Words.{is_free, free_weight, Takes, Frees}
use Rattle.chunk_map.specs.declared.view.MapEvent.TheVariants.{SawOpen, SawWord, Gained, Missed, Released}
use Rattle.chunk_map.specs.declared.view.MapView.{MapView}
use Rattle.chunk_map.proofs.FreeChunks.{free_taken, free_freed, free_stays, free_all, free_one, not_free}
use Rattle.chunk_map.proofs.Numbers.{index_within, index_some, number_back, free_where_one, held_where_zero, word_here, others_stay, mask_of_one, set_of_one}
use Rattle.segment_table.specs.Events.{did}
use Rattle.segment_table.specs.Rule.{SegHolds, SeesOpen, SeesWord, Brings, TakesBit, FreesBit}
use Rattle.segment_table.specs.Seats.{IsSeat}

module _ {T : Type 0} (n slots id : ℕ) (v : MapView) (c : List (ℕ × Option T)) (s : State (Option T) MapView) (sized : v.segments ≡ n) (seat : IsSeat (v, c)) (holds : SegHolds n s)
    (wide : length s.homes ≡ 640 * n) (at : get_elem? s.views id ≡ some v) where
  -- what a step has to give: a view and an act that keep the rule, and what is told
  abbrev pub After : ℕ → ℕ → (Me (Option T) MapView → Type 0) → Type 0
  After i new told = (w : MapView) × (a : Act (Option T)) × Valid s.homes c a × SegHolds n (stepped s i new id c w a) × told (w, carried_after c a)

  at_most_one : (k : ℕ) → below (is_number k) (640 * n) ≤ 1
  at_most_one k = ⊎_elim (λ lt. omega (arith, below_is (640 * n) k lt)) (λ le. omega (arith, below_is_not (640 * n) k le)) (cases_lt k (640 * n))

  in_table : (k : ℕ) → 0 < times k (numbers c) → k < length s.homes
  in_table k carried = omega (arith, wide, sized, seat.within k (omega (arith, carried, seat.weighs (is_number k))))

  not_carried : FreeUncarried (640 * n) (map_words s.words) c
  not_carried k lt free = omega (arith, seat.weighs (is_number k), holds.owned (is_number k), sum_at (held_by (is_number k)) s.views id v at, at_most_one k, free_one (640 * n) (map_words s.words) k lt, ap one_if free)

  -- ---- a load, after which the words are what they were

  loads : (i : ℕ) (u : MapView) (a : Act (Option T)) → ((f : ℕ → ℕ) → held_by f u ≡ held_by f v) → FreeSlots (640 * n) (map_words s.words) (homes_after s.homes c a)
      → SegHolds n (stepped s i (slice_index s.words i) id c u a)
  loads i u a same frees =
      let words : set s.words i (slice_index s.words i) ≡ s.words = set-get_or s.words i 0 in
      record {
        wide = ap length words ∙ holds.wide;
        all = ap (λ (ws : List ℕ). slice_index ws 0) words ∙ holds.all;
        owned = subst (λ (ws : List ℕ). Owned held_by (free_weight (map_words ws) (640 * n)) (640 * n) (set s.views id u)) (sym words) (owned_stays held_by (free_weight (map_words s.words) (640 * n)) (640 * n) s.views id v u at same holds.owned);
        free = subst (λ (ws : List ℕ). FreeSlots (640 * n) (map_words ws) (homes_after s.homes c a)) (sym words) frees;
      }

  pub sees_open : After 0 (slice_index s.words 0) (SeesOpen (step slots 0 0 0 none) (v, c) (slice_index s.words 0))
  sees_open = (
    does (SawOpen (slice_index s.words 0)) v,
    keeps,
    tt,
    loads 0 (does (SawOpen (slice_index s.words 0)) v) keeps (λ f. refl) holds.free,
    (holds.all ∙ sym sized, refl),
  )

  pub sees_word : (i : ℕ) → After i (slice_index s.words i) (SeesWord (step slots i 0 0 none) (v, c) (slice_index s.words i))
  sees_word i = (
    does (SawWord (word_number i) (slice_index s.words i)) v,
    keeps,
    tt,
    loads i (does (SawWord (word_number i) (slice_index s.words i)) v) keeps (λ f. refl) holds.free,
    refl,
  )

  pub brings : (chunk : ℕ) → After 0 (slice_index s.words 0) (Brings chunk (step slots 0 0 0 none) (v, c) (slice_index s.words 0))
  brings chunk =
      let same : (k : ℕ) → times k (numbers (front chunk c)) ≡ times k (numbers c) = λ k. front_weighs (is_number k) c chunk in
      let turned : Becomes s.homes c (front chunk c) = slots_become s.homes c (front chunk c) seat.distinct (λ k. omega (arith, same k, seat.distinct k)) (front_among c chunk seat.distinct) in_table in (
        v,
        becomes c (front chunk c),
        turned.valid,
        loads 0 v (becomes c (front chunk c)) (λ f. refl) (free_become (640 * n) (map_words s.words) s.homes c (front chunk c) not_carried (λ k. omega (arith, same k)) turned holds.free),
        ap (λ (l : List (ℕ × Option T)). (v, l)) turned.carried,
      )

  -- ---- one bit changes

  module _ (number bit : ℕ) (lt : number < 10 * n) (below_64 : bit < 64) where
    abbrev chunk : ℕ
    chunk = 64 * number + bit

    abbrev word : ℕ
    word = map_words s.words number

    here : table_index number < length s.words
    here = omega (arith, index_within number n lt, holds.wide)

    chunk_below : chunk < 640 * n
    chunk_below = omega (arith, lt, below_64)

    number_told : (b : ℕ) → b ≡ bit → 64 * number + bit ≡ 64 * word_number (table_index number) + b
    number_told b same = omega (arith, number_back number, same)

    kept : (new : ℕ) (u : MapView) (a : Act (Option T)) → ((f : ℕ → ℕ) → free_weight (map_words (set s.words (table_index number) new)) (640 * n) f + weigh f u.held ≡ free_weight (map_words s.words) (640 * n) f + weigh f v.held)
        → FreeSlots (640 * n) (map_words (set s.words (table_index number) new)) (homes_after s.homes c a)
        → SegHolds n (stepped s (table_index number) new id c u a)
    kept new u a moved frees = record {
      wide = length-set s.words (table_index number) new ∙ holds.wide;
      all = get_or-set_other s.words (table_index number) 0 new 0 (λ is. index_some number (sym is)) ∙ holds.all;
      owned = owned_moves held_by (free_weight (map_words s.words) (640 * n)) (free_weight (map_words (set s.words (table_index number) new)) (640 * n)) (640 * n) s.views id v u at moved holds.owned;
      free = frees;
    }

    -- ---- it is cleared

    abbrev mask : ℕ
    mask = bit_not w64 (1 * 2 ^ bit % 2 ^ 64)

    abbrev cleared : ℕ → ℕ
    cleared = map_words (set s.words (table_index number) (bit_and word mask))

    others_clear : (k : ℕ) → k ≢ chunk → is_free cleared k ≡ is_free (map_words s.words) k
    others_clear = others_stay s.words number bit (bit_and word mask) here (λ i within ne. bit_at_clear_other w64 word bit below_64 i within ne)

    is_cleared : is_free cleared chunk ≡ Rattle.std.proofs.Common.false
    is_cleared = held_where_zero cleared number bit below_64 (ap (λ x. bit_at x bit) (word_here s.words number (bit_and word mask) here) ∙ bit_at_clear_same w64 word bit below_64)

    was_set : bit_at word bit ≡ 1 → After (table_index number) (bit_and word mask) (TakesBit (step slots (table_index number) mask 0 none) (v, c) word)
    was_set one =
        let was_free : is_free (map_words s.words) chunk ≡ true = free_where_one (map_words s.words) number bit below_64 one in
        let takes_it : Takes (640 * n) (map_words s.words) cleared chunk = record {
          was = was_free;
          here = is_cleared;
          others = λ k within ne. others_clear k ne;
        } in
        let gained : SlotGained (640 * n) cleared s.homes c chunk = slot_gained (640 * n) (map_words s.words) cleared s.homes c chunk chunk_below takes_it holds.free in (
          does (Gained chunk) v,
          takes chunk None,
          gained.valid,
          kept (bit_and word mask) (does (Gained chunk) v) (takes chunk None) (λ f. omega (arith, free_taken (640 * n) (map_words s.words) cleared chunk chunk_below takes_it f)) gained.free,
          λ b within masks.
              let same : b ≡ bit = mask_of_one bit b below_64 within masks in
              inl (
                ap (bit_at word) same ∙ one,
                ap (λ (k : ℕ). times k (numbers c)) (sym (number_told b same)) ∙ not_carried chunk chunk_below was_free,
                ap (λ (k : ℕ). did (Gained k) (v, c)) (number_told b same),
              ),
        )

    was_clear : bit_at word bit ≡ 0 → After (table_index number) (bit_and word mask) (TakesBit (step slots (table_index number) mask 0 none) (v, c) word)
    was_clear none_set =
        let stays : (k : ℕ) → is_free cleared k ≡ is_free (map_words s.words) k = λ k. ⊎_elim
        (λ is. ap (is_free cleared) is ∙ is_cleared ∙ sym (ap (is_free (map_words s.words)) is ∙ held_where_zero (map_words s.words) number bit below_64 none_set))
        (λ ne. others_clear k ne)
        (cases_eq k chunk) in (
          does (Missed chunk) v,
          keeps,
          tt,
          kept (bit_and word mask) (does (Missed chunk) v) keeps (λ f. omega (arith, free_stays (640 * n) (map_words s.words) cleared (λ k within. stays k) f))
              (free_stay (640 * n) (map_words s.words) cleared s.homes s.homes (λ k within free. (sym (stays k) ∙ free, refl)) holds.free),
          λ b within masks. let same : b ≡ bit = mask_of_one bit b below_64 within masks in inr (ap (bit_at word) same ∙ none_set, ap (λ (k : ℕ). did (Missed k) (v, c)) (number_told b same)),
        )

    pub takes_bit : After (table_index number) (bit_and word mask) (TakesBit (step slots (table_index number) mask 0 none) (v, c) word)
    takes_bit = ⊎_elim (λ one. was_set one) (λ other. was_clear (omega (arith, other, bit_at-lt word bit))) (cases_eq (bit_at word bit) 1)

    -- ---- it is set

    abbrev one_bit : ℕ
    one_bit = 1 * 2 ^ bit % 2 ^ 64

    abbrev given : ℕ → ℕ
    given = map_words (set s.words (table_index number) (bit_or word one_bit))

    others_set : (k : ℕ) → k ≢ chunk → is_free given k ≡ is_free (map_words s.words) k
    others_set = others_stay s.words number bit (bit_or word one_bit) here (λ i within ne. bit_at_set_other w64 word bit below_64 i ne)

    pub frees_bit : content c chunk ≡ Some None → After (table_index number) (bit_or word one_bit) (FreesBit (step slots (table_index number) one_bit 0 none) (v, c) word)
    frees_bit is_empty =
        let carried : 0 < times chunk (numbers c) = some_content c chunk None is_empty in
        let mine : Holds held_by chunk v = omega (arith, carried, seat.weighs (is_number chunk)) in
        let now : is_free given chunk ≡ true = free_where_one given number bit below_64 (ap (λ x. bit_at x bit) (word_here s.words number (bit_or word one_bit) here) ∙ bit_at_set_same w64 word bit below_64) in
        let frees_it : Frees (640 * n) (map_words s.words) given chunk = record {
          was = not_free (640 * n) (map_words s.words) chunk chunk_below (owned_here held_by (free_weight (map_words s.words) (640 * n)) (640 * n) s.views id v at chunk chunk_below mine holds.owned);
          here = now;
          others = λ k within ne. others_set k ne;
        } in
        let back : SlotGiven (640 * n) given s.homes c chunk = slot_given (640 * n) (map_words s.words) given s.homes c chunk frees_it seat.distinct in_table is_empty not_carried holds.free in (
          does (Released chunk) v,
          becomes c (but chunk c),
          back.turned.valid,
          kept (bit_or word one_bit) (does (Released chunk) v) (becomes c (but chunk c)) (λ f. omega (arith, free_freed (640 * n) (map_words s.words) given chunk chunk_below frees_it f, frees_one f chunk v.held mine)) back.free,
          λ b within masks.
              let same : b ≡ bit = set_of_one bit b below_64 within masks in
              ap (λ (l : List (ℕ × Option T)). (does (Released chunk) v, l)) (back.turned.carried ∙ sym (empty_is_but chunk c is_empty))
              ∙ ap (λ (k : ℕ). did (Released k) (v, c)) (number_told b same),
        )

-- ---- seats come and go

pub splits : {T : Type 0} (n id : ℕ) (v : MapView) → Splits {S = Option T} (SegHolds n) id v v (empty v.segments)
splits n id v s holds at = record {
  wide = holds.wide;
  all = holds.all;
  owned = owned_split held_by (free_weight (map_words s.words) (640 * n)) (640 * n) s.views id v v (empty v.segments) at (λ f. omega arith) holds.owned;
  free = holds.free;
}

pub joins : {T : Type 0} (n id other : ℕ) (v w : MapView) → w.held ≡ [] → Joins {S = Option T} (SegHolds n) id v other w (together v w) (empty 0)
joins n id other v w nothing s holds at apart there = record {
  wide = holds.wide;
  all = holds.all;
  owned = owned_join held_by (free_weight (map_words s.words) (640 * n)) (640 * n) s.views id other v w (together v w) (empty 0) at there (λ f. omega (arith, ap (weigh f) nothing)) holds.owned;
  free = holds.free;
}

-- ---- the table at first

pub opens : {T : Type 0} (n : ℕ) (words : List ℕ) → words ≡ set (replicate (16 * (n + 1)) 18446744073709551615) 0 n → SegHolds {T = T} n (opening words (replicate (640 * n) None) (empty n))
opens n words are =
    let ones : List ℕ = replicate (16 * (n + 1)) 18446744073709551615 in
    let each : (number : ℕ) → number < 10 * n → map_words words number ≡ 18446744073709551615 = λ number lt. ap (λ (ws : List ℕ). map_words ws number) are ∙ get_or-set_other ones 0 (table_index number) n 0 (index_some number) ∙ get_or-replicate {A = ℕ} (16 * (n + 1)) (table_index number) 18446744073709551615 0 (index_within number n lt) in
    let free : (chunk : ℕ) → chunk < 640 * n → is_free (map_words words) chunk ≡ true = λ chunk lt. ap (λ d. d == 1) (ap (λ x. bit_at x (chunk % 64)) (each (chunk / 64) (omega (arith, lt))) ∙ bit_at_ones 64 (chunk % 64) (omega arith)) in
    record {
      wide = ap length are ∙ length-set ones 0 n ∙ length-replicate {A = ℕ} (16 * (n + 1)) 18446744073709551615;
      all = ap (λ (ws : List ℕ). slice_index ws 0) are ∙ get_or-set_same ones 0 n 0 (omega (arith, length-replicate {A = ℕ} (16 * (n + 1)) 18446744073709551615));
      owned = λ f. omega (arith, free_all (640 * n) (map_words words) free f);
      free = free_first (640 * n) (map_words words);
    }

-- ---- nothing is held where nothing is carried

pub nothing_held : {T : Type 0} (v : MapView) (c : List (ℕ × Option T)) → IsSeat (v, c) → c ≡ [] → v.held ≡ []
nothing_held v c seat none_carried = none v.held (sym (seat.weighs (λ k. 1)) ∙ ap (λ l. weigh (λ k. 1) (numbers l)) none_carried)
  where
    none : (xs : List ℕ) → weigh (λ k. 1) xs ≡ 0 → xs ≡ []
    none [] weight = refl
    none (x ∷ xs) weight = absurd (omega (arith, weight))
