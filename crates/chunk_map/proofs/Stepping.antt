-- Each step on the table of a chunk map keeps its rule.
use Rattle.std.proofs.Common.{ℕ, ◌≡◌, ◌≢◌, ◌+◌, ◌*◌, ◌/◌, ◌%◌, ◌^◌, ◌<◌, ◌≤◌, ◌==◌, inl, inr, ⊎_elim, zero, suc, replicate, eqb, Bool, true, false, cond, List, [], ◌∷◌, length, slice_index, set, refl, sym, ap, ◌∙◌, subst, arith, get_or-set_same, get_or-set_other, length-set, ◌++◌}
use Rattle.std.specs.Prelude.{bit_and, bit_or}
use Rattle.std.specs.Int.{bit_at, bit_not, w64}
use Rattle.std.proofs.lemmas.List.{set-get_or, length-replicate, get_or-replicate}
use Rattle.std.proofs.lemmas.Bool.{eq-eqb, ne_eqb, cases_eq}
use Rattle.std.proofs.lemmas.Nat.Bits.{bit_at-lt, bit_at_clear_same, bit_at_clear_other, bit_at_set_same, bit_at_set_other, bit_at_ones}
use mathlib.Core.Option.{none, some, some-injective, some-ne-none}
use prog.Atomic.{either}
use lib.ListN.{get_elem?}
use Rattle.atomic_table.specs.Table.{State, Me, Act, keeps, step, stepped, Valid, carried_after, opening as table_opening, Splits, Joins}
use Rattle.atomic_table.proofs.Lists.{exchanged}
use Rattle.unit_model.specs.Sharing.{Owned, Holds}
use Rattle.unit_model.specs.Weights.{weigh, is_number, one_if, without_first, below}
use Rattle.unit_model.proofs.Sharing.{owned_stays, owned_split, owned_join, owned_moves, owned_here}
use Rattle.unit_model.proofs.Weights.{weigh-append, weigh-without_first, is_number_some}
use Rattle.chunk_map.specs.declared.view.MapView.{MapView}
use Rattle.chunk_map.specs.declared.view.MapEvent.{MapEvent}
use Rattle.chunk_map.specs.declared.view.MapEvent.TheVariants.{SawOpen, SawWord, Missed, OpenedTo, FoundOpen}
use Rattle.chunk_map.specs.Parts.{OpenPart, OpeningsCounted}
use Rattle.chunk_map.specs.Rule.{table_index, word_number, map_words, MapHolds, SeesOpen, SeesWord, TakesBit, FreesBit, OpensOne}
use Rattle.chunk_map.specs.Views.{held_by, open_noted, empty, after, with_chunk, without_chunk, opening_weight, openings_of, together}
use Rattle.chunk_map.specs.Words.{is_free, free_weight, Takes, Frees}
use Rattle.chunk_map.proofs.Numbers.{index_within, number_back, index_some, free_where_one, held_where_zero, word_here, others_stay, mask_of_one, set_of_one}
use Rattle.chunk_map.proofs.FreeChunks.{free_taken, free_freed, free_stays, free_all, not_free}
use Rattle.chunk_map.proofs.OpenSegments.{open_steps, open_splits, counted_stays, counted_opens, counted_splits, counted_joins}

-- a list without one chunk that is in it
pub weigh_without : (f : ℕ → ℕ) (chunk : ℕ) (chunks : List ℕ) → 0 < weigh (is_number chunk) chunks → weigh f (without_first (λ other. other == chunk) chunks) + f chunk ≡ weigh f chunks
weigh_without f chunk chunks some_chunk = weigh-without_first f (λ other. other == chunk) (f chunk) (λ x is. ap f (is_number_some chunk x (omega (arith, ap one_if is)))) chunks some_chunk

-- what a step has to give: a view and an act that keep the rule, and what is told
abbrev pub After : (n i id : ℕ) → List (ℕ × ℕ) → State ℕ MapView → ℕ → (Me ℕ MapView → Type 0) → Type 0
After n i id carried s new told = (w : MapView) × (a : Act ℕ) × Valid s.homes carried a × MapHolds n (stepped s i new id carried w a) × told (w, carried_after carried a)

-- ---- a load, after which the words are what they were

module _ (n i slots id : ℕ) (v : MapView) (carried : List (ℕ × ℕ)) (s : State ℕ MapView) (holds : MapHolds n s) (at : get_elem? s.views id ≡ some v) where
  -- the seat notes an event by which it has seen no more segments open than there are
  noted : (e : MapEvent) → open_noted (after e v) ≤ slice_index s.words 0 → ((f : ℕ → ℕ) → opening_weight f e ≡ 0) → MapHolds n (stepped s i (slice_index s.words i) id carried (after e v) keeps)
  noted e fits nothing =
      let same : set s.words i (slice_index s.words i) ≡ s.words = set-get_or s.words i 0 in
      record {
        wide = ap length same ∙ holds.wide;
        opened = subst (λ (ws : List ℕ). OpenPart n open_noted (slice_index ws 0) (map_words ws) (set s.views id (after e v))) (sym same) (open_steps n open_noted (slice_index s.words 0) (slice_index s.words 0) (map_words s.words) (map_words s.words) s.views id (after e v) (omega arith) holds.opened.most fits (λ chunk lt above free. free) holds.opened);
        counted = counted_stays openings_of (slice_index s.words 0) (slice_index (set s.words i (slice_index s.words i)) 0) s.views id v (after e v) at (ap (λ (ws : List ℕ). slice_index ws 0) same) (λ f. omega (arith, nothing f)) holds.counted;
        owned = subst (λ (ws : List ℕ). Owned held_by (free_weight (map_words ws) (640 * n)) (640 * n) (set s.views id (after e v))) (sym same) (owned_stays held_by (free_weight (map_words s.words) (640 * n)) (640 * n) s.views id v (after e v) at (λ f. refl) holds.owned);
      }

  pub sees_open : i ≡ 0 → v.segments ≡ n → After n i id carried s (slice_index s.words i) (SeesOpen (step slots i 0 0 none) (v, carried) (slice_index s.words i))
  sees_open first sized =
      let found : slice_index s.words i ≡ slice_index s.words 0 = ap (slice_index s.words) first in (
        after (SawOpen (slice_index s.words i)) v,
        keeps,
        tt,
        noted (SawOpen (slice_index s.words i)) (omega (arith, found)) (λ f. refl),
        (refl, refl, omega (arith, found, holds.opened.least), omega (arith, found, holds.opened.seen id v at), omega (arith, found, holds.opened.most, sized)),
      )

  pub sees_word : After n i id carried s (slice_index s.words i) (SeesWord (step slots i 0 0 none) (v, carried) (slice_index s.words i))
  sees_word = (
    after (SawWord (word_number i) (slice_index s.words i)) v,
    keeps,
    tt,
    noted (SawWord (word_number i) (slice_index s.words i)) (holds.opened.seen id v at) (λ f. refl),
    (refl, refl),
  )

-- ---- the number of open segments changes

-- a change of table word 0 leaves the words of the map
same_chunk : (words : List ℕ) (opened chunk : ℕ) → is_free (map_words (set words 0 opened)) chunk ≡ is_free (map_words words) chunk
same_chunk words opened chunk = ap (λ x. bit_at x (chunk % 64) == 1) (get_or-set_other words 0 (table_index (chunk / 64)) opened 0 (index_some (chunk / 64)))

module _ (n count slots id : ℕ) (v : MapView) (carried : List (ℕ × ℕ)) (s : State ℕ MapView) (sized : v.segments ≡ n) (more : count < n) (holds : MapHolds n s) (at : get_elem? s.views id ≡ some v) where
  -- the number becomes another one that isn't lower, and the seat notes an event by which it has seen no more
  changed : (new : ℕ) (e : MapEvent) → slice_index s.words 0 ≤ new → new ≤ n → open_noted (after e v) ≤ new → OpeningsCounted openings_of (slice_index (set s.words 0 new) 0) (set s.views id (after e v)) → MapHolds n (stepped s 0 new id carried (after e v) keeps)
  changed new e rises most fits count_it =
      let is_new : slice_index (set s.words 0 new) 0 ≡ new = get_or-set_same s.words 0 new 0 (omega (arith, holds.wide)) in
      record {
        wide = length-set s.words 0 new ∙ holds.wide;
        opened = open_steps n open_noted (slice_index s.words 0) (slice_index (set s.words 0 new) 0) (map_words s.words) (map_words (set s.words 0 new)) s.views id (after e v) (omega (arith, rises, is_new)) (omega (arith, most, is_new)) (omega (arith, fits, is_new)) (λ chunk lt above free. same_chunk s.words new chunk ∙ free) holds.opened;
        counted = count_it;
        owned = owned_moves held_by (free_weight (map_words s.words) (640 * n)) (free_weight (map_words (set s.words 0 new)) (640 * n)) (640 * n) s.views id v (after e v) at (λ f. omega (arith, free_stays (640 * n) (map_words s.words) (map_words (set s.words 0 new)) (λ chunk lt. same_chunk s.words new chunk) f)) holds.owned;
      }

  bounds : (1 ≤ slice_index s.words 0) × (open_noted v ≤ slice_index s.words 0) × (slice_index s.words 0 ≤ v.segments)
  bounds = (holds.opened.least, holds.opened.seen id v at, omega (arith, holds.opened.most, sized))

  is_new : (new : ℕ) → slice_index (set s.words 0 new) 0 ≡ new
  is_new new = get_or-set_same s.words 0 new 0 (omega (arith, holds.wide))

  hit : slice_index s.words 0 ≡ count → After n 0 id carried s (count + 1) (OpensOne (step slots 0 count (count + 1) none) (v, carried) (slice_index s.words 0))
  hit is = (
    after (OpenedTo (count + 1)) v,
    keeps,
    tt,
    changed (count + 1) (OpenedTo (count + 1)) (omega (arith, is)) (omega (arith, more)) (omega arith)
        (counted_opens openings_of (slice_index s.words 0) (slice_index (set s.words 0 (count + 1)) 0) s.views id v (after (OpenedTo (count + 1)) v) at (is_new (count + 1) ∙ ap (λ (m : ℕ). m + 1) (sym is)) (λ f. omega (arith, ap (λ (m : ℕ). f (m + 1)) is)) holds.counted),
    (refl, ap (λ (b : Bool). after (cond b (OpenedTo (count + 1)) (FoundOpen (slice_index s.words 0))) v) (sym (eq-eqb (slice_index s.words 0) count is)), bounds.0, bounds.1, bounds.2),
  )

  miss : slice_index s.words 0 ≢ count → After n 0 id carried s (slice_index s.words 0) (OpensOne (step slots 0 count (count + 1) none) (v, carried) (slice_index s.words 0))
  miss ne = (
    after (FoundOpen (slice_index s.words 0)) v,
    keeps,
    tt,
    changed (slice_index s.words 0) (FoundOpen (slice_index s.words 0)) (omega arith) holds.opened.most (omega arith)
        (counted_stays openings_of (slice_index s.words 0) (slice_index (set s.words 0 (slice_index s.words 0)) 0) s.views id v (after (FoundOpen (slice_index s.words 0)) v) at (is_new (slice_index s.words 0)) (λ f. omega arith) holds.counted),
    (refl, ap (λ (b : Bool). after (cond b (OpenedTo (count + 1)) (FoundOpen (slice_index s.words 0))) v) (sym (ne_eqb (slice_index s.words 0) count ne)), bounds.0, bounds.1, bounds.2),
  )

  pub opens_one : After n 0 id carried s (either (eqb (slice_index s.words 0) count) (count + 1) (slice_index s.words 0)) (OpensOne (step slots 0 count (count + 1) none) (v, carried) (slice_index s.words 0))
  opens_one = exchanged (slice_index s.words 0) count (count + 1) (λ new. After n 0 id carried s new (OpensOne (step slots 0 count (count + 1) none) (v, carried) (slice_index s.words 0))) hit miss

-- ---- one bit changes

module _ (n number bit slots id : ℕ) (v : MapView) (carried : List (ℕ × ℕ)) (s : State ℕ MapView) (lt : number < 10 * n) (within : bit < 64) (holds : MapHolds n s) (at : get_elem? s.views id ≡ some v) where
  abbrev chunk : ℕ
  chunk = 64 * number + bit

  abbrev word : ℕ
  word = map_words s.words number

  here : table_index number < length s.words
  here = omega (arith, index_within number n lt, holds.wide)

  chunk_below : chunk < 640 * n
  chunk_below = omega (arith, lt, within)

  number_told : (b : ℕ) → b ≡ bit → 64 * number + bit ≡ 64 * word_number (table_index number) + b
  number_told b same = omega (arith, number_back number, same)

  -- the rule after it, where the words become these and the seat's view this one
  kept : (new : ℕ) (u : MapView) → open_noted u ≡ open_noted v → ((f : ℕ → ℕ) → openings_of f u ≡ openings_of f v)
      → ((c : ℕ) → c < 640 * n → slice_index s.words 0 ≤ c / 640 → is_free (map_words s.words) c ≡ true → is_free (map_words (set s.words (table_index number) new)) c ≡ true)
      → ((f : ℕ → ℕ) → free_weight (map_words (set s.words (table_index number) new)) (640 * n) f + weigh f u.held ≡ free_weight (map_words s.words) (640 * n) f + weigh f v.held)
      → MapHolds n (stepped s (table_index number) new id carried u keeps)
  kept new u same_noted same_openings closed moved =
      let zero_stays : slice_index (set s.words (table_index number) new) 0 ≡ slice_index s.words 0 = get_or-set_other s.words (table_index number) 0 new 0 (λ is. index_some number (sym is)) in
      record {
        wide = length-set s.words (table_index number) new ∙ holds.wide;
        opened = open_steps n open_noted (slice_index s.words 0) (slice_index (set s.words (table_index number) new) 0) (map_words s.words) (map_words (set s.words (table_index number) new)) s.views id u (omega (arith, zero_stays)) (omega (arith, zero_stays, holds.opened.most)) (omega (arith, zero_stays, same_noted, holds.opened.seen id v at)) (λ c below_n above. closed c below_n (omega (arith, zero_stays, above))) holds.opened;
        counted = counted_stays openings_of (slice_index s.words 0) (slice_index (set s.words (table_index number) new) 0) s.views id v u at zero_stays same_openings holds.counted;
        owned = owned_moves held_by (free_weight (map_words s.words) (640 * n)) (free_weight (map_words (set s.words (table_index number) new)) (640 * n)) (640 * n) s.views id v u at moved holds.owned;
      }

  -- ---- it is cleared

  abbrev mask : ℕ
  mask = bit_not w64 (1 * 2 ^ bit % 2 ^ 64)

  others_clear : (c : ℕ) → c ≢ chunk → is_free (map_words (set s.words (table_index number) (bit_and word mask))) c ≡ is_free (map_words s.words) c
  others_clear = others_stay s.words number bit (bit_and word mask) here (λ i below_64 ne. bit_at_clear_other w64 word bit within i below_64 ne)

  is_cleared : is_free (map_words (set s.words (table_index number) (bit_and word mask))) chunk ≡ false
  is_cleared = held_where_zero (map_words (set s.words (table_index number) (bit_and word mask))) number bit within (ap (λ x. bit_at x bit) (word_here s.words number (bit_and word mask) here) ∙ bit_at_clear_same w64 word bit within)

  was_set : bit_at word bit ≡ 1 → number / 10 < open_noted v → After n (table_index number) id carried s (bit_and word mask) (TakesBit (step slots (table_index number) mask 0 none) (v, carried) word)
  was_set one opened =
      let takes : Takes (640 * n) (map_words s.words) (map_words (set s.words (table_index number) (bit_and word mask))) chunk = record {
        was = free_where_one (map_words s.words) number bit within one;
        here = is_cleared;
        others = λ c below_n ne. others_clear c ne;
      } in (
        with_chunk chunk v,
        keeps,
        tt,
        kept (bit_and word mask) (with_chunk chunk v) refl (λ f. omega arith)
            (λ c below_n above free. others_clear c (λ is. absurd (omega (arith, is, above, within, opened, holds.opened.seen id v at))) ∙ free)
            (λ f. omega (arith, free_taken (640 * n) (map_words s.words) (map_words (set s.words (table_index number) (bit_and word mask))) chunk chunk_below takes f)),
        (refl, λ b below_64 masks. let same : b ≡ bit = mask_of_one bit b within below_64 masks in inl (ap (bit_at word) same ∙ one, ap (λ c. with_chunk c v) (number_told b same))),
      )

  was_clear : bit_at word bit ≡ 0 → After n (table_index number) id carried s (bit_and word mask) (TakesBit (step slots (table_index number) mask 0 none) (v, carried) word)
  was_clear none_set =
      let stays : (c : ℕ) → is_free (map_words (set s.words (table_index number) (bit_and word mask))) c ≡ is_free (map_words s.words) c = λ c. ⊎_elim
      (λ is. ap (is_free (map_words (set s.words (table_index number) (bit_and word mask)))) is ∙ is_cleared ∙ sym (ap (is_free (map_words s.words)) is ∙ held_where_zero (map_words s.words) number bit within none_set))
      (λ ne. others_clear c ne)
      (cases_eq c chunk) in (
        after (Missed chunk) v,
        keeps,
        tt,
        kept (bit_and word mask) (after (Missed chunk) v) refl (λ f. omega arith)
            (λ c below_n above free. stays c ∙ free)
            (λ f. omega (arith, free_stays (640 * n) (map_words s.words) (map_words (set s.words (table_index number) (bit_and word mask))) (λ c below_n. stays c) f)),
        (refl, λ b below_64 masks. let same : b ≡ bit = mask_of_one bit b within below_64 masks in inr (ap (bit_at word) same ∙ none_set, ap (λ c. after (Missed c) v) (number_told b same))),
      )

  pub takes_bit : number / 10 < open_noted v → After n (table_index number) id carried s (bit_and word mask) (TakesBit (step slots (table_index number) mask 0 none) (v, carried) word)
  takes_bit opened = ⊎_elim (λ one. was_set one opened) (λ other. was_clear (omega (arith, other, bit_at-lt word bit))) (cases_eq (bit_at word bit) 1)

  -- ---- it is set

  abbrev one_bit : ℕ
  one_bit = 1 * 2 ^ bit % 2 ^ 64

  others_set : (c : ℕ) → c ≢ chunk → is_free (map_words (set s.words (table_index number) (bit_or word one_bit))) c ≡ is_free (map_words s.words) c
  others_set = others_stay s.words number bit (bit_or word one_bit) here (λ i below_64 ne. bit_at_set_other w64 word bit within i ne)

  pub frees_bit : Holds held_by chunk v → After n (table_index number) id carried s (bit_or word one_bit) (FreesBit (step slots (table_index number) one_bit 0 none) (v, carried) word)
  frees_bit mine =
      let now : is_free (map_words (set s.words (table_index number) (bit_or word one_bit))) chunk ≡ true = free_where_one (map_words (set s.words (table_index number) (bit_or word one_bit))) number bit within (ap (λ x. bit_at x bit) (word_here s.words number (bit_or word one_bit) here) ∙ bit_at_set_same w64 word bit within) in
      let frees : Frees (640 * n) (map_words s.words) (map_words (set s.words (table_index number) (bit_or word one_bit))) chunk = record {
        was = not_free (640 * n) (map_words s.words) chunk chunk_below (owned_here held_by (free_weight (map_words s.words) (640 * n)) (640 * n) s.views id v at chunk chunk_below mine holds.owned);
        here = now;
        others = λ c below_n ne. others_set c ne;
      } in (
        without_chunk chunk v,
        keeps,
        tt,
        kept (bit_or word one_bit) (without_chunk chunk v) refl (λ f. omega arith)
            (λ c below_n above free. ⊎_elim (λ is. ap (is_free (map_words (set s.words (table_index number) (bit_or word one_bit)))) is ∙ now) (λ ne. others_set c ne ∙ free) (cases_eq c chunk))
            (λ f. omega (arith, free_freed (640 * n) (map_words s.words) (map_words (set s.words (table_index number) (bit_or word one_bit))) chunk chunk_below frees f, weigh_without f chunk v.held mine)),
        (refl, λ b below_64 masks. ap (λ c. without_chunk c v) (number_told b (set_of_one bit b within below_64 masks))),
      )

-- what is held after it was held before
pub held_before : (number bit : ℕ) (v : MapView) → Holds held_by (64 * number + bit) v → (chunk : ℕ) → Holds held_by chunk (without_chunk (64 * word_number (table_index number) + bit) v) → Holds held_by chunk v
held_before number bit v mine chunk still =
    let same : 64 * word_number (table_index number) + bit ≡ 64 * number + bit = omega (arith, number_back number) in
    omega (arith, still, weigh_without (is_number chunk) (64 * word_number (table_index number) + bit) v.held (subst (λ (k : ℕ). 0 < weigh (is_number k) v.held) (sym same) mine))

-- ---- seats come and go

pub splits : (n id : ℕ) (v : MapView) → Splits {S = ℕ} (MapHolds n) id v v (empty v.segments)
splits n id v s holds at = record {
  wide = holds.wide;
  opened = open_splits n open_noted (slice_index s.words 0) (map_words s.words) s.views id v (empty v.segments) (holds.opened.seen id v at) holds.opened.least holds.opened;
  counted = counted_splits openings_of (slice_index s.words 0) s.views id v v (empty v.segments) at (λ f. omega arith) holds.counted;
  owned = owned_split held_by (free_weight (map_words s.words) (640 * n)) (640 * n) s.views id v v (empty v.segments) at (λ f. omega arith) holds.owned;
}

both_logs : (g : MapEvent → ℕ) (v w : MapView) → weigh g (w.log ++ w.joined ++ v.joined) ≡ weigh g w.log + weigh g w.joined + weigh g v.joined
both_logs g v w = omega (arith, weigh-append g (w.log ++ w.joined) v.joined, weigh-append g w.log w.joined)

pub joins : (n id other : ℕ) (v w : MapView) → w.held ≡ [] → Joins {S = ℕ} (MapHolds n) id v other w (together v w) (empty 0)
joins n id other v w nothing s holds at apart there =
    let stays : OpenPart n open_noted (slice_index s.words 0) (map_words s.words) (set s.views id (together v w)) = open_steps n open_noted (slice_index s.words 0) (slice_index s.words 0) (map_words s.words) (map_words s.words) s.views id (together v w) (omega arith) holds.opened.most (holds.opened.seen id v at) (λ c below_n above free. free) holds.opened in
    record {
      wide = holds.wide;
      opened = open_steps n open_noted (slice_index s.words 0) (slice_index s.words 0) (map_words s.words) (map_words s.words) (set s.views id (together v w)) other (empty 0) (omega arith) holds.opened.most holds.opened.least (λ c below_n above free. free) stays;
      counted = counted_joins openings_of (slice_index s.words 0) s.views id other v w (together v w) (empty 0) at there (λ f. omega (arith, both_logs (opening_weight f) v w)) holds.counted;
      owned = owned_join held_by (free_weight (map_words s.words) (640 * n)) (640 * n) s.views id other v w (together v w) (empty 0) at there (λ f. omega (arith, ap (weigh f) nothing)) holds.owned;
    }

-- ---- the table at first

only_view : {V : Type 0} (x v : V) (k : ℕ) → get_elem? (x ∷ []) k ≡ some v → x ≡ v
only_view x v zero at = some-injective x v at
only_view x v (suc k) at = absurd (some-ne-none v (sym at))

pub opens : (n : ℕ) (words : List ℕ) → 1 ≤ n → words ≡ set (replicate (16 * (n + 1)) 18446744073709551615) 0 1 → MapHolds {S = ℕ} n (table_opening words [] (empty n))
opens n words some_segments are =
    let all : List ℕ = replicate (16 * (n + 1)) 18446744073709551615 in
    let first : slice_index words 0 ≡ 1 = ap (λ (ws : List ℕ). slice_index ws 0) are ∙ get_or-set_same all 0 1 0 (omega (arith, length-replicate {A = ℕ} (16 * (n + 1)) 18446744073709551615)) in
    let each : (number : ℕ) → number < 10 * n → map_words words number ≡ 18446744073709551615 = λ number lt. ap (λ (ws : List ℕ). map_words ws number) are ∙ get_or-set_other all 0 (table_index number) 1 0 (index_some number) ∙ get_or-replicate {A = ℕ} (16 * (n + 1)) (table_index number) 18446744073709551615 0 (index_within number n lt) in
    let free : (chunk : ℕ) → chunk < 640 * n → is_free (map_words words) chunk ≡ true = λ chunk lt. ap (λ d. d == 1) (ap (λ x. bit_at x (chunk % 64)) (each (chunk / 64) (omega (arith, lt))) ∙ bit_at_ones 64 (chunk % 64) (omega arith)) in
    record {
      wide = ap length are ∙ length-set all 0 1 ∙ length-replicate {A = ℕ} (16 * (n + 1)) 18446744073709551615;
      opened = record {
        least = omega (arith, first);
        most = omega (arith, first, some_segments);
        seen = λ k v at. omega (arith, first, ap open_noted (only_view (empty n) v k at));
        closed = λ chunk lt above. free chunk lt;
      };
      counted = λ f. omega (arith, ap (λ (m : ℕ). below f (m + 1)) first);
      owned = λ f. omega (arith, free_all (640 * n) (map_words words) free f);
    }
