-- What the steps of a search leave true.
use Rattle.std.proofs.Common.{ℕ, ◌≡◌, ◌≢◌, ◌↔◌, ◌+◌, ◌-◌, ◌*◌, ◌/◌, ◌%◌, ◌<◌, ◌≤◌, ◌==◌, ◌||◌, not, inl, inr, ⊎_elim, Bool, true, false, if◌then◌else◌, List, set, length, slice_index, refl, sym, ap, ◌∙◌, subst, arith, get_or-set_same, get_or-set_other}
use Rattle.std.specs.Int.{bit_at}
use Rattle.std.proofs.lemmas.Bool.{eq-eqb, ne_eqb, cases_eq, cases_lt}
use Rattle.std.proofs.lemmas.Nat.{bit_set_by_shift}
use Rattle.std.proofs.lemmas.Nat.Bits.{bit_at-zero, shr_and_one}
use Rattle.unit_model.specs.Runs.{HasNoRun, IsSeenFree}
use Rattle.unit_model.specs.declared.runs.Seen.{Seen}
use Rattle.unit_model.specs.Weights.{one_if}
use Rattle.unit_model.proofs.Weights.{is_number_some}
use Rattle.chunk_map.specs.declared.view.MapEvent.TheVariants.{SawWord}
use Rattle.chunk_map.specs.declared.view.MapEvent.{MapEvent}
use Rattle.chunk_map.specs.Gains.{gained, tried, more, SameSearch}
use Rattle.chunk_map.specs.Looks.{was_gained, was_looked, seen_free, may_be_free}
use Rattle.chunk_map.specs.Runs.{AreFree, NoneBelow}
use Rattle.chunk_map.specs.Search.{bit_of, AllSet, NoneSet}
use Rattle.chunk_map.specs.Showing.{Shows, ShowsSegment}
use Rattle.chunk_map.specs.Words.{is_free}
use Rattle.chunk_map.proofs.BitLists.{none_behind}
use Rattle.chunk_map.proofs.GainLaws.{seen_inside, seen_outside, search_on, search_tried, tried_missed, tried_inside, tried_outside, tried_gained}

-- a test that passed
pub passed : (x n : ℕ) → (x == n) ≡ true → x ≡ n
passed x n is = is_number_some n x (omega (arith, ap one_if is))

or_none : (b : Bool) → (b || false) ≡ b
or_none true = refl
or_none false = refl

-- ---- a word is looked at

pub seen_word : (v : List MapEvent) (number found chunk : ℕ) → chunk / 64 ≡ number → was_gained v chunk ≡ false → seen_free (more (SawWord number found) v) chunk ≡ (bit_at found (chunk % 64) == 1)
seen_word v number found chunk here never =
    ap (λ (b : Bool). if b then (bit_at found (chunk % 64) == 1 || was_gained v chunk) else seen_free v chunk) (eq-eqb (chunk / 64) number here)
    ∙ ap (λ (b : Bool). bit_at found (chunk % 64) == 1 || b) never
    ∙ or_none (bit_at found (chunk % 64) == 1)

pub seen_elsewhere : (v : List MapEvent) (number found chunk : ℕ) → chunk / 64 ≢ number → seen_free (more (SawWord number found) v) chunk ≡ seen_free v chunk
seen_elsewhere v number found chunk differs = ap (λ (b : Bool). if b then (bit_at found (chunk % 64) == 1 || was_gained v chunk) else seen_free v chunk) (ne_eqb (chunk / 64) number differs)

-- the words so far show the looks so far
pub shows_look : (words : List ℕ) (v : List MapEvent) (segment number found : ℕ) → number < length words → number < 10
    → ((chunk : ℕ) → chunk / 640 ≡ segment → chunk / 64 < 10 * segment + number → is_free (slice_index words) (chunk - 640 * segment) ≡ seen_free v chunk)
    → ((chunk : ℕ) → 640 * segment ≤ chunk → was_gained v chunk ≡ false)
    → (chunk : ℕ) → chunk / 640 ≡ segment → chunk / 64 < 10 * segment + (number + 1)
    → is_free (slice_index (set words number found)) (chunk - 640 * segment) ≡ seen_free (more (SawWord (10 * segment + number) found) v) chunk
shows_look words v segment number found lt below_10 shows never chunk within below =
    elim (cases_eq (chunk / 64) (10 * segment + number)) [
      | inl same ↦
          let q : (chunk - 640 * segment) / 64 ≡ number = omega (arith, same, within) in
          let r : (chunk - 640 * segment) % 64 ≡ chunk % 64 = omega (arith, within) in
          ap (λ k. bit_at (slice_index (set words number found) k) ((chunk - 640 * segment) % 64) == 1) q
          ∙ ap (λ b. bit_at (slice_index (set words number found) number) b == 1) r
          ∙ ap (λ x. bit_at x (chunk % 64) == 1) (get_or-set_same words number found 0 lt)
          ∙ sym (seen_word v (10 * segment + number) found chunk same (never chunk (omega (arith, within))))
      | inr differs ↦
          ap (λ x. bit_at x ((chunk - 640 * segment) % 64) == 1) (get_or-set_other words number ((chunk - 640 * segment) / 64) found 0 (λ is. absurd (differs (omega (arith, is, within, below)))))
          ∙ shows chunk within (omega (arith, below, differs))
          ∙ sym (seen_elsewhere v (10 * segment + number) found chunk differs)
    ]

-- ---- chunks are gained, or tried

-- chunks that were seen free are so when they are gained
pub gained_same : (v : List MapEvent) (first n : ℕ) → ((i : ℕ) → i < n → seen_free v (first + i) ≡ true) → (chunk : ℕ) → seen_free (gained more first n v) chunk ≡ seen_free v chunk
gained_same v first n free chunk =
    ⊎_elim
    (λ before. seen_outside first n v chunk (inl before))
    (λ from. ⊎_elim
    (λ inside.
    let same : first + (chunk - first) ≡ chunk = omega (arith, from) in
    let lt : chunk - first < n = omega (arith, from, inside) in
    subst (λ (k : ℕ). seen_free (gained more first n v) k ≡ seen_free v k) same (seen_inside first n (chunk - first) v lt ∙ sym (free (chunk - first) lt)))
    (λ behind. seen_outside first n v chunk (inr behind))
    (cases_lt chunk (first + n)))
    (cases_lt chunk first)

-- a try changes the look at the chunk that it missed
pub tried_same : (v : List MapEvent) (first n : ℕ) → ((i : ℕ) → i < n → seen_free v (first + i) ≡ true) → (chunk : ℕ) → chunk ≢ first + n → seen_free (tried more first n v) chunk ≡ seen_free v chunk
tried_same v first n free chunk ne =
    ⊎_elim
    (λ before. tried_outside first n v chunk (inl before))
    (λ from. ⊎_elim
    (λ inside.
    let same : first + (chunk - first) ≡ chunk = omega (arith, from) in
    let lt : chunk - first < n = omega (arith, from, inside) in
    subst (λ (k : ℕ). seen_free (tried more first n v) k ≡ seen_free v k) same (tried_inside first n (chunk - first) v lt ∙ sym (free (chunk - first) lt)))
    (λ behind. tried_outside first n v chunk (inr (omega (arith, behind, ne))))
    (cases_lt chunk (first + n)))
    (cases_lt chunk first)

shows_tried : (segment : ℕ) (words words' : List ℕ) (v : List MapEvent) (first n place : ℕ) → ((i : ℕ) → i < n → seen_free v (first + i) ≡ true) → was_gained v (first + n) ≡ false
    → first + n ≡ 640 * segment + place
    → is_free (slice_index words') place ≡ false → ((other : ℕ) → other ≢ place → is_free (slice_index words') other ≡ is_free (slice_index words) other)
    → ShowsSegment segment words v → ShowsSegment segment words' (tried more first n v)
shows_tried segment words words' v first n place free never missed here others shows chunk within =
    elim (cases_eq chunk (first + n)) [
      | inl is ↦
          let at : chunk - 640 * segment ≡ place = omega (arith, is, missed) in
          ap (is_free (slice_index words')) at ∙ here ∙ sym (ap (seen_free (tried more first n v)) is ∙ tried_missed first n v never)
      | inr ne ↦
          others (chunk - 640 * segment) (λ is. absurd (ne (omega (arith, is, missed, within)))) ∙ shows chunk within ∙ sym (tried_same v first n free chunk ne)
    ]

-- ---- the search in one segment

-- What holds when all runs that begin before `from` are ruled out. `starts` has a bit for each chunk from which so many are
-- free by the looks, which `words` shows.
pub record Trying (before v : List MapEvent) (words starts : List ℕ) (segment count from : ℕ) : Type 0 where
  pub search : SameSearch before v
  pub looked : (chunk : ℕ) → chunk / 640 ≡ segment → was_looked v chunk ≡ true
  pub fresh : (chunk : ℕ) → 640 * segment + from ≤ chunk → was_gained v chunk ≡ false
  pub shows : ShowsSegment segment words v
  pub elsewhere : (chunk : ℕ) → chunk / 640 ≢ segment → seen_free v chunk ≡ seen_free before chunk
  pub marked : (place : ℕ) → from ≤ place → (bit_of starts place ≡ 1) ↔ AreFree (seen_free v) count segment place
  pub none : NoneBelow (seen_free v) count segment from

start_fits : (words : List ℕ) (first count : ℕ) → length words ≡ 10 → 1 ≤ count → AllSet words first count → first + count ≤ 640
start_fits words first count long some_count all =
    ⊎_elim
    (λ lt. omega (arith, lt, some_count))
    (λ behind. absurd (omega (arith, none_behind words (first + (count - 1)) long behind, all (count - 1) (omega (arith, some_count)))))
    (cases_lt (first + (count - 1)) 640)

-- at first the bits are those of the segment's words
pub starts_first : (words starts : List ℕ) (v : List MapEvent) (segment count : ℕ) → length words ≡ 10 → 1 ≤ count → ShowsSegment segment words v
    → ((place : ℕ) → (bit_of starts place ≡ 1) ↔ AllSet words place count)
    → (place : ℕ) → (bit_of starts place ≡ 1) ↔ AreFree (seen_free v) count segment place
starts_first words starts v segment count long some_count shows runs place = (
  λ one.
      let all = (runs place).0 one in
      let fits = start_fits words place count long some_count all in
      (fits, λ i lt. same (place + i) (omega (arith, lt, fits)) ∙ eq-eqb (bit_of words (place + i)) 1 (all i lt)),
  λ free. (runs place).1 (λ i lt. passed (bit_of words (place + i)) 1 (sym (same (place + i) (omega (arith, lt, free.0))) ∙ free.1 i lt)),
)
  where
    same : (chunk : ℕ) → chunk < 640 → seen_free v (640 * segment + chunk) ≡ (bit_of words chunk == 1)
    same chunk lt =
        let at : 640 * segment + chunk - 640 * segment ≡ chunk = omega arith in
        sym (shows (640 * segment + chunk) (omega (arith, lt))) ∙ ap (is_free (slice_index words)) at

module _ (before v : List MapEvent) (words starts : List ℕ) (segment count from : ℕ) (trying : Trying before v words starts segment count from) where
  -- no run begins before a place up to which no start is set
  pub none_here : (to : ℕ) → NoneSet starts from to → NoneBelow (seen_free v) count segment to
  none_here to none_set chunk below free =
      ⊎_elim
      (λ earlier. trying.none chunk earlier free)
      (λ later. absurd (omega (arith, none_set chunk later below, (trying.marked chunk later).1 free)))
      (cases_lt chunk from)

  free_chunk : (first : ℕ) → AreFree (seen_free v) count segment first → (i : ℕ) → i < count → seen_free v (640 * segment + first + i) ≡ true
  free_chunk first free i lt = let same : 640 * segment + first + i ≡ 640 * segment + (first + i) = omega arith in ap (seen_free v) same ∙ free.1 i lt

  -- a run that is gained changes no look
  pub run_same : (first : ℕ) → AreFree (seen_free v) count segment first → (chunk : ℕ) → seen_free (gained more (640 * segment + first) count v) chunk ≡ seen_free v chunk
  run_same first free = gained_same v (640 * segment + first) count (free_chunk first free)

  pub tried_on : (first : ℕ) (words' : List ℕ) (n : ℕ) → n < count → from ≤ first → AreFree (seen_free v) count segment first → NoneSet starts from first
      → is_free (slice_index words') (first + n) ≡ false
      → ((other : ℕ) → other ≢ first + n → is_free (slice_index words') other ≡ is_free (slice_index words) other)
      → Trying before (tried more (640 * segment + first) n v) words' starts segment count (first + n + 1)
  tried_on first words' n fewer later free none_set here others = record {
    search = search_on before v (tried more (640 * segment + first) n v) trying.search (search_tried (640 * segment + first) n v);
    looked = λ chunk is. (search_tried (640 * segment + first) n v).looked chunk (trying.looked chunk is);
    fresh = λ chunk from_there. tried_gained (640 * segment + first) n v chunk (inr (omega (arith, from_there))) ∙ trying.fresh chunk (omega (arith, from_there, later));
    shows = shows_tried segment words words' v (640 * segment + first) n (first + n) inside never (omega arith) here others trying.shows;
    elsewhere = λ chunk ne. same chunk (λ is. ne (omega (arith, is, fewer, free.0))) ∙ trying.elsewhere chunk ne;
    marked = λ place from_there.
        let still_so : (i : ℕ) → seen_free (tried more (640 * segment + first) n v) (640 * segment + (place + i)) ≡ seen_free v (640 * segment + (place + i)) = λ i. same (640 * segment + (place + i)) (λ is. absurd (omega (arith, is, from_there))) in
        let earlier = trying.marked place (omega (arith, from_there, later)) in (
          λ one. let was = earlier.0 one in (was.0, λ i lt. still_so i ∙ was.1 i lt),
          λ now. earlier.1 (now.0, λ i lt. sym (still_so i) ∙ now.1 i lt),
        );
    none = λ chunk below now. ⊎_elim
        (λ earlier. none_here first none_set chunk earlier (now.0, λ i lt. still (640 * segment + (chunk + i)) (now.1 i lt)))
        (λ at_or_behind.
        let missed : 640 * segment + (chunk + (first + n - chunk)) ≡ 640 * segment + first + n = omega (arith, at_or_behind, below) in
        clash (sym (now.1 (first + n - chunk) (omega (arith, at_or_behind, fewer))) ∙ ap (seen_free (tried more (640 * segment + first) n v)) missed ∙ tried_missed (640 * segment + first) n v never))
        (cases_lt chunk first);
  }
    where
      inside : (i : ℕ) → i < n → seen_free v (640 * segment + first + i) ≡ true
      inside i lt = free_chunk first free i (omega (arith, lt, fewer))

      never : was_gained v (640 * segment + first + n) ≡ false
      never = trying.fresh (640 * segment + first + n) (omega (arith, later))

      same : (chunk : ℕ) → chunk ≢ 640 * segment + first + n → seen_free (tried more (640 * segment + first) n v) chunk ≡ seen_free v chunk
      same = tried_same v (640 * segment + first) n inside

      clash : true ≡ false → ⊥
      clash is = absurd (omega (arith, ap one_if is))

      still : (chunk : ℕ) → seen_free (tried more (640 * segment + first) n v) chunk ≡ true → seen_free v chunk ≡ true
      still chunk now = ⊎_elim
          (λ is. absurd (clash (sym now ∙ ap (seen_free (tried more (640 * segment + first) n v)) is ∙ tried_missed (640 * segment + first) n v never)))
          (λ ne. sym (same chunk ne) ∙ now)
          (cases_eq chunk (640 * segment + first + n))

-- ---- the search over segments

-- the words of all segments show the looks, once those of one more segment are noted
pub shows_noted : (seen seen' words : List ℕ) (v : List MapEvent) (segment : ℕ)
    → ((chunk : ℕ) → chunk < 5120 → chunk / 640 ≢ segment → is_free (slice_index seen) chunk ≡ seen_free v chunk)
    → ((number : ℕ) → number < 10 → slice_index seen' (10 * segment + number) ≡ slice_index words number)
    → ((number : ℕ) → number / 10 ≢ segment → slice_index seen' number ≡ slice_index seen number)
    → ShowsSegment segment words v → Shows seen' v
shows_noted seen seen' words v segment before here others shows chunk within =
    elim (cases_eq (chunk / 640) segment) [
      | inl is ↦
          let q : chunk / 64 ≡ 10 * segment + (chunk - 640 * segment) / 64 = omega (arith, is) in
          let r : chunk % 64 ≡ (chunk - 640 * segment) % 64 = omega (arith, is) in
          ap (λ k. bit_at (slice_index seen' k) (chunk % 64) == 1) q
          ∙ ap (λ b. bit_at (slice_index seen' (10 * segment + (chunk - 640 * segment) / 64)) b == 1) r
          ∙ ap (λ x. bit_at x ((chunk - 640 * segment) % 64) == 1) (here ((chunk - 640 * segment) / 64) (omega (arith, is)))
          ∙ shows chunk is
      | inr ne ↦
          ap (λ x. bit_at x (chunk % 64) == 1) (others (chunk / 64) (λ is. ne (omega (arith, is)))) ∙ before chunk within ne
    ]

-- no chunk is free by words that are 0
pub none_free : (words : List ℕ) → ((number : ℕ) → slice_index words number ≡ 0) → (chunk : ℕ) → is_free (slice_index words) chunk ≡ false
none_free words none chunk = ne_eqb (bit_at (slice_index words (chunk / 64)) (chunk % 64)) 1 (λ one. absurd (omega (arith, one, ap (λ x. bit_at x (chunk % 64)) (none (chunk / 64)), bit_at-zero (chunk % 64))))

-- where all chunks of the segment were looked at, none seen free, so none that the looks allow
pub none_allowed : (v : List MapEvent) (n segment first : ℕ) → ((chunk : ℕ) → chunk / 640 ≡ segment → was_looked v chunk ≡ true) → NoneBelow (seen_free v) n segment first → NoneBelow (may_be_free v) n segment first
none_allowed v n segment first looked none chunk below free = none chunk below (
  free.0,
  λ i within.
      let place : ℕ = 640 * segment + (chunk + i) in
      let was = looked place (omega (arith, within, free.0)) in
      sym (ap (λ (b : Bool). not b || seen_free v place) was) ∙ free.1 i within,
)

-- other segments stay
pub none_stays : (v v' : List MapEvent) (n segment other first : ℕ) → other ≢ segment → ((chunk : ℕ) → chunk / 640 ≢ segment → seen_free v' chunk ≡ seen_free v chunk)
    → NoneBelow (seen_free v) n other first → NoneBelow (seen_free v') n other first
none_stays v v' n segment other first ne same none chunk below free =
    none chunk below (
      free.0,
      λ i lt.
          let place : ℕ = 640 * other + (chunk + i) in
          let there : place / 640 ≡ other = omega (arith, lt, free.0) in
          sym (same place (λ is. ne (sym there ∙ is))) ∙ free.1 i lt,
    )

-- no run by the looks, so none by the words of the answer
pub no_run : (seen : Seen) (v : List MapEvent) (n : ℕ) → 1 ≤ n → seen.segments ≤ 8 → Shows seen.words v → ((segment : ℕ) → segment < seen.segments → NoneBelow (seen_free v) n segment 640) → HasNoRun seen n
no_run seen v n some_chunk few shows none segment first lt fits all =
    none segment lt first (omega (arith, some_chunk, fits)) (fits, λ i below. sym (shows (640 * segment + (first + i)) (omega (arith, below, fits, lt, few))) ∙ free (first + i) (omega (arith, below, fits)) (all i below))
  where
    free : (chunk : ℕ) → chunk < 640 → IsSeenFree seen segment chunk → is_free (slice_index seen.words) (640 * segment + chunk) ≡ true
    free chunk within set_bit =
        let q : (640 * segment + chunk) / 64 ≡ 10 * segment + chunk / 64 = omega arith in
        let r : (640 * segment + chunk) % 64 ≡ chunk % 64 = omega arith in
        let word : ℕ = slice_index seen.words (10 * segment + chunk / 64) in
        ap (λ k. bit_at (slice_index seen.words k) ((640 * segment + chunk) % 64) == 1) q
        ∙ ap (λ b. bit_at word b == 1) r
        ∙ eq-eqb (bit_at word (chunk % 64)) 1 (sym (shr_and_one word (chunk % 64)) ∙ (bit_set_by_shift word (chunk % 64)).1 set_bit)
