-- Each step at a ring of a queue keeps the rule of its table.
use Rattle.std.proofs.Common.{ℕ, ◌+◌, ◌/◌, ◌%◌, ◌^◌, ◌≡◌, ◌≢◌, ◌<◌, ◌⊎◌, inl, inr, ⊎_elim, eqb, List, set, Some, None, refl, sym, ap, ◌∙◌, subst, arith, length-set, mod-lt}
use Rattle.std.proofs.lemmas.Bool.{cases_lt}
use Rattle.std.proofs.lemmas.List.{set-get_or}
use prog.Atomic.{either}
use lib.ListN.{get_elem?}
use Rattle.atomic_table.specs.Table.{State, Act, keeps, stepped, Valid, carried_after}
use Rattle.atomic_table.proofs.Lists.{exchanged}
use Rattle.unit_model.specs.Sharing.{Holds, Owned}
use Rattle.unit_model.specs.Weights.{weigh, is_number}
use Rattle.unit_model.proofs.Weights.{weigh_push, is_number_same, is_number_some}
use Rattle.nncq_ring.specs.declared.view.RingEvent.{RingEvent}
use Rattle.nncq_ring.specs.declared.view.RingEvent.TheVariants.{SawTail, SawHead, SawEntry, Pushed, Popped}
use Rattle.nncq_ring.specs.Notes.{Noted}
use Rattle.nncq_ring.specs.Rule.{line_weight, Emptied}
use Rattle.nncq_ring.specs.Shown.{ShowsFilled}
use Rattle.nncq_ring.specs.Views.{push_weight, pop_weight}
use Rattle.nncq_ring.specs.Words.{Words, entry_of, line_of, SetsEntry}
use Rattle.nncq_ring.proofs.RingStep.{RingAfter, tail_below, head_below, looked, was_tail, was_head, was_entry, entry_noted, was_empty, near, put, later_entry, took, later_head, helped, past}
use Rattle.nncq_ring.proofs.Sharing.{emptied_stays, emptied_one}
use Rattle.app_queue.specs.declared.layout.Place.{Place}
use Rattle.app_queue.specs.declared.layout.Place.TheVariants.{InRing, TagOf}
use Rattle.app_queue.specs.declared.side.Side.{Side}
use Rattle.app_queue.specs.declared.side.Side.TheVariants.{Free, Line}
use Rattle.app_queue.specs.declared.view.ItemEvent.{ItemEvent}
use Rattle.app_queue.specs.declared.view.QueueView.{QueueView}
use Rattle.app_queue.specs.FrameLaws.{SaysNoMore}
use Rattle.app_queue.specs.Layout.{word_at, word_of, ring_of, one_queue, queue_words}
use Rattle.app_queue.specs.Parts.{HasMoved, IsIn, FreeUntagged, TagsKnown, WordsKnown, lines_weight}
use Rattle.app_queue.specs.Queues.{WordsStay}
use Rattle.app_queue.specs.Rule.{QueueHolds, begun_with, starts_at}
use Rattle.app_queue.specs.Told.{SeesTail, SeesHead, SeesEntry, Puts, Takes, Helps}
use Rattle.app_queue.specs.Views.{last_tag, last_run, last_part, tag_got, held_by, held_of, log_at, log_of, pushes_of, pops_of, arm_weight, win_weight, run_weight, part_weight, arms_of, wins_of, run_notes_of, part_notes_of, tag_said, run_said, part_said, does, does_logs, FitsRing, MayPut, is_armed}
use Rattle.app_queue.proofs.HistoryFrames.{moved_moves, history_step}
use Rattle.app_queue.proofs.ItemFrames.{same_weight}
use Rattle.app_queue.proofs.KnownFrames.{tags_known, tags_known_one, words_known, words_known_one}
use Rattle.app_queue.proofs.NotedFrames.{words_noted}
use Rattle.app_queue.proofs.Places.{entry_set, tail_set, head_set, ring_stays, other_rings, tags_else, runs_else, parts_else}
use Rattle.app_queue.proofs.QueueViews.{told_else, told_here, other_log, items_weigh, holds_some, without_weighs, put_tag, put_run, put_part, took_other}
use Rattle.app_queue.proofs.RingFrames.{rings_step}
use Rattle.app_queue.proofs.TagFrames.{tags_counted}

module _ (key : ℕ × ℕ) (id : ℕ) (v : QueueView) (carried : List (ℕ × ℕ)) (s : State ℕ QueueView) (holds : QueueHolds key s) (at : get_elem? s.views id ≡ mathlib.Core.Option.some v) where
  -- what a step at this word, which becomes this, has to show
  abbrev pub After : Place → ℕ → (QueueView → Type 0) → Type 0
  After p new told = (u : QueueView) × (a : Act ℕ) × Valid s.homes carried a × QueueHolds key (stepped s (word_at key.0 p) new id carried u a) × ((carried_after carried a ≡ carried) × told u)

  abbrev pub ring_now : Side → Words
  ring_now side = ring_of key.0 s.words side

  -- the words when this one became that
  abbrev pub words_then : Place → ℕ → List ℕ
  words_then p new = set s.words (word_at key.0 p) new

  pub first : 0 < 1
  first = omega arith

  -- what the items in the other ring weigh
  abbrev pub in_other : Side → (ℕ → ℕ) → ℕ
  in_other Free f = line_weight key.0 (ring_now Line) f
  in_other Line f = line_weight key.0 (ring_now Free) f

  owned_at : (side : Side) → Owned held_by (λ f. line_weight key.0 (ring_now side) f + in_other side f) key.0 s.views
  owned_at Free f = holds.owned 0 first f
  owned_at Line f = omega (arith, holds.owned 0 first f)

  abbrev Here : Side → Words → QueueView → Type 0
  Here side w' u = RingAfter QueueView key.0 (log_at side) held_by (in_other side) (ring_now side) s.views id v at (holds.rings.rings 0 first side) (holds.rings.worn 0 first side) (owned_at side) w' u

  -- what the seat knows of items then, whatever else changed
  record KnownThen (u : QueueView) : Type 0 where
    tags_then : (tag' : ℕ → ℕ → ℕ) → WordsStay (one_queue key.0) (queue_words key.0 s.words).tag tag' → TagsKnown held_of tag_said (one_queue key.0) tag' (set s.views id u)
    runs_then : (run' : ℕ → ℕ → ℕ) → WordsStay (one_queue key.0) (queue_words key.0 s.words).run run' → WordsKnown held_of run_said (one_queue key.0) run' (set s.views id u)
    parts_then : (part' : ℕ → ℕ → ℕ) → WordsStay (one_queue key.0) (queue_words key.0 s.words).part part' → WordsKnown held_of part_said (one_queue key.0) part' (set s.views id u)

  -- what is held is no more than before, and no more is said of it
  known_less : (u : QueueView) → SaysNoMore held_of tag_said v u → SaysNoMore held_of run_said v u → SaysNoMore held_of part_said v u → KnownThen u
  known_less u tag_less run_less part_less = record {
    tags_then = λ tag' stays. tags_known QueueView tag_said held_of (one_queue key.0) (queue_words key.0 s.words).tag tag' s.views id v u at stays tag_less holds.tags;
    runs_then = λ run' stays. words_known QueueView run_said held_of (one_queue key.0) (queue_words key.0 s.words).run run' s.views id v u at stays run_less holds.runs;
    parts_then = λ part' stays. words_known QueueView part_said held_of (one_queue key.0) (queue_words key.0 s.words).part part' s.views id v u at stays part_less holds.parts;
  }

  -- where an item in the free ring then has tag 0
  free_then : (side : Side) (o new : ℕ) → o < 32 + key.0 → ((item : ℕ) → item < key.0 → side ≡ Free → IsIn item key.0 (ring_of key.0 (words_then (InRing side o) new) side) → word_of key.0 s.words (TagOf item) ≡ 0)
      → FreeUntagged (one_queue key.0) (queue_words key.0 (words_then (InRing side o) new)).ring (queue_words key.0 (words_then (InRing side o) new)).tag
  free_then Free o new real here q lt item below_n is_in =
      tags_else key.0 s.words holds.wide new (InRing Free o) real (λ i is. cc) 0 first item below_n ∙ here item below_n refl is_in
  free_then Line o new real here q lt item below_n is_in =
      let fine = (holds.rings.rings 0 first Free).fine in
      let same = ring_stays key.0 s.words holds.wide new (InRing Line o) real Free (λ o' is. cc) in
      let before : IsIn item key.0 (ring_now Free) = omega (arith, is_in, same_weight key.0 (ring_now Free) (ring_of key.0 (words_then (InRing Line o) new) Free) fine same (is_number item)) in
      tags_else key.0 s.words holds.wide new (InRing Line o) real (λ i is. cc) 0 first item below_n ∙ holds.free 0 first item below_n before

  -- each item in one place then, by what holds at the ring that changed
  owned_then : (side : Side) (o new : ℕ) (u : QueueView) → o < 32 + key.0 → Owned held_by (λ f. line_weight key.0 (ring_of key.0 (words_then (InRing side o) new) side) f + in_other side f) key.0 (set s.views id u)
      → Owned held_by (lines_weight key.0 (ring_of key.0 (words_then (InRing side o) new))) key.0 (set s.views id u)
  owned_then Free o new u real here f =
      let fine = (holds.rings.rings 0 first Line).fine in
      let same = ring_stays key.0 s.words holds.wide new (InRing Free o) real Line (λ o' is. cc) in
      omega (arith, here f, same_weight key.0 (ring_now Line) (ring_of key.0 (words_then (InRing Free o) new) Line) fine same f)
  owned_then Line o new u real here f =
      let fine = (holds.rings.rings 0 first Free).fine in
      let same = ring_stays key.0 s.words holds.wide new (InRing Line o) real Free (λ o' is. cc) in
      omega (arith, here f, same_weight key.0 (ring_now Free) (ring_of key.0 (words_then (InRing Line o) new) Free) fine same f)

  -- what was put in a ring and taken from it, by its words then
  abbrev HistoryThen : Side → Words → QueueView → Type 0
  HistoryThen side w' u = HasMoved (pushes_of 0 side) (pops_of 0 side) key.0 (begun_with key.0 key.1 0 side) w' (set s.views id u) × Emptied (pops_of 0 side) key.1 w' (set s.views id u)

  -- what an event adds to what was put, and to what was taken
  puts_more : (side : Side) (e : RingEvent) (g : ℕ → ℕ → ℕ) → pushes_of 0 side g (does side e v) ≡ push_weight g e + pushes_of 0 side g v
  puts_more side e g = ap (weigh (push_weight g)) (does_logs side e v)

  takes_more : (side : Side) (e : RingEvent) (g : ℕ → ℕ → ℕ) → pops_of 0 side g (does side e v) ≡ pop_weight g e + pops_of 0 side g v
  takes_more side e g = ap (weigh (pop_weight g)) (does_logs side e v)

  -- an event that is a look, and a line that stays
  same_history : (side : Side) (e : RingEvent) (w' : Words) → ((g : ℕ → ℕ → ℕ) → push_weight g e ≡ 0) → ((g : ℕ → ℕ → ℕ) → pop_weight g e ≡ 0) → line_of key.0 w' ≡ line_of key.0 (ring_now side) → w'.head ≡ (ring_now side).head → HistoryThen side w' (does side e v)
  same_history side e w' pushed popped line head = (
    moved_moves (pushes_of 0 side) (pops_of 0 side) key.0 (begun_with key.0 key.1 0 side) (ring_now side) w' s.views id v (does side e v) at
        (λ g. omega (arith, ap (weigh (λ (a : ℕ × ℕ). g a.0 a.1)) line, puts_more side e g, takes_more side e g, pushed g, popped g)) (holds.history.moved 0 first side),
    emptied_stays (pops_of 0 side) key.1 (ring_now side) w' s.views id v (does side e v) at head (λ g. omega (arith, takes_more side e g, popped g)) (holds.history.emptied 0 first side),
  )

  -- the rule after a step at a ring
  kept : (side : Side) (o new : ℕ) (e : RingEvent) → o < 32 + key.0 → Here side (ring_of key.0 (words_then (InRing side o) new) side) (does side e v) → HistoryThen side (ring_of key.0 (words_then (InRing side o) new) side) (does side e v)
      → ((item : ℕ) → item < key.0 → side ≡ Free → IsIn item key.0 (ring_of key.0 (words_then (InRing side o) new) side) → word_of key.0 s.words (TagOf item) ≡ 0)
      → KnownThen (does side e v) → QueueHolds key (stepped s (word_at key.0 (InRing side o)) new id carried (does side e v) keeps)
  kept side o new e real here history_here free_here known =
      let u : QueueView = does side e v in
      let p : Place = InRing side o in
      let ring' = (queue_words key.0 (words_then p new)).ring in
      let tags_stay = tags_else key.0 s.words holds.wide new p real (λ i is. cc) in
      record {
        wide = length-set s.words (word_at key.0 p) new ∙ holds.wide;
        rings = rings_step QueueView log_of (one_queue key.0) (queue_words key.0 s.words).ring ring' s.views id v u at 0 side (other_rings key.0 s.words holds.wide new side o real)
            (λ r lt other apart. ⊎_elim (λ ne. absurd (ne (omega (arith, lt)))) (λ ne. other_log side other e v ne) apart) here.0 here.1 holds.rings;
        history = history_step QueueView pushes_of pops_of (starts_at key.1) (begun_with key.0 key.1) (one_queue key.0) (queue_words key.0 s.words).ring ring' s.views id v u at (λ q lt a. (holds.rings.rings q lt a).fine) 0 side
            (other_rings key.0 s.words holds.wide new side o real)
            (λ r lt other apart g. ⊎_elim (λ ne. absurd (ne (omega (arith, lt)))) (λ ne. ap (weigh (push_weight g)) (other_log side other e v ne)) apart)
            (λ r lt other apart g. ⊎_elim (λ ne. absurd (ne (omega (arith, lt)))) (λ ne. ap (weigh (pop_weight g)) (other_log side other e v ne)) apart)
            history_here.0 history_here.1 holds.history;
        owned = λ q lt. owned_then side o new u real here.2;
        free = free_then side o new real free_here;
        counted = tags_counted QueueView arms_of wins_of (one_queue key.0) (queue_words key.0 s.words).tag (queue_words key.0 (words_then p new)).tag s.views id v u at tags_stay
            (λ q f. let same : weigh (arm_weight f) u.items ≡ weigh (arm_weight f) v.items = items_weigh (arm_weight f) (λ a i x. refl) side e v.items in omega (arith, same))
            (λ q f. let same : weigh (win_weight f) u.items ≡ weigh (win_weight f) v.items = items_weigh (win_weight f) (λ a i x. refl) side e v.items in omega (arith, same))
            holds.counted;
        tags = known.tags_then (queue_words key.0 (words_then p new)).tag tags_stay;
        runs = known.runs_then (queue_words key.0 (words_then p new)).run (runs_else key.0 s.words holds.wide new p real (λ i is. cc));
        parts = known.parts_then (queue_words key.0 (words_then p new)).part (parts_else key.0 s.words holds.wide new p real (λ i is. cc));
        noted_runs = words_noted QueueView run_notes_of (one_queue key.0) (queue_words key.0 s.words).run (queue_words key.0 (words_then p new)).run s.views id v u at (runs_else key.0 s.words holds.wide new p real (λ i is. cc))
            (λ q f. let same : weigh (run_weight f) u.items ≡ weigh (run_weight f) v.items = items_weigh (run_weight f) (λ a i x. refl) side e v.items in omega (arith, same)) holds.noted_runs;
        noted_parts = words_noted QueueView part_notes_of (one_queue key.0) (queue_words key.0 s.words).part (queue_words key.0 (words_then p new)).part s.views id v u at (parts_else key.0 s.words holds.wide new p real (λ i is. cc))
            (λ q f. let same : weigh (part_weight f) u.items ≡ weigh (part_weight f) v.items = items_weigh (part_weight f) (λ a i x. refl) side e v.items in omega (arith, same)) holds.noted_parts;
      }

  -- the same is held, and the same said of it
  known_same : (u : QueueView) → u.held ≡ v.held → u.items ≡ v.items → KnownThen u
  known_same u held_is items_are =
      let still : (i : ℕ) → Holds held_by i u → Holds held_by i v = λ i. subst (λ (xs : List ℕ). 0 < weigh (is_number i) xs) held_is in
      known_less u
      (λ q i mine. (still i mine, λ x. subst (λ (es : List ItemEvent). last_tag i es ≡ Some x) items_are))
      (λ q i mine. (still i mine, λ x. subst (λ (es : List ItemEvent). last_run i es ≡ Some x) items_are))
      (λ q i mine. (still i mine, λ x. subst (λ (es : List ItemEvent). last_part i es ≡ Some x) items_are))

  -- ---- a look changes no word

  seen : (side : Side) (o : ℕ) (e : RingEvent) → o < 32 + key.0 → Noted key.0 (ring_now side) e → ((f : ℕ → ℕ) → held_by f (does side e v) ≡ held_by f v)
      → ((g : ℕ → ℕ → ℕ) → push_weight g e ≡ 0) → ((g : ℕ → ℕ → ℕ) → pop_weight g e ≡ 0) → KnownThen (does side e v)
      → QueueHolds key (stepped s (word_at key.0 (InRing side o)) (word_of key.0 s.words (InRing side o)) id carried (does side e v) keeps)
  seen side o e real noted same pushed popped known =
      let u : QueueView = does side e v in
      let found : ℕ = word_of key.0 s.words (InRing side o) in
      let back : words_then (InRing side o) found ≡ s.words = set-get_or s.words (word_at key.0 (InRing side o)) 0 in
      let here : Here side (ring_now side) u = looked QueueView key.0 (log_at side) held_by (in_other side) (ring_now side) s.views id v at (holds.rings.rings 0 first side) (holds.rings.worn 0 first side) (owned_at side) u e (does_logs side e v) same noted in
      kept side o found e real
      (subst (λ (ws : List ℕ). Here side (ring_of key.0 ws side) u) (sym back) here)
      (subst (λ (ws : List ℕ). HistoryThen side (ring_of key.0 ws side) u) (sym back) (same_history side e (ring_now side) pushed popped refl refl))
      (λ item lt is_free is_in.
      let before : IsIn item key.0 (ring_now side) = subst (λ (ws : List ℕ). IsIn item key.0 (ring_of key.0 ws side)) back is_in in
      holds.free 0 first item lt (subst (λ (a : Side). IsIn item key.0 (ring_now a)) is_free before))
      known

  pub sees_tail : (side : Side) → After (InRing side 16) (ring_now side).tail (SeesTail key.0 side v (ring_now side).tail)
  sees_tail side =
      let u : QueueView = does side (SawTail (ring_now side).tail) v in (
        u,
        keeps,
        tt,
        seen side 16 (SawTail (ring_now side).tail) (omega arith) (omega arith) (λ f. refl) (λ g. refl) (λ g. refl) (known_same u refl refl),
        (
          refl,
          record {
            view = refl;
            most = tail_below QueueView key.0 (log_at side) held_by (in_other side) (ring_now side) s.views id v at (holds.rings.rings 0 first side) (holds.rings.worn 0 first side) (owned_at side);
            was = was_tail QueueView key.0 (log_at side) held_by (in_other side) (ring_now side) s.views id v at (holds.rings.rings 0 first side) (holds.rings.worn 0 first side) (owned_at side);
          },
        ),
      )

  pub sees_head : (side : Side) → After (InRing side 0) (ring_now side).head (SeesHead key.0 side v (ring_now side).head)
  sees_head side =
      let u : QueueView = does side (SawHead (ring_now side).head) v in (
        u,
        keeps,
        tt,
        seen side 0 (SawHead (ring_now side).head) (omega arith) (omega arith) (λ f. refl) (λ g. refl) (λ g. refl) (known_same u refl refl),
        (
          refl,
          record {
            view = refl;
            most = head_below QueueView key.0 (log_at side) held_by (in_other side) (ring_now side) s.views id v at (holds.rings.rings 0 first side) (holds.rings.worn 0 first side) (owned_at side);
            was = was_head QueueView key.0 (log_at side) held_by (in_other side) (ring_now side) s.views id v at (holds.rings.rings 0 first side) (holds.rings.worn 0 first side) (owned_at side);
          },
        ),
      )

  -- a slot is one of the ring's
  slot_real : (side : Side) (place : ℕ) → 32 + place % key.0 < 32 + key.0
  slot_real side place = let lt : place % key.0 < key.0 = mod-lt place (holds.rings.rings 0 first side).fine.size in omega (arith, lt)

  -- the rule after a look at an entry
  seen_entry : (side : Side) (place : ℕ) → QueueHolds key (stepped s (word_at key.0 (InRing side (32 + place % key.0))) ((ring_now side).entry (place % key.0)) id carried (does side (SawEntry place ((ring_now side).entry (place % key.0))) v) keeps)
  seen_entry side place =
      let found : ℕ = (ring_now side).entry (place % key.0) in
      seen side (32 + place % key.0) (SawEntry place found) (slot_real side place)
      (entry_noted QueueView key.0 (log_at side) held_by (in_other side) (ring_now side) s.views id v at (holds.rings.rings 0 first side) (holds.rings.worn 0 first side) (owned_at side) place)
      (λ f. refl) (λ g. refl) (λ g. refl) (known_same (does side (SawEntry place found) v) refl refl)

  pub sees_entry : (side : Side) (place : ℕ) → After (InRing side (32 + place % key.0)) ((ring_now side).entry (place % key.0)) (SeesEntry key.0 side place v ((ring_now side).entry (place % key.0)))
  sees_entry side place = (
    does side (SawEntry place ((ring_now side).entry (place % key.0))) v,
    keeps,
    tt,
    seen_entry side place,
    (
      refl,
      record {
        view = refl;
        was = was_entry QueueView key.0 (log_at side) held_by (in_other side) (ring_now side) s.views id v at (holds.rings.rings 0 first side) (holds.rings.worn 0 first side) (owned_at side) place;
        near = λ shown. near QueueView key.0 (log_at side) held_by (in_other side) (ring_now side) s.views id v at (holds.rings.rings 0 first side) (holds.rings.worn 0 first side) (owned_at side) place shown;
        none = λ shown before. was_empty QueueView key.0 (log_at side) held_by (in_other side) (ring_now side) s.views id v at (holds.rings.rings 0 first side) (holds.rings.worn 0 first side) (owned_at side) place shown before;
      },
    ),
  )

  -- the tag of an item that the seat holds, and that it knows to be 0
  pub tag_zero : (item : ℕ) → item < key.0 → Holds held_by item v → last_tag item v.items ≡ Some 0 → word_of key.0 s.words (TagOf item) ≡ 0
  tag_zero item lt mine said = ⊎_elim (λ is. is) (λ is. is) (holds.tags 0 first id v at item lt mine 0 said)

  -- ---- an entry exchange

  module _ (side : Side) (t x item second : ℕ) (fresh : t < 2 ^ 62) (may : MayPut side item v) (before : x / key.0 + 1 ≡ t / key.0) (looked_at : get_elem? (log_at side v) 0 ≡ mathlib.Core.Option.some (SawEntry t x))
      (saw : get_elem? (log_at side v) 1 ≡ mathlib.Core.Option.some (SawTail t)) (is_entry : second ≡ entry_of key.0 t item) where
    abbrev pub Put : ℕ → Type 0
    Put new = After (InRing side (32 + t % key.0)) new (Puts key.0 side t x item v ((ring_now side).entry (t % key.0)))

    put_one : (ring_now side).entry (t % key.0) ≡ x → Put second
    put_one found =
        let u : QueueView = does side (Pushed t item) v in
        let mine : Holds held_by item v = may.0 in
        let slot_lt : t % key.0 < key.0 = mod-lt t (holds.rings.rings 0 first side).fine.size in
        let w' : Words = ring_of key.0 (words_then (InRing side (32 + t % key.0)) second) side in
        let set_one : SetsEntry key.0 (ring_now side) w' (t % key.0) second = entry_set key.0 s.words holds.wide second side (t % key.0) slot_lt in
        let sets : SetsEntry key.0 (ring_now side) w' (t % key.0) (entry_of key.0 t item) = record { head = set_one.head; tail = set_one.tail; here = set_one.here ∙ is_entry; others = set_one.others } in
        let here = put QueueView key.0 (log_at side) held_by (in_other side) (ring_now side) s.views id v at (holds.rings.rings 0 first side) (holds.rings.worn 0 first side) (owned_at side) t x item before looked_at saw w' u fresh mine
        (holds_some item v mine) found sets (does_logs side (Pushed t item) v) (λ f. without_weighs f item v.held mine) in
        let weight : (i : ℕ) → line_weight key.0 w' (is_number i) ≡ line_weight key.0 (ring_now side) (is_number i) + is_number i item = λ i. ap (weigh (λ (e : ℕ × ℕ). is_number i e.1)) here.2 ∙ weigh_push (λ (e : ℕ × ℕ). is_number i e.1) (line_of key.0 (ring_now side)) (t, item) in (
          u,
          keeps,
          tt,
          kept side (32 + t % key.0) second (Pushed t item) (slot_real side t) here.0 (
            moved_moves (pushes_of 0 side) (pops_of 0 side) key.0 (begun_with key.0 key.1 0 side) (ring_now side) w' s.views id v u at
                (λ g. omega (arith, ap (weigh (λ (a : ℕ × ℕ). g a.0 a.1)) here.2, weigh_push (λ (a : ℕ × ℕ). g a.0 a.1) (line_of key.0 (ring_now side)) (t, item), puts_more side (Pushed t item) g, takes_more side (Pushed t item) g)) (holds.history.moved 0 first side),
            emptied_stays (pops_of 0 side) key.1 (ring_now side) w' s.views id v u at sets.head (λ g. omega (arith, takes_more side (Pushed t item) g)) (holds.history.emptied 0 first side),
          )
              (λ i lt is_free is_in. elim (cases_lt 0 (is_number i item)) [
                | inl it ↦
                    let same : item ≡ i = is_number_some i item it in
                    let said : last_tag item v.items ≡ Some 0 = subst (λ (a : Side). FitsRing a (last_tag item v.items) (is_armed item v.items)) is_free may.1 in
                    subst (λ (j : ℕ). word_of key.0 s.words (TagOf j) ≡ 0) same (tag_zero item (subst (λ (j : ℕ). j < key.0) (sym same) lt) mine said)
                | inr none ↦
                    let was_in : IsIn i key.0 (ring_now side) = omega (arith, is_in, weight i, none) in
                    holds.free 0 first i lt (subst (λ (a : Side). IsIn i key.0 (ring_now a)) is_free was_in)
              ])
              (known_less u (put_tag side t item v mine) (put_run side t item v mine) (put_part side t item v mine)),
          (refl, record { won = λ won. (refl, here.1); missed = λ other. absurd (other found) }),
        )

    put_none : (ring_now side).entry (t % key.0) ≢ x → Put ((ring_now side).entry (t % key.0))
    put_none other =
        let found : ℕ = (ring_now side).entry (t % key.0) in (
          does side (SawEntry t found) v,
          keeps,
          tt,
          seen_entry side t,
          (
            refl,
            record {
              won = λ won. absurd (other won);
              missed = λ lost. (refl, later_entry QueueView key.0 (log_at side) held_by (in_other side) (ring_now side) s.views id v at (holds.rings.rings 0 first side) (holds.rings.worn 0 first side) (owned_at side) t x item before looked_at saw other);
            },
          ),
        )

    pub puts : Put (either (eqb ((ring_now side).entry (t % key.0)) x) second ((ring_now side).entry (t % key.0)))
    puts = exchanged ((ring_now side).entry (t % key.0)) x second Put put_one put_none

  -- ---- a head exchange

  -- what the seat knows of an item that it takes, where it was in the ring
  known_took : (side : Side) (place item : ℕ) → item < key.0 → IsIn item key.0 (ring_now side) → KnownThen (does side (Popped place item) v)
  known_took side place item item_lt was_in =
      let u : QueueView = does side (Popped place item) v in
      record {
        tags_then = λ tag' stays. tags_known_one QueueView tag_said held_of (one_queue key.0) (queue_words key.0 s.words).tag tag' s.views id v u at stays 0 item
            (λ r i r_lt apart mine. ⊎_elim (λ ne. absurd (ne (omega (arith, r_lt)))) (λ ne. (took_other item i v.held ne mine, λ y told. told_else item i (tag_got side) (last_tag i v.items) y ne told)) apart)
            (λ y told. tag_so side was_in tag' stays y (told_here item (tag_got side) (last_tag item v.items) y told))
            holds.tags;
        runs_then = λ run' stays. words_known_one QueueView run_said held_of (one_queue key.0) (queue_words key.0 s.words).run run' s.views id v u at stays 0 item
            (λ r i r_lt apart mine. ⊎_elim (λ ne. absurd (ne (omega (arith, r_lt)))) (λ ne. (took_other item i v.held ne mine, λ y told. told_else item i None (last_run i v.items) y ne told)) apart)
            (λ y told. let is : None ≡ Some y = told_here item None (last_run item v.items) y told in absurd (cc is))
            holds.runs;
        parts_then = λ part' stays. words_known_one QueueView part_said held_of (one_queue key.0) (queue_words key.0 s.words).part part' s.views id v u at stays 0 item
            (λ r i r_lt apart mine. ⊎_elim (λ ne. absurd (ne (omega (arith, r_lt)))) (λ ne. (took_other item i v.held ne mine, λ y told. told_else item i None (last_part i v.items) y ne told)) apart)
            (λ y told. let is : None ≡ Some y = told_here item None (last_part item v.items) y told in absurd (cc is))
            holds.parts;
      }
    where
      tag_so : (a : Side) → IsIn item key.0 (ring_now a) → (tag' : ℕ → ℕ → ℕ) → WordsStay (one_queue key.0) (queue_words key.0 s.words).tag tag' → (y : ℕ) → tag_got a ≡ Some y → (tag' 0 item ≡ y) ⊎ (tag' 0 item ≡ 0)
      tag_so Free was_free tag' stays y is = inr (stays 0 first item item_lt ∙ holds.free 0 first item item_lt was_free)
      tag_so Line was_line tag' stays y is = absurd (cc is)

  module _ (side : Side) (h x : ℕ) (full : x / key.0 ≡ h / key.0) (looked_at : get_elem? (log_at side v) 0 ≡ mathlib.Core.Option.some (SawEntry h x)) (saw : get_elem? (log_at side v) 1 ≡ mathlib.Core.Option.some (SawHead h)) where
    abbrev pub Take : ℕ → Type 0
    Take new = After (InRing side 0) new (Takes key.0 side h (x % key.0) v (ring_now side).head)

    take_one : (ring_now side).head ≡ h → Take (h + 1)
    take_one found =
        let item : ℕ = x % key.0 in
        let item_lt : item < key.0 = mod-lt x (holds.rings.rings 0 first side).fine.size in
        let u : QueueView = does side (Popped h item) v in
        let w' : Words = ring_of key.0 (words_then (InRing side 0) (h + 1)) side in
        let sets = head_set key.0 s.words holds.wide (h + 1) side in
        let here = took QueueView key.0 (log_at side) held_by (in_other side) (ring_now side) s.views id v at (holds.rings.rings 0 first side) (holds.rings.worn 0 first side) (owned_at side) h x full looked_at saw w' u found sets
        (does_logs side (Popped h item) v) (λ f. refl) in
        let weight : (i : ℕ) → line_weight key.0 (ring_now side) (is_number i) ≡ is_number i item + line_weight key.0 w' (is_number i) = λ i. ap (weigh (λ (e : ℕ × ℕ). is_number i e.1)) here.2 in
        let was_in : IsIn item key.0 (ring_now side) = omega (arith, weight item, is_number_same item) in (
          u,
          keeps,
          tt,
          kept side 0 (h + 1) (Popped h item) (omega arith) here.0 (
            moved_moves (pushes_of 0 side) (pops_of 0 side) key.0 (begun_with key.0 key.1 0 side) (ring_now side) w' s.views id v u at
                (λ g. omega (arith, ap (weigh (λ (a : ℕ × ℕ). g a.0 a.1)) here.2, puts_more side (Popped h item) g, takes_more side (Popped h item) g)) (holds.history.moved 0 first side),
            emptied_one (pops_of 0 side) key.1 (ring_now side) w' s.views id v u at item (sets.head ∙ ap (λ (m : ℕ). m + 1) (sym found))
                (λ g. takes_more side (Popped h item) g ∙ ap (λ (p : ℕ). g p item + pops_of 0 side g v) (sym found)) (holds.history.emptied 0 first side),
          )
              (λ i lt is_free is_in.
              let was : IsIn i key.0 (ring_now side) = omega (arith, is_in, weight i) in
              holds.free 0 first i lt (subst (λ (a : Side). IsIn i key.0 (ring_now a)) is_free was))
              (known_took side h item item_lt was_in),
          (refl, record { won = λ won. (refl, here.1); missed = λ other. absurd (other found) }),
        )

    take_none : (ring_now side).head ≢ h → Take (ring_now side).head
    take_none other =
        let u : QueueView = does side (SawHead (ring_now side).head) v in (
          u,
          keeps,
          tt,
          seen side 0 (SawHead (ring_now side).head) (omega arith) (omega arith) (λ f. refl) (λ g. refl) (λ g. refl) (known_same u refl refl),
          (
            refl,
            record {
              won = λ won. absurd (other won);
              missed = λ lost. (refl, later_head QueueView key.0 (log_at side) held_by (in_other side) (ring_now side) s.views id v at (holds.rings.rings 0 first side) (holds.rings.worn 0 first side) (owned_at side) h x full looked_at saw other);
            },
          ),
        )

    pub takes : Take (either (eqb (ring_now side).head h) (h + 1) (ring_now side).head)
    takes = exchanged (ring_now side).head h (h + 1) Take take_one take_none

  -- ---- a tail exchange

  module _ (side : Side) (t : ℕ) (shown : ShowsFilled key.0 t (log_at side v)) where
    abbrev pub Help : ℕ → Type 0
    Help new = After (InRing side 16) new (Helps side t v)

    help : (ring_now side).tail ≡ t → Help (t + 1)
    help found =
        let u : QueueView = does side (SawTail (t + 1)) v in
        let w' : Words = ring_of key.0 (words_then (InRing side 16) (t + 1)) side in
        let sets = tail_set key.0 s.words holds.wide (t + 1) side in
        let here = helped QueueView key.0 (log_at side) held_by (in_other side) (ring_now side) s.views id v at (holds.rings.rings 0 first side) (holds.rings.worn 0 first side) (owned_at side) t shown w' u found sets
        (does_logs side (SawTail (t + 1)) v) (λ f. refl) in (
          u,
          keeps,
          tt,
          kept side 16 (t + 1) (SawTail (t + 1)) (omega arith) here.0 (same_history side (SawTail (t + 1)) w' (λ g. refl) (λ g. refl) here.1 sets.head)
              (λ i lt is_free is_in.
              let was : IsIn i key.0 (ring_now side) = omega (arith, is_in, ap (weigh (λ (e : ℕ × ℕ). is_number i e.1)) here.1) in
              holds.free 0 first i lt (subst (λ (a : Side). IsIn i key.0 (ring_now a)) is_free was))
              (known_same u refl refl),
          (refl, record { tail = t + 1; past = omega arith; view = refl }),
        )

    helped_before : (ring_now side).tail ≢ t → Help (ring_now side).tail
    helped_before other =
        let u : QueueView = does side (SawTail (ring_now side).tail) v in (
          u,
          keeps,
          tt,
          seen side 16 (SawTail (ring_now side).tail) (omega arith) (omega arith) (λ f. refl) (λ g. refl) (λ g. refl) (known_same u refl refl),
          (
            refl,
            record {
              tail = (ring_now side).tail;
              past = past QueueView key.0 (log_at side) held_by (in_other side) (ring_now side) s.views id v at (holds.rings.rings 0 first side) (holds.rings.worn 0 first side) (owned_at side) t shown other;
              view = refl;
            },
          ),
        )

    pub helps : Help (either (eqb (ring_now side).tail t) (t + 1) (ring_now side).tail)
    helps = exchanged (ring_now side).tail t (t + 1) Help help helped_before
