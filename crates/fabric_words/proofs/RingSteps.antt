-- Steps that change a word of a ring, and tails that are moved on.
use Rattle.std.proofs.Common.{ℕ, ◌+◌, ◌-◌, ◌/◌, ◌%◌, ◌≡◌, ◌≢◌, ◌<◌, ◌&&◌, inl, inr, Bool, true, false, List, [], ◌∷◌, ◌++◌, drop, length, get_or, set, map, refl, sym, ap, ap₂, ◌∙◌, subst, arith, get_or-set_same, get_or-set_other}
use Rattle.std.proofs.lemmas.Bool.{cases_eq}
use Rattle.std.proofs.lemmas.List.{map-append, length-map}
use Rattle.nncq_ring.specs.Words.{Words, entry_of, logical_tail, line_of, SetsEntry, SetsHead, SetsTail}
use Rattle.nncq_ring.proofs.Exchanges.{places_long, tail_at, pushed_fine, pushed_tail, pushed_line, popped_fine, popped_tail, popped_line, helped_fine, helped_tail, helped_line}
use Rattle.unit_model.proofs.Introductions.{met_either, met_fill, met_holds, met_tagged, met_next_in_line, met_pop_role, met_empty, met_first_in_line, met_first_item_in_line, met_use, met_tag, met_next_free, met_first_free, met_first_free_item}
use Rattle.unit_model.proofs.ItemChanges.{queue_there}
use Rattle.unit_model.proofs.Presence.{hand_is_there, engine_is_low, twice_here, twice_elsewhere}
use Rattle.unit_model.proofs.Rooms.{list_has_room, entry_is_there}
use Rattle.unit_model.specs.Conditions.{conditions_by}
use Rattle.unit_model.specs.Core.{blank, no_queue, queue_of, item_of, first_place, first_item}
use Rattle.unit_model.specs.Effects.{after_step, with_item, with_in_line, without_first_in_line, with_free, without_first_free}
use Rattle.unit_model.specs.Holding.{items_of, entries_of, has_item, item_in, is_in_line, is_in_free_list}
use Rattle.unit_model.specs.Lists.{change_at}
use Rattle.unit_model.specs.Premises.{Empties, Worker, Engine}
use Rattle.unit_model.specs.Running.{Enabled}
use Rattle.unit_model.specs.Sound.{no_entry}
use Rattle.unit_model.specs.Weights.{one_if}
use Rattle.unit_model.specs.declared.machine.Core.{Core}
use Rattle.unit_model.specs.declared.machine.Entry.{Entry}
use Rattle.unit_model.specs.declared.machine.Item.{Item}
use Rattle.unit_model.specs.declared.machine.Queue.{Queue}
use Rattle.unit_model.specs.declared.machine.Step.TheVariants.{GetItem, GiveItem, Push, Pop}
use Rattle.unit_model.specs.declared.machine.Whereabouts.{Whereabouts}
use Rattle.unit_model.specs.declared.machine.Whereabouts.TheVariants.{InFreeList, InLine, WithSeat}
use Rattle.fabric_words.specs.Laws.{PushLaw, PopLaw, GetItemLaw, GiveItemLaw, HelpLaw}
use Rattle.fabric_words.specs.Needs.{IsVacant, IsFirst}
use Rattle.fabric_words.specs.Places.{HasItem, Sets, queues_of, ring_of, is_of_rings, is_of_ring}
use Rattle.fabric_words.specs.Shown.{entry_at, ShowsList, ShowsItem, Shows}
use Rattle.fabric_words.specs.declared.place.Place.{Place}
use Rattle.fabric_words.specs.declared.place.Place.TheVariants.{NextStream, OpenedOut, OpenedBack, Head, Tail, Slot, Tag, RunWord, PartWord, Chunks}
use Rattle.fabric_words.specs.declared.place.Side.{Side}
use Rattle.fabric_words.specs.declared.place.Side.TheVariants.{FreeSide, LineSide}
use Rattle.fabric_words.proofs.Frames.{other_queue, other_side, list_stays, item_stays, chunk_stays, item_there, step_of}

-- ---- one queue changes

-- the item says the same words
pub record SaysSame (old new : Item) : Type 0 where
  pub tag : new.tag ≡ old.tag
  pub run : new.run ≡ old.run
  pub part : new.part ≡ old.part

same_item : (item : Item) → SaysSame item item
same_item item = record { tag = refl; run = refl; part = refl }

same_says : (word : Place → ℕ) (queue item : ℕ) (old new : Item) → SaysSame old new → ShowsItem word queue item old → ShowsItem word queue item new
same_says word queue item old new same shows = record { tag = shows.tag ∙ sym same.tag; run = shows.run ∙ sym same.run; part = shows.part ∙ sym same.part }

set_says : (items : List Item) (item : ℕ) (new : Item) → item < length items → SaysSame (get_or items item blank) new → (i : ℕ) → SaysSame (get_or items i blank) (get_or (set items item new) i blank)
set_says items item new inside same i =
    elim (cases_eq i item) [
      | inl is ↦ subst (λ (k : ℕ). SaysSame (get_or items k blank) (get_or (set items item new) k blank)) (sym is) (subst (λ (n : Item). SaysSame (get_or items item blank) n) (sym (get_or-set_same items item new blank inside)) same)
      | inr other ↦ let stays = get_or-set_other items item i new blank other in record { tag = ap (λ (n : Item). n.tag) stays; run = ap (λ (n : Item). n.run) stays; part = ap (λ (n : Item). n.part) stays }
    ]

-- A word of one ring of a queue is set. The queue is this one then, and both its rings show it.
module _ (word word' : Place → ℕ) (core : Core) (shows : Shows word core) (queue : ℕ) (queues : List Queue) (now : Queue) (place : Place) (x : ℕ) (sets : Sets core.shape word word' place x) where
  pub ring_step : get_or queues queue no_queue ≡ now
      → ((q : ℕ) → q ≢ queue → get_or queues q no_queue ≡ queue_of core q)
      → is_of_rings place ≡ true
      → ((q : ℕ) (side : Side) → q ≢ queue → is_of_ring q side place ≡ false)
      → ShowsList (items_of core.shape queue) (ring_of word' queue FreeSide) now.free now.next_free
      → ShowsList (items_of core.shape queue) (ring_of word' queue LineSide) now.line now.next_line
      → ((i : ℕ) → SaysSame (item_of core queue i) (get_or now.items i blank))
      → Shows word' (record core { queues = queues })
  ring_step here elsewhere ring off free line items = record {
    next = sets.others NextStream tt (no_ring NextStream refl) ∙ shows.next;
    out = sets.others OpenedOut tt (no_ring OpenedOut refl) ∙ shows.out;
    back = sets.others OpenedBack tt (no_ring OpenedBack refl) ∙ shows.back;
    free = λ q there. elim (cases_eq q queue) [
      | inl same ↦ subst (λ (k : ℕ). ShowsList (items_of core.shape k) (ring_of word' k FreeSide) (get_or queues k no_queue).free (get_or queues k no_queue).next_free) (sym same)
          (subst (λ (k : Queue). ShowsList (items_of core.shape queue) (ring_of word' queue FreeSide) k.free k.next_free) (sym here) free)
      | inr other ↦ subst (λ (k : Queue). ShowsList (items_of core.shape q) (ring_of word' q FreeSide) k.free k.next_free) (sym (elsewhere q other))
          (list_stays core.shape word word' place x sets q FreeSide (queue_of core q).free (queue_of core q).next_free there (off q FreeSide other) (shows.free q there))
    ];
    line = λ q there. elim (cases_eq q queue) [
      | inl same ↦ subst (λ (k : ℕ). ShowsList (items_of core.shape k) (ring_of word' k LineSide) (get_or queues k no_queue).line (get_or queues k no_queue).next_line) (sym same)
          (subst (λ (k : Queue). ShowsList (items_of core.shape queue) (ring_of word' queue LineSide) k.line k.next_line) (sym here) line)
      | inr other ↦ subst (λ (k : Queue). ShowsList (items_of core.shape q) (ring_of word' q LineSide) k.line k.next_line) (sym (elsewhere q other))
          (list_stays core.shape word word' place x sets q LineSide (queue_of core q).line (queue_of core q).next_line there (off q LineSide other) (shows.line q there))
    ];
    items = λ q i there.
        let stays : ShowsItem word' q i (item_of core q i) = item_stays core.shape word word' place x sets q i (item_of core q i) there (no_ring (Tag q i) refl) (no_ring (RunWord q i) refl) (no_ring (PartWord q i) refl) (shows.items q i there) in
        elim (cases_eq q queue) [
          | inl same ↦
              let says : SaysSame (item_of core q i) (get_or (get_or queues q no_queue).items i blank) =
              subst (λ (k : ℕ). SaysSame (item_of core k i) (get_or (get_or queues k no_queue).items i blank)) (sym same) (subst (λ (k : Queue). SaysSame (item_of core queue i) (get_or k.items i blank)) (sym here) (items i)) in
              same_says word' q i (item_of core q i) (get_or (get_or queues q no_queue).items i blank) says stays
          | inr other ↦ subst (λ (k : Queue). ShowsItem word' q i (get_or k.items i blank)) (sym (elsewhere q other)) stays
        ];
    chunks = λ number lt. chunk_stays core.shape word word' place x sets (λ k. no_ring (Chunks k) refl) number lt ∙ shows.chunks number lt;
  }
    where
      no_ring : (other : Place) → is_of_rings other ≡ false → other ≢ place
      no_ring other fails is = absurd (cc (ring, fails, ap is_of_rings is))

-- ---- a word of a ring is set

module _ (core : Core) (word word' : Place → ℕ) (queue x : ℕ) (side : Side) (there : queue < queues_of core.shape) where
  head_set : Sets core.shape word word' (Head queue side) x → SetsHead (items_of core.shape queue) (ring_of word queue side) (ring_of word' queue side) x
  head_set sets = record {
    head = sets.here;
    tail = sets.others (Tail queue side) there (λ is. absurd (cc is));
    entries = λ j lt. sets.others (Slot queue side j) (record { in_queues = there; in_items = lt }) (λ is. absurd (cc is));
  }

  tail_set : Sets core.shape word word' (Tail queue side) x → SetsTail (items_of core.shape queue) (ring_of word queue side) (ring_of word' queue side) x
  tail_set sets = record {
    head = sets.others (Head queue side) there (λ is. absurd (cc is));
    tail = sets.here;
    entries = λ j lt. sets.others (Slot queue side j) (record { in_queues = there; in_items = lt }) (λ is. absurd (cc is));
  }

  slot_set : (slot : ℕ) → Sets core.shape word word' (Slot queue side slot) x → SetsEntry (items_of core.shape queue) (ring_of word queue side) (ring_of word' queue side) slot x
  slot_set slot sets = record {
    head = sets.others (Head queue side) there (λ is. absurd (cc is));
    tail = sets.others (Tail queue side) there (λ is. absurd (cc is));
    here = sets.here;
    others = λ j lt ne. sets.others (Slot queue side j) (record { in_queues = there; in_items = lt }) (λ is. ne (cc is));
  }

-- ---- lists

-- what a list that is shown says of how long it is
pub shown_long : (n : ℕ) (w : Words) (entries : List Entry) (next : ℕ) → ShowsList n w entries next → length entries + w.head ≡ logical_tail n w
shown_long n w entries next shows =
    let long : length entries ≡ logical_tail n w - w.head = ap (length {A = Entry}) (sym shows.list) ∙ length-map (line_of n w) entry_at ∙ places_long n w.entry w.head (logical_tail n w - w.head) in
    omega (arith, long, shows.fine.front)

-- a value is put behind a list
list_pushed : (n : ℕ) (w w' : Words) (entries : List Entry) (next place value : ℕ) → ShowsList n w entries next → IsVacant n w place → value < n → length entries < n → SetsEntry n w w' (place % n) (entry_of n place value)
    → (place ≡ next) × ShowsList n w' (entries ++ (record { place = place; item = value }) ∷ []) (place + 1)
list_pushed n w w' entries next place value old vacant small short sets =
    let room : logical_tail n w < w.head + n = omega (arith, short, shown_long n w entries next old) in
    let at = tail_at n w place old.fine vacant.seen vacant.before in (
      sym at.0 ∙ old.behind,
      record {
        fine = pushed_fine n place value w w' old.fine vacant.seen vacant.before small room sets;
        list = ap (map entry_at) (pushed_line n place value w w' old.fine vacant.seen vacant.before small room sets)
            ∙ map-append entry_at (line_of n w) ((place, value) ∷ [])
            ∙ ap (λ (es : List Entry). es ++ (record { place = place; item = value }) ∷ []) old.list;
        behind = pushed_tail n place value w w' old.fine vacant.seen vacant.before small room sets;
      },
    )

-- the first of a list is taken
list_popped : (n : ℕ) (w w' : Words) (entries : List Entry) (next place value : ℕ) → ShowsList n w entries next → IsFirst n w place value → SetsHead n w w' (place + 1)
    → (entries ≡ (record { place = place; item = value }) ∷ drop 1 entries) × ShowsList n w' (drop 1 entries) next
list_popped n w w' entries next place value old first sets =
    let full : w.entry (w.head % n) / n ≡ w.head / n = subst (λ (p : ℕ). w.entry (p % n) / n ≡ p / n) (sym first.head) first.full in
    let sets' : SetsHead n w w' (w.head + 1) = subst (λ (p : ℕ). SetsHead n w w' (p + 1)) (sym first.head) sets in
    let value' : w.entry (w.head % n) % n ≡ value = ap (λ (p : ℕ). w.entry (p % n) % n) first.head ∙ first.has in
    let rest : List Entry = map entry_at (line_of n w') in
    let split : entries ≡ (record { place = place; item = value }) ∷ rest =
    sym old.list ∙ ap (map entry_at) (popped_line n w w' old.fine full sets') ∙ ap₂ (λ (p v : ℕ). (record { place = p; item = v }) ∷ rest) first.head value' in
    let behind : rest ≡ drop 1 entries = sym (ap (drop 1) split) in (
      split ∙ ap (λ (es : List Entry). (record { place = place; item = value }) ∷ es) behind,
      record {
        fine = popped_fine n w w' old.fine full sets';
        list = behind;
        behind = popped_tail n w w' old.fine full sets' ∙ old.behind;
      },
    )

-- the first of a list is an item that is there
first_there : (queue : Queue) (test : Whereabouts → Bool) (entries : List Entry) (entry : Entry) → ((item : ℕ) → entries_of item entries ≡ one_if (has_item queue item && test (item_in queue item).whereabouts)) → entries ≡ entry ∷ drop 1 entries → entry.item < length queue.items
first_there queue test entries entry count split =
    let some : 0 < length entries = omega (arith, ap (length {A = Entry}) split) in
    let is : (get_or entries 0 no_entry).item ≡ entry.item = ap (λ (es : List Entry). (get_or es 0 no_entry).item) split in
    omega (arith, is, entry_is_there queue test entries count 0 some)

-- ---- Push, GiveItem

pub push_step : PushLaw
unfolding conditions_by after_step with_item with_in_line
push_step seat queue item place word word' core sound shows needs sets =
    let n : ℕ = items_of core.shape queue in
    let inside : item < length (queue_of core queue).items = hand_is_there core seat queue item needs.hand in
    let there : HasItem core.shape queue item = item_there core queue item sound.held.shape inside in
    let count : length (queue_of core queue).items ≡ n = sound.held.shape.items queue there.in_queues in
    let old = shows.line queue there.in_queues in
    let off : is_in_line (item_of core queue item).whereabouts ≡ false = ap is_in_line needs.hand in
    let short = list_has_room (queue_of core queue) is_in_line (queue_of core queue).line (sound.held.queues queue).line item inside off in
    let put = slot_set core word word' queue (entry_of n place item) LineSide there.in_queues (place % n) sets in
    let pushed = list_pushed n (ring_of word queue LineSide) (ring_of word' queue LineSide) (queue_of core queue).line (queue_of core queue).next_line place item old needs.vacant there.in_items (omega (arith, short, count)) put in
    let entry : Entry = record { place = place; item = item } in
    let first : Queue → Queue = λ (q : Queue). record q { line = q.line ++ entry ∷ []; next_line = place + 1 } in
    let new : Item = record (item_of core queue item) { whereabouts = InLine } in
    let second : Queue → Queue = λ (q : Queue). record q { items = set q.items item new } in
    let present = queue_there core queue item inside in
    let enabled : Enabled core (Push seat queue item place) = rw (met_either core seat needs.fills.role, met_fill core seat queue item needs.fills inside, met_holds core seat queue item needs.hand, met_tagged core queue item (λ none. needs.armed ((shows.items queue item there).tag ∙ none)), met_next_in_line core queue place pushed.0 needs.low) refl in
    step_of word' core (Push seat queue item place) sound enabled
    (ring_step word word' core shows queue (change_at queue second (change_at queue first core.queues)) (second (first (queue_of core queue))) (Slot queue LineSide (place % n)) (entry_of n place item) sets
    (twice_here core.queues queue first second present) (twice_elsewhere core.queues queue first second) refl (λ q side other. other_queue q queue side LineSide other)
    (list_stays core.shape word word' (Slot queue LineSide (place % n)) (entry_of n place item) sets queue FreeSide (queue_of core queue).free (queue_of core queue).next_free there.in_queues (other_side queue queue FreeSide LineSide refl) (shows.free queue there.in_queues))
    pushed.1
    (set_says (queue_of core queue).items item new inside (record { tag = refl; run = refl; part = refl })))

pub give_step : GiveItemLaw
unfolding conditions_by after_step with_item with_free
give_step seat queue item place word word' core sound shows needs sets =
    let n : ℕ = items_of core.shape queue in
    let inside : item < length (queue_of core queue).items = hand_is_there core seat queue item needs.hand in
    let there : HasItem core.shape queue item = item_there core queue item sound.held.shape inside in
    let count : length (queue_of core queue).items ≡ n = sound.held.shape.items queue there.in_queues in
    let old = shows.free queue there.in_queues in
    let off : is_in_free_list (item_of core queue item).whereabouts ≡ false = ap is_in_free_list needs.hand in
    let short = list_has_room (queue_of core queue) is_in_free_list (queue_of core queue).free (sound.held.queues queue).free item inside off in
    let put = slot_set core word word' queue (entry_of n place item) FreeSide there.in_queues (place % n) sets in
    let pushed = list_pushed n (ring_of word queue FreeSide) (ring_of word' queue FreeSide) (queue_of core queue).free (queue_of core queue).next_free place item old needs.vacant there.in_items (omega (arith, short, count)) put in
    let entry : Entry = record { place = place; item = item } in
    let first : Queue → Queue = λ (q : Queue). record q { free = q.free ++ entry ∷ []; next_free = place + 1 } in
    let new : Item = record (item_of core queue item) { whereabouts = InFreeList } in
    let second : Queue → Queue = λ (q : Queue). record q { items = set q.items item new } in
    let present = queue_there core queue item inside in
    let enabled : Enabled core (GiveItem seat queue item place) = rw (met_either core seat needs.role, met_use core queue item inside, met_holds core seat queue item needs.hand, met_tag core queue item 0 (sym (shows.items queue item there).tag ∙ needs.untagged), met_next_free core queue place pushed.0 needs.low) refl in
    step_of word' core (GiveItem seat queue item place) sound enabled
    (ring_step word word' core shows queue (change_at queue second (change_at queue first core.queues)) (second (first (queue_of core queue))) (Slot queue FreeSide (place % n)) (entry_of n place item) sets
    (twice_here core.queues queue first second present) (twice_elsewhere core.queues queue first second) refl (λ q side other. other_queue q queue side FreeSide other)
    pushed.1
    (list_stays core.shape word word' (Slot queue FreeSide (place % n)) (entry_of n place item) sets queue LineSide (queue_of core queue).line (queue_of core queue).next_line there.in_queues (other_side queue queue LineSide FreeSide refl) (shows.line queue there.in_queues))
    (set_says (queue_of core queue).items item new inside (record { tag = refl; run = refl; part = refl })))

-- ---- Pop, GetItem

emptied_there : (core : Core) (seat queue : ℕ) → Empties core seat queue → queue < queues_of core.shape
emptied_there core seat queue (Worker role line) = omega (arith, line)
emptied_there core seat queue (Engine role own) = omega (arith, own, engine_is_low core seat role)

pub pop_step : PopLaw
unfolding conditions_by after_step with_item without_first_in_line
pop_step seat queue item place word word' core sound shows needs sets =
    let n : ℕ = items_of core.shape queue in
    let in_queues : queue < queues_of core.shape = emptied_there core seat queue needs.empties in
    let old = shows.line queue in_queues in
    let entry : Entry = record { place = place; item = item } in
    let popped = list_popped n (ring_of word queue LineSide) (ring_of word' queue LineSide) (queue_of core queue).line (queue_of core queue).next_line place item old needs.first (head_set core word word' queue (place + 1) LineSide in_queues sets) in
    let inside : item < length (queue_of core queue).items = first_there (queue_of core queue) is_in_line (queue_of core queue).line entry (sound.held.queues queue).line popped.0 in
    let at_place : place ≡ first_place (queue_of core queue).line (queue_of core queue).next_line = sym (ap (λ (es : List Entry). first_place es (queue_of core queue).next_line) popped.0) in
    let at_item : item ≡ first_item (queue_of core queue).line = sym (ap first_item popped.0) in
    let first : Queue → Queue = λ (q : Queue). record q { line = drop 1 q.line } in
    let new : Item = record (item_of core queue item) { whereabouts = WithSeat seat } in
    let second : Queue → Queue = λ (q : Queue). record q { items = set q.items item new } in
    let present = queue_there core queue item inside in
    let enabled : Enabled core (Pop seat queue item place) = rw (met_pop_role core seat queue needs.empties, met_empty core seat queue item needs.empties inside, met_first_in_line core queue place at_place, met_first_item_in_line core queue item at_item) refl in
    step_of word' core (Pop seat queue item place) sound enabled
    (ring_step word word' core shows queue (change_at queue second (change_at queue first core.queues)) (second (first (queue_of core queue))) (Head queue LineSide) (place + 1) sets
    (twice_here core.queues queue first second present) (twice_elsewhere core.queues queue first second) refl (λ q side other. other_queue q queue side LineSide other)
    (list_stays core.shape word word' (Head queue LineSide) (place + 1) sets queue FreeSide (queue_of core queue).free (queue_of core queue).next_free in_queues (other_side queue queue FreeSide LineSide refl) (shows.free queue in_queues))
    popped.1
    (set_says (queue_of core queue).items item new inside (record { tag = refl; run = refl; part = refl })))

pub get_step : GetItemLaw
unfolding conditions_by after_step with_item without_first_free
get_step seat queue item place word word' core sound shows needs sets =
    let n : ℕ = items_of core.shape queue in
    let old = shows.free queue needs.there in
    let entry : Entry = record { place = place; item = item } in
    let popped = list_popped n (ring_of word queue FreeSide) (ring_of word' queue FreeSide) (queue_of core queue).free (queue_of core queue).next_free place item old needs.first (head_set core word word' queue (place + 1) FreeSide needs.there sets) in
    let inside : item < length (queue_of core queue).items = first_there (queue_of core queue) is_in_free_list (queue_of core queue).free entry (sound.held.queues queue).free popped.0 in
    let at_place : place ≡ first_place (queue_of core queue).free (queue_of core queue).next_free = sym (ap (λ (es : List Entry). first_place es (queue_of core queue).next_free) popped.0) in
    let at_item : item ≡ first_item (queue_of core queue).free = sym (ap first_item popped.0) in
    let first : Queue → Queue = λ (q : Queue). record q { free = drop 1 q.free } in
    let new : Item = record (item_of core queue item) { whereabouts = WithSeat seat } in
    let second : Queue → Queue = λ (q : Queue). record q { items = set q.items item new } in
    let present = queue_there core queue item inside in
    let enabled : Enabled core (GetItem seat queue item place) = rw (met_either core seat needs.fills.role, met_fill core seat queue item needs.fills inside, met_first_free core queue place at_place, met_first_free_item core queue item at_item) refl in
    step_of word' core (GetItem seat queue item place) sound enabled
    (ring_step word word' core shows queue (change_at queue second (change_at queue first core.queues)) (second (first (queue_of core queue))) (Head queue FreeSide) (place + 1) sets
    (twice_here core.queues queue first second present) (twice_elsewhere core.queues queue first second) refl (λ q side other. other_queue q queue side FreeSide other)
    popped.1
    (list_stays core.shape word word' (Head queue FreeSide) (place + 1) sets queue LineSide (queue_of core queue).line (queue_of core queue).next_line needs.there (other_side queue queue LineSide FreeSide refl) (shows.line queue needs.there))
    (set_says (queue_of core queue).items item new inside (record { tag = refl; run = refl; part = refl })))

-- ---- a tail is moved on

list_helped : (n : ℕ) (w w' : Words) (entries : List Entry) (next place : ℕ) → ShowsList n w entries next → w.tail ≡ place → w.entry (place % n) / n ≡ place / n → SetsTail n w w' (place + 1) → ShowsList n w' entries next
list_helped n w w' entries next place old at full sets =
    let full' : w.entry (w.tail % n) / n ≡ w.tail / n = subst (λ (p : ℕ). w.entry (p % n) / n ≡ p / n) (sym at) full in
    let sets' : SetsTail n w w' (w.tail + 1) = subst (λ (p : ℕ). SetsTail n w w' (p + 1)) (sym at) sets in
    record {
      fine = helped_fine n w w' old.fine full' sets';
      list = ap (map entry_at) (helped_line n w w' old.fine full' sets') ∙ old.list;
      behind = helped_tail n w w' old.fine full' sets' ∙ old.behind;
    }

pub help_step : HelpLaw
help_step word word' core shows queue place FreeSide there at full sets =
    ring_step word word' core shows queue core.queues (queue_of core queue) (Tail queue FreeSide) (place + 1) sets refl (λ q other. refl) refl (λ q side other. other_queue q queue side FreeSide other)
    (list_helped (items_of core.shape queue) (ring_of word queue FreeSide) (ring_of word' queue FreeSide) (queue_of core queue).free (queue_of core queue).next_free place (shows.free queue there) at full (tail_set core word word' queue (place + 1) FreeSide there sets))
    (list_stays core.shape word word' (Tail queue FreeSide) (place + 1) sets queue LineSide (queue_of core queue).line (queue_of core queue).next_line there (other_side queue queue LineSide FreeSide refl) (shows.line queue there))
    (λ i. same_item (item_of core queue i))
help_step word word' core shows queue place LineSide there at full sets =
    ring_step word word' core shows queue core.queues (queue_of core queue) (Tail queue LineSide) (place + 1) sets refl (λ q other. refl) refl (λ q side other. other_queue q queue side LineSide other)
    (list_stays core.shape word word' (Tail queue LineSide) (place + 1) sets queue FreeSide (queue_of core queue).free (queue_of core queue).next_free there (other_side queue queue FreeSide LineSide refl) (shows.free queue there))
    (list_helped (items_of core.shape queue) (ring_of word queue LineSide) (ring_of word' queue LineSide) (queue_of core queue).line (queue_of core queue).next_line place (shows.line queue there) at full (tail_set core word word' queue (place + 1) LineSide there sets))
    (λ i. same_item (item_of core queue i))
