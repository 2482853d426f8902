-- That all is held right is the points on items and chunks, and that what a core names is there.
use Rattle.std.proofs.Common.{◌≡◌, ◌≢◌, ℕ, zero, suc, ◌+◌, ◌^◌, ◌<◌, ◌≤◌, ◌==◌, ◌&&◌, Bool, List, [], ◌∷◌, length, get_or, refl, sym, ap, ◌∙◌, arith, inl, inr}
use Rattle.std.proofs.lemmas.Bool.{cases_lt, cases_eq, lt-ltb, le-ltb, eq-eqb, ne_eqb}
use Rattle.std.proofs.lemmas.List.{get_or_past}
use Rattle.unit_model.proofs.HeldItems.{CountsBy, counts_at, free_word, word_of_free}
use Rattle.unit_model.proofs.Weights.{weigh_at, weigh_some, is_number_same, is_number_some, below_same, below_none, below_is}
use Rattle.unit_model.specs.Core.{blank, queue_of, item_of, owner_of, whereabouts_code}
use Rattle.unit_model.specs.Holding.{IsHeldRight, HasItsShape, HasNoStreamZero, AreConsecutive, entries_of, is_in_free_list, is_in_line}
use Rattle.unit_model.specs.Sound.{HasSoundHoldings, NamesWhatIsThere, RunsUpTo, HasNoTag, HasNoChunkWithSeats, no_entry, place_at, item_at}
use Rattle.unit_model.specs.Weights.{below, one_if, is_number}
use Rattle.unit_model.specs.declared.machine.Core.{Core}
use Rattle.unit_model.specs.declared.machine.Entry.{Entry}
use Rattle.unit_model.specs.declared.machine.Item.{Item}
use Rattle.unit_model.specs.declared.machine.Owner.{Owner}
use Rattle.unit_model.specs.declared.machine.Owner.TheVariants.{Free, Seat, Message}
use Rattle.unit_model.specs.declared.machine.Whereabouts.{Whereabouts}
use Rattle.unit_model.specs.declared.machine.Whereabouts.TheVariants.{InFreeList, InLine, WithSeat}

-- ---- places by their indices

next_by_index : (entries : List Entry) (next : ℕ) → AreConsecutive entries next → (i : ℕ) → suc i < length entries → place_at entries (suc i) ≡ place_at entries i + 1
next_by_index [] next all i inside = absurd (omega arith)
next_by_index (x ∷ []) next all i inside = absurd (omega arith)
next_by_index (x ∷ y ∷ entries) next all zero inside = sym all.0
next_by_index (x ∷ y ∷ entries) next all (suc i) inside = next_by_index (y ∷ entries) next all.1 i (omega arith)

last_by_index : (entries : List Entry) (next : ℕ) → AreConsecutive entries next → (i : ℕ) → suc i ≡ length entries → place_at entries i + 1 ≡ next
last_by_index [] next all i last = absurd (omega arith)
last_by_index (x ∷ []) next all zero last = all.0
last_by_index (x ∷ []) next all (suc i) last = absurd (omega arith)
last_by_index (x ∷ y ∷ entries) next all zero last = absurd (omega arith)
last_by_index (x ∷ y ∷ entries) next all (suc i) last = last_by_index (y ∷ entries) next all.1 i (omega arith)

pub by_index : (entries : List Entry) (next : ℕ) → AreConsecutive entries next → RunsUpTo entries next
by_index entries next all = (
  (λ i inside. let one : i + 1 ≡ suc i = omega arith in rw one (next_by_index entries next all i (omega arith))),
  (λ i last. last_by_index entries next all i (omega arith)),
)

from_index : (entries : List Entry) (next : ℕ) → ((i : ℕ) → suc i < length entries → place_at entries (suc i) ≡ place_at entries i + 1) → ((i : ℕ) → suc i ≡ length entries → place_at entries i + 1 ≡ next) → AreConsecutive entries next
from_index [] next more last = tt
from_index (x ∷ []) next more last = (last zero refl, tt)
from_index (x ∷ y ∷ entries) next more last =
    (sym (more zero (omega arith)), from_index (y ∷ entries) next (λ i inside. more (suc i) (omega arith)) (λ i end. last (suc i) (omega arith)))

pub consecutive_by_index : (entries : List Entry) (next : ℕ) → RunsUpTo entries next → AreConsecutive entries next
consecutive_by_index entries next all =
    from_index entries next
    (λ i inside. let one : i + 1 ≡ suc i = omega arith in rw one at (all.0 i (omega arith)))
    (λ i last. all.1 i (omega arith))

-- ---- entries

-- what stands in a list counts there
entry_counts : (entries : List Entry) (i : ℕ) → i < length entries → 1 ≤ entries_of (item_at entries i) entries
entry_counts entries i inside =
    omega (arith, weigh_at (λ (e : Entry). is_number (item_at entries i) e.item) entries i no_entry inside, is_number_same (item_at entries i))

-- and what counts stands there
counted_entry : (entries : List Entry) (item : ℕ) → 1 ≤ entries_of item entries → (i : ℕ) × (i < length entries) × (item_at entries i ≡ item)
counted_entry entries item some =
    let found = weigh_some (λ (e : Entry). is_number item e.item) entries no_entry some in
    (found.0, found.1, is_number_some item (item_at entries found.0) found.2)

-- what counts in a list that goes by the items' words is there
counted_is_there : (test : Whereabouts → Bool) (items : List Item) (entries : List Entry) (item : ℕ) → CountsBy test items entries → 1 ≤ entries_of item entries → item < length items
counted_is_there test items entries item counts some =
    elim (cases_lt item (length items)) [
      | inl there ↦ there
      | inr past ↦ let none : entries_of item entries ≡ 0 = counts item ∙ ap (λ (b : Bool). one_if (b && test (get_or items item blank).whereabouts)) (le-ltb item (length items) past) in absurd (omega (arith, some, none))
    ]

-- an item that isn't there is blank
not_there : (core : Core) (queue item : ℕ) → length (queue_of core queue).items ≤ item → item_of core queue item ≡ blank
not_there core queue item past = get_or_past (queue_of core queue).items item blank past

-- an item with a tag is there
armed_is_there : (core : Core) (queue item : ℕ) → (item_of core queue item).tag ≢ 0 → item < length (queue_of core queue).items
armed_is_there core queue item armed =
    elim (cases_lt item (length (queue_of core queue).items)) [
      | inl there ↦ there
      | inr past ↦ absurd (armed (ap (λ (x : Item). x.tag) (not_there core queue item past)))
    ]

-- ---- seats that hold an item

-- how many seats of so many the word names
abbrev pub seats_of : Whereabouts → ℕ → ℕ
seats_of w n = below (λ seat. one_if (whereabouts_code w == 1 + seat)) n

free_with_none : (n : ℕ) → seats_of InFreeList n ≡ 0
free_with_none n = below_none (λ seat. one_if (0 == 1 + seat)) n (λ seat low. ap one_if (ne_eqb 0 (1 + seat) (omega arith)))

line_with_none : (n : ℕ) → n < 2 ^ 32 → seats_of InLine n ≡ 0
line_with_none n low = below_none (λ seat. one_if (2 ^ 32 == 1 + seat)) n (λ seat under. ap one_if (ne_eqb (2 ^ 32) (1 + seat) (omega arith)))

same_seat : (k seat : ℕ) → one_if (1 + k == 1 + seat) ≡ is_number k seat
same_seat k seat =
    elim (cases_eq seat k) [
      | inl same ↦ let both : 1 + k ≡ 1 + seat = omega (arith, same) in ap one_if (eq-eqb (1 + k) (1 + seat) both ∙ sym (eq-eqb seat k same))
      | inr other ↦ let apart : 1 + k ≢ 1 + seat = omega (arith, other) in ap one_if (ne_eqb (1 + k) (1 + seat) apart ∙ sym (ne_eqb seat k other))
    ]

with_one : (k n : ℕ) → k < n → seats_of (WithSeat k) n ≡ 1
with_one k n low = below_same (λ seat. one_if (1 + k == 1 + seat)) (is_number k) n (λ seat under. same_seat k seat) ∙ below_is n k low

-- ---- from all is held right to the points

one_place : (free line seats n : ℕ) (w : Whereabouts) → n < 2 ^ 32 → free ≡ one_if (is_in_free_list w) → line ≡ one_if (is_in_line w) → ((k : ℕ) → w ≡ WithSeat k → k < n) → seats ≡ seats_of w n → free + line + seats ≡ 1
one_place free line seats n InFreeList low in_free in_line there all = omega (arith, in_free, in_line, all, free_with_none n)
one_place free line seats n InLine low in_free in_line there all = omega (arith, in_free, in_line, all, line_with_none n low)
one_place free line seats n (WithSeat k) low in_free in_line there all = omega (arith, in_free, in_line, all, with_one k n (there k refl))

few_seats : (core : Core) → HasItsShape core → core.shape.engines + core.shape.workers < 2 ^ 32
few_seats core shape = omega (arith, shape.shape.engines.1, shape.shape.workers.1)

pub sound_from_held : (core : Core) → IsHeldRight core → HasSoundHoldings core
sound_from_held core held = record {
  messages = λ number queue item. (held.owners.messages number queue item, (λ both. held.owners.runs number queue item both.0 both.1));
  places = λ queue item inside.
      let q = queue_of core queue in
      one_place (entries_of item q.free) (entries_of item q.line) (seats_of (item_of core queue item).whereabouts (core.shape.engines + core.shape.workers)) (core.shape.engines + core.shape.workers) (item_of core queue item).whereabouts (few_seats core held.shape)
      (counts_at is_in_free_list q.items q.free item inside (held.queues queue).free) (counts_at is_in_line q.items q.line item inside (held.queues queue).line) ((held.queues queue).held item) refl;
  tags = λ queue item. (held.queues queue).tags item;
  consecutive = λ queue. (by_index _ _ (held.queues queue).free_places, by_index _ _ (held.queues queue).line_places);
  untagged = λ queue i inside.
      let q = queue_of core queue in
      let item = item_at q.free i in
      let some = entry_counts q.free i inside in
      let there = counted_is_there is_in_free_list q.items q.free item (held.queues queue).free some in
      let word = word_of_free _ _ (sym (counts_at is_in_free_list q.items q.free item there (held.queues queue).free)) some in
      (held.queues queue).untagged item (free_word _ word);
  fits = held.owners.fits;
  opened = (held.segments.out, held.segments.back);
  unopened = held.segments.unopened;
}

pub names_from_held : (core : Core) → IsHeldRight core → NamesWhatIsThere core
names_from_held core held = record {
  shape = held.shape;
  seats = held.owners.seats;
  messages = λ number queue item is. armed_is_there core queue item (held.owners.messages number queue item is).0;
  free = λ queue i inside. let q = queue_of core queue in counted_is_there is_in_free_list q.items q.free (item_at q.free i) (held.queues queue).free (entry_counts q.free i inside);
  line = λ queue i inside. let q = queue_of core queue in counted_is_there is_in_line q.items q.line (item_at q.line i) (held.queues queue).line (entry_counts q.line i inside);
  in_free_list = λ queue item inside is.
      let q = queue_of core queue in
      let one : entries_of item q.free ≡ 1 = counts_at is_in_free_list q.items q.free item inside (held.queues queue).free ∙ ap (λ w. one_if (is_in_free_list w)) is in
      omega (arith, one);
  in_line = λ queue item inside is.
      let q = queue_of core queue in
      let one : entries_of item q.line ≡ 1 = counts_at is_in_line q.items q.line item inside (held.queues queue).line ∙ ap (λ w. one_if (is_in_line w)) is in
      omega (arith, one);
  with_seat = λ queue. (held.queues queue).held;
}

-- ---- from the points to all is held right

-- an item in one place is where its word says
free_by_word : (free line seats n : ℕ) (w : Whereabouts) → free + line + seats ≡ 1 → (w ≡ InFreeList → 1 ≤ free) → (w ≡ InLine → 1 ≤ line) → ((k : ℕ) → w ≡ WithSeat k → k < n) → seats ≡ seats_of w n → free ≡ one_if (is_in_free_list w)
free_by_word free line seats n InFreeList one in_free in_line there all = omega (arith, one, in_free refl)
free_by_word free line seats n InLine one in_free in_line there all = omega (arith, one, in_line refl)
free_by_word free line seats n (WithSeat k) one in_free in_line there all = omega (arith, one, all, with_one k n (there k refl))

line_by_word : (free line seats n : ℕ) (w : Whereabouts) → free + line + seats ≡ 1 → (w ≡ InFreeList → 1 ≤ free) → (w ≡ InLine → 1 ≤ line) → ((k : ℕ) → w ≡ WithSeat k → k < n) → seats ≡ seats_of w n → line ≡ one_if (is_in_line w)
line_by_word free line seats n InFreeList one in_free in_line there all = omega (arith, one, in_free refl)
line_by_word free line seats n InLine one in_free in_line there all = omega (arith, one, in_line refl)
line_by_word free line seats n (WithSeat k) one in_free in_line there all = omega (arith, one, all, with_one k n (there k refl))

-- a list whose entries are there and count by the words
counts_by_words : (test : Whereabouts → Bool) (items : List Item) (entries : List Entry) → ((i : ℕ) → i < length entries → item_at entries i < length items) → ((item : ℕ) → item < length items → entries_of item entries ≡ one_if (test (get_or items item blank).whereabouts)) → CountsBy test items entries
counts_by_words test items entries there counts item =
    elim (cases_lt item (length items)) [
      | inl inside ↦ counts item inside ∙ sym (ap (λ (b : Bool). one_if (b && test (get_or items item blank).whereabouts)) (lt-ltb item (length items) inside))
      | inr past ↦
          let none : entries_of item entries ≡ 0 = elim (cases_lt 0 (entries_of item entries)) [
            | inl some ↦ let found = counted_entry entries item some in absurd (omega (arith, there found.0 found.1, found.2, past))
            | inr least ↦ omega (arith, least)
          ] in
          none ∙ sym (ap (λ (b : Bool). one_if (b && test (get_or items item blank).whereabouts)) (le-ltb item (length items) past))
    ]

pub held_from_sound : (core : Core) → HasSoundHoldings core → NamesWhatIsThere core → HasNoStreamZero core → IsHeldRight core
held_from_sound core sound names streams = record {
  shape = names.shape;
  queues = λ queue.
      let q = queue_of core queue in
      let n = core.shape.engines + core.shape.workers in
      record {
        free = counts_by_words is_in_free_list q.items q.free (names.free queue) (λ item inside.
            free_by_word (entries_of item q.free) (entries_of item q.line) (seats_of (item_of core queue item).whereabouts n) n (item_of core queue item).whereabouts
            (sound.places queue item inside) (names.in_free_list queue item inside) (names.in_line queue item inside) (names.with_seat queue item) refl);
        line = counts_by_words is_in_line q.items q.line (names.line queue) (λ item inside.
            line_by_word (entries_of item q.free) (entries_of item q.line) (seats_of (item_of core queue item).whereabouts n) n (item_of core queue item).whereabouts
            (sound.places queue item inside) (names.in_free_list queue item inside) (names.in_line queue item inside) (names.with_seat queue item) refl);
        held = names.with_seat queue;
        free_places = consecutive_by_index q.free q.next_free (sound.consecutive queue).0;
        line_places = consecutive_by_index q.line q.next_line (sound.consecutive queue).1;
        untagged = λ item is. elim (cases_lt item (length q.items)) [
          | inl inside ↦
              let found = counted_entry q.free item (names.in_free_list queue item inside is) in
              ap (λ (k : ℕ). (item_of core queue k).tag) (sym found.2) ∙ sound.untagged queue found.0 found.1
          | inr past ↦ ap (λ (x : Item). x.tag) (not_there core queue item past)
        ];
        tags = sound.tags queue;
      };
  owners = record {
    messages = λ number queue item is. (sound.messages number queue item).0 is;
    runs = λ number queue item armed within. (sound.messages number queue item).1 (armed, within);
    fits = sound.fits;
    seats = names.seats;
  };
  segments = record { out = sound.opened.0; back = sound.opened.1; unopened = sound.unopened };
  streams = streams;
}

-- ---- a core at rest

by_owner : (core : Core) (number : ℕ) (owner : Owner) → owner_of core number ≡ owner → IsHeldRight core → HasNoTag core → HasNoChunkWithSeats core → owner_of core number ≡ Free
by_owner core number Free is held untagged none = is
by_owner core number (Seat seat) is held untagged none = absurd (none number seat is)
by_owner core number (Message queue item) is held untagged none = absurd ((held.owners.messages number queue item is).0 (untagged queue item))

pub all_free_at_rest : (core : Core) → IsHeldRight core → HasNoTag core → HasNoChunkWithSeats core → (number : ℕ) → owner_of core number ≡ Free
all_free_at_rest core held untagged none number = by_owner core number (owner_of core number) refl held untagged none
