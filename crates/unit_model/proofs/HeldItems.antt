-- The items of one queue stay in place when one of them and the lists change together.
use Rattle.std.proofs.Common.{◌≡◌, ◌≢◌, ℕ, ◌+◌, ◌^◌, ◌<◌, ◌≤◌, ◌&&◌, nat_lt, Bool, true, false, List, [], ◌∷◌, ◌++◌, length, get_or, set, drop, refl, sym, ap, subst, ◌∙◌, arith, inl, inr}
use Rattle.std.proofs.lemmas.Bool.{cases_eq, lt-ltb}
use Rattle.std.proofs.lemmas.List.{get_or-set_same, get_or-set_other, length-set}
use Rattle.unit_model.proofs.Weights.{weigh_push, is_number_same, is_number_other}
use Rattle.unit_model.specs.Core.{blank, first_item}
use Rattle.unit_model.specs.Holding.{HasItsItems, AreConsecutive, entries_of, item_in, is_in_free_list, is_in_line}
use Rattle.unit_model.specs.Weights.{one_if, is_number}
use Rattle.unit_model.specs.declared.machine.Entry.{Entry}
use Rattle.unit_model.specs.declared.machine.Item.{Item}
use Rattle.unit_model.specs.declared.machine.Queue.{Queue}
use Rattle.unit_model.specs.declared.machine.Whereabouts.{Whereabouts}
use Rattle.unit_model.specs.declared.machine.Whereabouts.TheVariants.{InFreeList, InLine, WithSeat}

-- how often the item stands in the list is what its word says
abbrev pub CountsBy : (Whereabouts → Bool) → List Item → List Entry → Type 0
CountsBy test items entries =
    (item : ℕ) → entries_of item entries ≡ one_if (nat_lt item (length items) && test (get_or items item blank).whereabouts)

-- what holds of each item, where one changed
pub each_item : (P : Item → Type 0) (items : List Item) (i : ℕ) (new : Item) → i < length items → P new → (j : ℕ) → P (get_or items j blank) → P (get_or (set items i new) j blank)
each_item P items i new inside here j there =
    elim (cases_eq j i) [
      | inl same ↦ subst P (sym (ap (λ (k : ℕ). get_or (set items i new) k blank) same ∙ get_or-set_same items i new blank inside)) here
      | inr other ↦ subst P (sym (get_or-set_other items i j new blank other)) there
    ]

-- a list that changed with an item
pub counts_by : (test : Whereabouts → Bool) (items : List Item) (i : ℕ) (new : Item) (before after : List Entry) → i < length items → CountsBy test items before → ((j : ℕ) → j ≢ i → entries_of j after ≡ entries_of j before) → entries_of i after ≡ one_if (test new.whereabouts) → CountsBy test (set items i new) after
counts_by test items i new before after inside counts others here j =
    elim (cases_eq j i) [
      | inl same ↦
          let there : get_or (set items i new) j blank ≡ new = ap (λ (k : ℕ). get_or (set items i new) k blank) same ∙ get_or-set_same items i new blank inside in
          let lower : j < length (set items i new) = omega (arith, length-set items i new) in
          rw (there, lt-ltb j (length (set items i new)) lower) (ap (λ (k : ℕ). entries_of k after) same ∙ here)
      | inr other ↦
          others j other ∙ counts j ∙ rw (get_or-set_other items i j new blank other, length-set items i new) refl
    ]

-- ---- what a word says of the lists

pub word_of_free : (test : Bool) (n : ℕ) → one_if test ≡ n → 1 ≤ n → test ≡ true
word_of_free true n is some = refl
word_of_free false n is some = absurd (omega arith)

pub free_word : (w : Whereabouts) → is_in_free_list w ≡ true → w ≡ InFreeList
free_word InFreeList is = refl
free_word InLine is = absurd (cc is)
free_word (WithSeat k) is = absurd (cc is)

pub line_word : (w : Whereabouts) → is_in_line w ≡ true → w ≡ InLine
line_word InFreeList is = absurd (cc is)
line_word InLine is = refl
line_word (WithSeat k) is = absurd (cc is)

-- how often an item that is there stands in a list
pub counts_at : (test : Whereabouts → Bool) (items : List Item) (entries : List Entry) (i : ℕ) → i < length items → CountsBy test items entries → entries_of i entries ≡ one_if (test (get_or items i blank).whereabouts)
counts_at test items entries i inside counts = rw (lt-ltb i (length items) inside) at (counts i)

-- the first entry of a list is of an item whose word says that list
pub first_word : (test : Whereabouts → Bool) (items : List Item) (entry : Entry) (entries : List Entry) (i : ℕ) → entry.item ≡ i → i < length items → CountsBy test items (entry ∷ entries) → (test (get_or items i blank).whereabouts ≡ true) × (entries_of i entries ≡ 0)
first_word test items entry entries i is inside counts =
    let here : entries_of i (entry ∷ entries) ≡ one_if (test (get_or items i blank).whereabouts) = counts_at test items (entry ∷ entries) i inside counts in
    let one : is_number i entry.item ≡ 1 = ap (is_number i) is ∙ is_number_same i in
    let says : test (get_or items i blank).whereabouts ≡ true = word_of_free _ _ (sym here) (omega (arith, one)) in
    let most : one_if (test (get_or items i blank).whereabouts) ≡ 1 = ap one_if says in
    (says, omega (arith, here, one, most))

-- ---- places

pub consecutive_push : (entries : List Entry) (next : ℕ) (entry : Entry) → AreConsecutive entries next → entry.place ≡ next → AreConsecutive (entries ++ entry ∷ []) (entry.place + 1)
consecutive_push [] next entry before at = (refl, tt)
consecutive_push (x ∷ []) next entry before at = (before.0 ∙ sym at, (refl, tt))
consecutive_push (x ∷ y ∷ entries) next entry before at = (before.0, consecutive_push (y ∷ entries) next entry before.1 at)

pub consecutive_rest : (entries : List Entry) (next : ℕ) → AreConsecutive entries next → AreConsecutive (drop 1 entries) next
consecutive_rest [] next before = tt
consecutive_rest (x ∷ entries) next before = before.1

-- ---- the queue when an item and the lists change together

pub changed_queue : (seats : ℕ) (queue : Queue) (i : ℕ) (new : Item) (free line : List Entry) (next_free next_line : ℕ) → HasItsItems seats queue → i < length queue.items → CountsBy is_in_free_list (set queue.items i new) free → CountsBy is_in_line (set queue.items i new) line → AreConsecutive free next_free → AreConsecutive line next_line → ((seat : ℕ) → new.whereabouts ≡ WithSeat seat → seat < seats) → (new.whereabouts ≡ InFreeList → new.tag ≡ 0) → (new.tag ≢ 0 → new.tag ≡ new.stream) → HasItsItems seats (record { free = free; next_free = next_free; line = line; next_line = next_line; items = set queue.items i new })
changed_queue seats queue i new free line next_free next_line held inside in_free in_line free_places line_places by untagged tags = record {
  free = in_free;
  line = in_line;
  held = λ item. each_item (λ item. (seat : ℕ) → item.whereabouts ≡ WithSeat seat → seat < seats) queue.items i new inside by item (held.held item);
  free_places = free_places;
  line_places = line_places;
  untagged = λ item. each_item (λ item. item.whereabouts ≡ InFreeList → item.tag ≡ 0) queue.items i new inside untagged item (held.untagged item);
  tags = λ item. each_item (λ item. item.tag ≢ 0 → item.tag ≡ item.stream) queue.items i new inside tags item (held.tags item);
}

-- ---- the lists

-- the list that an item neither leaves nor joins
pub kept_counts : (test : Whereabouts → Bool) (items : List Item) (i : ℕ) (new : Item) (entries : List Entry) → i < length items → CountsBy test items entries → test new.whereabouts ≡ test (get_or items i blank).whereabouts → CountsBy test (set items i new) entries
kept_counts test items i new entries inside counts same =
    counts_by test items i new entries entries inside counts (λ j other. refl) (counts_at test items entries i inside counts ∙ ap one_if (sym same))

-- the list of which it was the first
pub taken_counts : (test : Whereabouts → Bool) (items : List Item) (i : ℕ) (new : Item) (entries : List Entry) → first_item entries ≡ i → i < 2 ^ 32 → i < length items → CountsBy test items entries → test new.whereabouts ≡ false → (test (get_or items i blank).whereabouts ≡ true) × CountsBy test (set items i new) (drop 1 entries)
taken_counts test items i new [] first low inside counts gone = absurd (omega (arith, first))
taken_counts test items i new (entry ∷ entries) first low inside counts gone =
    let both = first_word test items entry entries i first inside counts in
    let others : (j : ℕ) → j ≢ i → entries_of j entries ≡ entries_of j (entry ∷ entries) = λ j other.
    let none : is_number j entry.item ≡ 0 = is_number_other j entry.item (λ same. other (sym same ∙ first)) in
    omega (arith, none) in
    (both.0, counts_by test items i new (entry ∷ entries) entries inside counts others (both.1 ∙ ap one_if (sym gone)))

-- the list that it joins
pub joined_counts : (test : Whereabouts → Bool) (items : List Item) (i : ℕ) (new : Item) (entries : List Entry) (place : ℕ) → i < length items → CountsBy test items entries → test (get_or items i blank).whereabouts ≡ false → test new.whereabouts ≡ true → CountsBy test (set items i new) (entries ++ (record { place = place; item = i }) ∷ [])
joined_counts test items i new entries place inside counts away joins =
    let entry : Entry = record { place = place; item = i } in
    let none : entries_of i entries ≡ 0 = counts_at test items entries i inside counts ∙ ap one_if away in
    let weigh : (j : ℕ) → entries_of j (entries ++ entry ∷ []) ≡ entries_of j entries + is_number j i = λ j. weigh_push (λ (e : Entry). is_number j e.item) entries entry in
    counts_by test items i new entries (entries ++ entry ∷ []) inside counts
    (λ j other. omega (arith, weigh j, is_number_other j i (λ same. other (sym same))))
    (omega (arith, weigh i, is_number_same i, none, ap one_if joins))

-- ---- what a queue's steps do to it

-- the item stays where it is
pub stays_in_place : (seats : ℕ) (queue : Queue) (i : ℕ) (new : Item) → HasItsItems seats queue → i < length queue.items → new.whereabouts ≡ (item_in queue i).whereabouts → (new.whereabouts ≡ InFreeList → new.tag ≡ 0) → (new.tag ≢ 0 → new.tag ≡ new.stream) → HasItsItems seats (record queue { items = set queue.items i new })
stays_in_place seats queue i new held inside same untagged tags =
    changed_queue seats queue i new queue.free queue.line queue.next_free queue.next_line held inside
    (kept_counts is_in_free_list queue.items i new queue.free inside held.free (ap is_in_free_list same))
    (kept_counts is_in_line queue.items i new queue.line inside held.line (ap is_in_line same))
    held.free_places held.line_places (λ seat is. held.held i seat (sym same ∙ is)) untagged tags

with_seat : (a b n : ℕ) (w : Whereabouts) → w ≡ WithSeat a → a < n → w ≡ WithSeat b → b < n
with_seat a b n w is below other = let same : a ≡ b = cc in omega (arith, same)

not_free : {P : Type 0} (w : Whereabouts) (seat : ℕ) → w ≡ WithSeat seat → w ≡ InFreeList → P
not_free w seat is other = absurd (cc (is, other))

-- a seat takes the first free item
pub taken_from_free : (seats : ℕ) (queue : Queue) (i seat : ℕ) (new : Item) → HasItsItems seats queue → i < length queue.items → i < 2 ^ 32 → first_item queue.free ≡ i → seat < seats → new.whereabouts ≡ WithSeat seat → new.tag ≡ (item_in queue i).tag → new.stream ≡ (item_in queue i).stream → HasItsItems seats (record queue { free = drop 1 queue.free; items = set queue.items i new })
taken_from_free seats queue i seat new held inside low first there is tag stream =
    let old : Item = item_in queue i in
    let free = taken_counts is_in_free_list queue.items i new queue.free first low inside held.free (ap is_in_free_list is) in
    let in_line : is_in_line new.whereabouts ≡ is_in_line old.whereabouts = ap is_in_line is ∙ sym (ap is_in_line (free_word old.whereabouts free.0)) in
    changed_queue seats queue i new (drop 1 queue.free) queue.line queue.next_free queue.next_line held inside
    free.1 (kept_counts is_in_line queue.items i new queue.line inside held.line in_line)
    (consecutive_rest queue.free queue.next_free held.free_places) held.line_places
    (λ other at. with_seat seat other seats new.whereabouts is there at)
    (not_free new.whereabouts seat is)
    (λ armed. tag ∙ held.tags i (λ none. armed (tag ∙ none)) ∙ sym stream)

-- a seat takes the first item in line
pub taken_from_line : (seats : ℕ) (queue : Queue) (i seat : ℕ) (new : Item) → HasItsItems seats queue → i < length queue.items → i < 2 ^ 32 → first_item queue.line ≡ i → seat < seats → new.whereabouts ≡ WithSeat seat → new.tag ≡ (item_in queue i).tag → new.stream ≡ (item_in queue i).stream → HasItsItems seats (record queue { line = drop 1 queue.line; items = set queue.items i new })
taken_from_line seats queue i seat new held inside low first there is tag stream =
    let old : Item = item_in queue i in
    let line = taken_counts is_in_line queue.items i new queue.line first low inside held.line (ap is_in_line is) in
    let in_free : is_in_free_list new.whereabouts ≡ is_in_free_list old.whereabouts = ap is_in_free_list is ∙ sym (ap is_in_free_list (line_word old.whereabouts line.0)) in
    changed_queue seats queue i new queue.free (drop 1 queue.line) queue.next_free queue.next_line held inside
    (kept_counts is_in_free_list queue.items i new queue.free inside held.free in_free) line.1
    held.free_places (consecutive_rest queue.line queue.next_line held.line_places)
    (λ other at. with_seat seat other seats new.whereabouts is there at)
    (not_free new.whereabouts seat is)
    (λ armed. tag ∙ held.tags i (λ none. armed (tag ∙ none)) ∙ sym stream)

-- a seat that holds the item puts it in line
pub put_in_line : (seats : ℕ) (queue : Queue) (i seat place : ℕ) (new : Item) → HasItsItems seats queue → i < length queue.items → (item_in queue i).whereabouts ≡ WithSeat seat → place ≡ queue.next_line → new.whereabouts ≡ InLine → new.tag ≡ (item_in queue i).tag → new.stream ≡ (item_in queue i).stream → HasItsItems seats (record queue { line = queue.line ++ (record { place = place; item = i }) ∷ []; next_line = place + 1; items = set queue.items i new })
put_in_line seats queue i seat place new held inside holds at is tag stream =
    let entry : Entry = record { place = place; item = i } in
    changed_queue seats queue i new queue.free (queue.line ++ entry ∷ []) queue.next_free (place + 1) held inside
    (kept_counts is_in_free_list queue.items i new queue.free inside held.free (ap is_in_free_list is ∙ sym (ap is_in_free_list holds)))
    (joined_counts is_in_line queue.items i new queue.line place inside held.line (ap is_in_line holds) (ap is_in_line is))
    held.free_places (consecutive_push queue.line queue.next_line entry held.line_places at)
    (λ other away. absurd (cc (is, away))) (λ away. absurd (cc (is, away)))
    (λ armed. tag ∙ held.tags i (λ none. armed (tag ∙ none)) ∙ sym stream)

-- a seat that holds the item, which has no tag, puts it into the free list
pub put_in_free : (seats : ℕ) (queue : Queue) (i seat place : ℕ) (new : Item) → HasItsItems seats queue → i < length queue.items → (item_in queue i).whereabouts ≡ WithSeat seat → place ≡ queue.next_free → new.whereabouts ≡ InFreeList → new.tag ≡ 0 → HasItsItems seats (record queue { free = queue.free ++ (record { place = place; item = i }) ∷ []; next_free = place + 1; items = set queue.items i new })
put_in_free seats queue i seat place new held inside holds at is none =
    let entry : Entry = record { place = place; item = i } in
    changed_queue seats queue i new (queue.free ++ entry ∷ []) queue.line (place + 1) queue.next_line held inside
    (joined_counts is_in_free_list queue.items i new queue.free place inside held.free (ap is_in_free_list holds) (ap is_in_free_list is))
    (kept_counts is_in_line queue.items i new queue.line inside held.line (ap is_in_line is ∙ sym (ap is_in_line holds)))
    (consecutive_push queue.free queue.next_free entry held.free_places at) held.line_places
    (λ other away. absurd (cc (is, away))) (λ away. none)
    (λ armed. absurd (armed none))
