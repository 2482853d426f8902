-- How long a list of a queue is: it has room where an item of the queue isn't in it, and at rest it has all or none.
use Rattle.std.proofs.Common.{ℕ, zero, suc, ◌+◌, ◌≡◌, ◌≤◌, ◌<◌, ◌&&◌, Bool, true, false, List, [], ◌∷◌, length, get_or, refl, sym, ap, ◌∙◌, arith, inl, inr}
use Rattle.std.proofs.lemmas.Bool.{and_parts, ltb-true, lt-ltb, cases_eq, cases_lt}
use Rattle.std.proofs.lemmas.List.{get_or_past}
use Rattle.unit_model.specs.AtRest.{LengthsAtRest}
use Rattle.unit_model.specs.Core.{queue_of}
use Rattle.unit_model.specs.Holding.{entries_of, has_item, item_in, is_in_free_list, is_in_line}
use Rattle.unit_model.specs.Sound.{no_entry}
use Rattle.unit_model.specs.Weights.{weigh, below, one_if, is_number}
use Rattle.unit_model.specs.declared.machine.Entry.{Entry}
use Rattle.unit_model.specs.declared.machine.Queue.{Queue}
use Rattle.unit_model.specs.declared.machine.Whereabouts.{Whereabouts}
use Rattle.unit_model.proofs.Changes.{weigh_le_each}
use Rattle.unit_model.proofs.HeldItems.{word_of_free}
use Rattle.unit_model.proofs.Weights.{weigh_at, weigh_same, weigh_ones, weigh-below, below_le, below-sum, below_same, below_none, below_is, below_at, below_ones, is_number_same, is_number_other}

most_one : (b : Bool) → one_if b ≤ 1
most_one true = omega arith
most_one false = omega arith

is_number_flips : (k x : ℕ) → is_number k x ≡ is_number x k
is_number_flips k x =
    elim (cases_eq x k) [
      | inl same ↦ ap (λ (n : ℕ). is_number k n) same ∙ sym (ap (λ (n : ℕ). is_number n k) same)
      | inr other ↦ is_number_other k x other ∙ sym (is_number_other x k (λ is. other (sym is)))
    ]

module _ (queue : Queue) (test : Whereabouts → Bool) (entries : List Entry) (count : (item : ℕ) → entries_of item entries ≡ one_if (has_item queue item && test (item_in queue item).whereabouts)) where
  n : ℕ
  n = length queue.items

  -- an entry is of an item that is there
  pub entry_is_there : (i : ℕ) → i < length entries → (get_or entries i no_entry).item < length queue.items
  entry_is_there i lt =
      let item : ℕ = (get_or entries i no_entry).item in
      let some : 1 ≤ entries_of item entries = omega (arith, weigh_at (λ (e : Entry). is_number item e.item) entries i no_entry lt, is_number_same item) in
      let both : (has_item queue item && test (item_in queue item).whereabouts) ≡ true = word_of_free _ (entries_of item entries) (sym (count item)) some in
      ltb-true item (length queue.items) (and_parts (has_item queue item) (test (item_in queue item).whereabouts) both).0

  counted : (item : ℕ) → item < length queue.items → test (item_in queue item).whereabouts ≡ false → (i : ℕ) → i < length queue.items → entries_of i entries + is_number item i ≤ 1
  counted item inside off i lt =
      elim (cases_eq i item) [
        | inl same ↦
            let none : entries_of i entries ≡ 0 = ap (λ (k : ℕ). entries_of k entries) same ∙ count item ∙ rw off (none_of (has_item queue item)) in
            omega (arith, none, ap (is_number item) same, is_number_same item)
        | inr other ↦ omega (arith, count i, most_one (has_item queue i && test (item_in queue i).whereabouts), is_number_other item i other)
      ]
    where
      none_of : (b : Bool) → one_if (b && false) ≡ 0
      none_of true = refl
      none_of false = refl

  one_each : (item : ℕ) → item < length queue.items → (i : ℕ) → 1 ≤ below (λ k. is_number k (get_or entries i no_entry).item) (length queue.items)
  one_each item inside i =
      elim (cases_lt i (length entries)) [
        | inl lt ↦ by (get_or entries i no_entry).item (entry_is_there i lt)
        | inr past ↦ by (get_or entries i no_entry).item (let none : (get_or entries i no_entry).item ≡ 0 = ap (λ (e : Entry). e.item) (get_or_past entries i no_entry past) in omega (arith, none, inside))
      ]
    where
      by : (x : ℕ) → x < length queue.items → 1 ≤ below (λ k. is_number k x) (length queue.items)
      by x lt = omega (arith, below_at (λ k. is_number k x) (length queue.items) x lt, is_number_same x)

  -- fewer entries than items, where an item's word says that it is elsewhere
  pub list_has_room : (item : ℕ) → item < length queue.items → test (item_in queue item).whereabouts ≡ false → length entries < length queue.items
  list_has_room item inside off =
      let each : Entry → ℕ → ℕ = λ (e : Entry) k. is_number k e.item in
      let long : length entries ≤ weigh (λ (e : Entry). below (each e) (length queue.items)) entries =
      omega (arith, weigh_ones entries, weigh_le_each (λ (e : Entry). 1) (λ (e : Entry). below (each e) (length queue.items)) entries no_entry (one_each item inside)) in
      omega (
        arith,
        long,
        weigh-below each (length queue.items) entries,
        below_le (λ i. entries_of i entries + is_number item i) (λ i. 1) (length queue.items) (counted item inside off),
        below-sum (λ i. entries_of i entries) (is_number item) (length queue.items),
        below_is (length queue.items) item inside,
        below_ones (length queue.items),
      )

  -- as many entries as items whose word says that they are in the list
  pub list_length : length entries ≡ below (λ item. one_if (has_item queue item && test (item_in queue item).whereabouts)) (length queue.items)
  list_length =
      let each : Entry → ℕ → ℕ = λ (e : Entry) k. is_number k e.item in
      let one : (i : ℕ) (d : Entry) → i < length entries → below (each (get_or entries i d)) (length queue.items) ≡ 1 = λ i d lt.
      let same : get_or entries i d ≡ get_or entries i no_entry = default_is_none entries i d no_entry lt in
      let x : ℕ = (get_or entries i no_entry).item in
      ap (λ (e : Entry). below (each e) (length queue.items)) same
      ∙ below_same (λ k. is_number k x) (is_number x) (length queue.items) (λ k _. is_number_flips k x)
      ∙ below_is (length queue.items) x (entry_is_there i lt) in
      sym (weigh_ones entries)
      ∙ sym (weigh_same (λ (e : Entry). below (each e) (length queue.items)) (λ (e : Entry). 1) entries one)
      ∙ weigh-below each (length queue.items) entries
      ∙ below_same (λ k. entries_of k entries) (λ k. one_if (has_item queue k && test (item_in queue k).whereabouts)) (length queue.items) (λ k _. count k)
    where
      default_is_none : (xs : List Entry) (i : ℕ) (d e : Entry) → i < length xs → get_or xs i d ≡ get_or xs i e
      default_is_none [] i d e lt = absurd (omega arith)
      default_is_none (x ∷ xs) zero d e lt = refl
      default_is_none (x ∷ xs) (suc i) d e lt = default_is_none xs i d e (omega arith)

-- ---- at rest

empty_of : (entries : List Entry) → length entries ≡ 0 → entries ≡ []
empty_of [] none = refl
empty_of (entry ∷ entries) none = absurd (omega (arith, none))

pub at_rest : LengthsAtRest
at_rest core queue held rest =
    let q : Queue = queue_of core queue in
    let n : ℕ = length (queue_of core queue).items in
    let free = list_length (queue_of core queue) is_in_free_list (queue_of core queue).free (held.queues queue).free in
    let line = list_length (queue_of core queue) is_in_line (queue_of core queue).line (held.queues queue).line in
    let all : below (λ item. one_if (has_item (queue_of core queue) item && is_in_free_list (item_in (queue_of core queue) item).whereabouts)) n ≡ below (λ i. 1) n =
    below_same (λ item. one_if (has_item (queue_of core queue) item && is_in_free_list (item_in (queue_of core queue) item).whereabouts)) (λ i. 1) n (λ item lt. rw (lt-ltb item n lt, rest item lt) refl) in
    let none : below (λ item. one_if (has_item (queue_of core queue) item && is_in_line (item_in (queue_of core queue) item).whereabouts)) n ≡ 0 =
    below_none (λ item. one_if (has_item (queue_of core queue) item && is_in_line (item_in (queue_of core queue) item).whereabouts)) n (λ item lt. rw (lt-ltb item n lt, rest item lt) refl) in
    (free ∙ all ∙ below_ones n, empty_of (queue_of core queue).line (line ∙ none))
