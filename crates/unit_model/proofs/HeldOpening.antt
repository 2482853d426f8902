-- All is held right in the core as it begins.
use Rattle.std.proofs.Common.{◌≡◌, ℕ, zero, suc, ◌+◌, ◌*◌, ◌<◌, ◌≤◌, ◌==◌, ◌&&◌, nat_lt, Bool, true, false, [], ◌∷◌, ◌++◌, length, get_or, replicate, refl, sym, ap, subst, ◌∙◌, arith, inl, inr}
use Rattle.std.proofs.lemmas.Bool.{cases_lt, cases_eq, ne_eqb, lt-ltb, le-ltb, and_right}
use Rattle.std.proofs.lemmas.List.{length-replicate, get_or-replicate, get_or_past}
use Rattle.unit_model.proofs.HeldItems.{consecutive_push}
use Rattle.unit_model.proofs.Weights.{weigh_push, is_number_same, is_number_other}
use Rattle.unit_model.specs.Conditions.{has_stream}
use Rattle.unit_model.specs.Core.{blank, no_queue, no_seat, queue_of, item_of, owner_of}
use Rattle.unit_model.specs.Holding.{IsHeldRight, HasItsItems, HasItsShape, AreConsecutive, entries_of, items_of}
use Rattle.unit_model.specs.Opening.{first_entries, fresh_queue, opened_core}
use Rattle.unit_model.specs.Shapes.{IsValid}
use Rattle.unit_model.specs.Weights.{one_if, is_number}
use Rattle.unit_model.specs.declared.machine.Entry.{Entry}
use Rattle.unit_model.specs.declared.machine.Item.{Item}
use Rattle.unit_model.specs.declared.machine.Owner.TheVariants.{Free}
use Rattle.unit_model.specs.declared.machine.Queue.{Queue}
use Rattle.unit_model.specs.declared.machine.Seat.{Seat as SeatLists}
use Rattle.unit_model.specs.declared.shape.Shape.{Shape}

-- of equal elements each place has one, and one that is the default too
pub all_the_same : {X : Type 0} (n i : ℕ) (x : X) → get_or (replicate n x) i x ≡ x
all_the_same n i x =
    elim (cases_lt i n) [
      | inl inside ↦ get_or-replicate n i x x inside
      | inr past ↦ get_or_past (replicate n x) i x (omega (arith, length-replicate n x))
    ]

-- ---- a queue

-- each of the first items once
first_counts : (start n item : ℕ) → entries_of item (first_entries start n) ≡ one_if (nat_lt item n)
first_counts start zero item = sym (ap one_if (le-ltb item 0 (omega arith)))
first_counts start (suc n) item =
    let entry : Entry = record { place = start + n; item = n } in
    let more : entries_of item (first_entries start n ++ entry ∷ []) ≡ entries_of item (first_entries start n) + is_number item n = weigh_push (λ (e : Entry). is_number item e.item) (first_entries start n) entry in
    let before = first_counts start n item in
    elim (cases_lt item n) [
      | inl low ↦ omega (arith, more, before, ap one_if (lt-ltb item n low), is_number_other item n (omega arith), ap one_if (lt-ltb item (suc n) (omega arith)))
      | inr from ↦ elim (cases_eq item n) [
        | inl same ↦ omega (arith, more, before, ap one_if (le-ltb item n from), ap (λ (k : ℕ). is_number k n) same, is_number_same n, ap one_if (lt-ltb item (suc n) (omega (arith, same))))
        | inr other ↦ omega (arith, more, before, ap one_if (le-ltb item n from), is_number_other item n (λ same. other (sym same)), ap one_if (le-ltb item (suc n) (omega (arith, other))))
      ]
    ]

first_places : (start n : ℕ) → AreConsecutive (first_entries start n) (start + n)
first_places start zero = tt
first_places start (suc n) =
    let entry : Entry = record { place = start + n; item = n } in
    let more : AreConsecutive (first_entries start n ++ entry ∷ []) ((start + n) + 1) = consecutive_push (first_entries start n) (start + n) entry (first_places start n) refl in
    let next : (start + n) + 1 ≡ start + suc n = omega arith in
    subst (λ (k : ℕ). AreConsecutive (first_entries start n ++ entry ∷ []) k) next more

and_true : (b : Bool) → one_if (b && true) ≡ one_if b
and_true true = refl
and_true false = refl

fresh_items : (seats start n : ℕ) → HasItsItems seats (fresh_queue start n)
fresh_items seats start n =
    let is_blank : (item : ℕ) → get_or (replicate n blank) item blank ≡ blank = λ item. all_the_same n item blank in
    record {
      free = λ item. first_counts start n item ∙ rw (is_blank item, length-replicate n blank) (sym (and_true (nat_lt item n)));
      line = λ item. rw (is_blank item) (sym (ap one_if (and_right (nat_lt item (length (replicate n blank))) false refl)));
      held = λ item seat is. absurd (cc (is, is_blank item));
      free_places = first_places start n;
      line_places = tt;
      untagged = λ item is. ap (λ (x : Item). x.tag) (is_blank item);
      tags = λ item armed. absurd (armed (ap (λ (x : Item). x.tag) (is_blank item)));
    }

no_items : (seats : ℕ) → HasItsItems seats no_queue
no_items seats = record {
  free = λ item. sym (ap (λ (b : Bool). one_if (b && true)) (le-ltb item 0 (omega arith)));
  line = λ item. sym (ap (λ (b : Bool). one_if (b && false)) (le-ltb item 0 (omega arith)));
  held = λ item seat is. absurd (cc is);
  free_places = tt;
  line_places = tt;
  untagged = λ item is. refl;
  tags = λ item armed. absurd (armed refl);
}

-- what holds of each queue at first, and of one that isn't there
each_queue : (P : ℕ → Queue → Type 0) (shape : Shape) → P 0 (fresh_queue shape.start shape.items) → ((m : ℕ) → m < shape.engines → P (suc m) (fresh_queue shape.start shape.back_items)) → ((m : ℕ) → shape.engines ≤ m → P (suc m) no_queue) → (m : ℕ) → P m (queue_of (opened_core shape) m)
each_queue P shape line back none zero = line
each_queue P shape line back none (suc m) =
    let queue : Queue = fresh_queue shape.start shape.back_items in
    elim (cases_lt m shape.engines) [
      | inl inside ↦ subst (P (suc m)) (sym (get_or-replicate shape.engines m queue no_queue inside)) (back m inside)
      | inr past ↦ subst (P (suc m)) (sym (get_or_past (replicate shape.engines queue) m no_queue (omega (arith, length-replicate shape.engines queue)))) (none m past)
    ]

-- ---- the core

back_items : (shape : Shape) (m : ℕ) → items_of shape (suc m) ≡ shape.back_items
back_items shape m = let other : (suc m == 0) ≡ false = ne_eqb (suc m) 0 (omega arith) in rw other refl

opened_shape : (shape : Shape) → IsValid shape → HasItsShape (opened_core shape)
opened_shape shape valid = record {
  shape = valid;
  chunks = length-replicate (640 * (shape.out_segments + shape.back_segments)) Free;
  queues = let back : length (replicate shape.engines (fresh_queue shape.start shape.back_items)) ≡ shape.engines = length-replicate shape.engines (fresh_queue shape.start shape.back_items) in omega (arith, back);
  items = λ queue there. each_queue (λ m q. m < 1 + shape.engines → length q.items ≡ items_of shape m) shape
      (λ inside. length-replicate shape.items blank) (λ m low inside. length-replicate shape.back_items blank ∙ sym (back_items shape m)) (λ m high inside. absurd (omega (arith, high, inside))) queue there;
  seats = length-replicate (shape.engines + shape.workers) no_seat;
}

pub opened_holds_right : (shape : Shape) → IsValid shape → IsHeldRight (opened_core shape)
opened_holds_right shape valid =
    let seats = shape.engines + shape.workers in
    let free : (number : ℕ) → owner_of (opened_core shape) number ≡ Free = λ number. all_the_same (640 * (shape.out_segments + shape.back_segments)) number Free in
    let untagged : (queue item : ℕ) → (item_of (opened_core shape) queue item).tag ≡ 0 = λ queue item. each_queue (λ m q. (get_or q.items item blank).tag ≡ 0) shape
    (ap (λ (x : Item). x.tag) (all_the_same shape.items item blank)) (λ m low. ap (λ (x : Item). x.tag) (all_the_same shape.back_items item blank)) (λ m high. refl) queue in
    record {
      shape = opened_shape shape valid;
      queues = each_queue (λ m q. HasItsItems seats q) shape (fresh_items seats shape.start shape.items) (λ m low. fresh_items seats shape.start shape.back_items) (λ m high. no_items seats);
      owners = record {
        messages = λ number queue item is. absurd (cc (is, free number));
        runs = λ number queue item armed within. absurd (armed (untagged queue item));
        fits = λ queue item armed. absurd (armed (untagged queue item));
        seats = λ number seat is. absurd (cc (is, free number));
      };
      segments = record {
        out = (omega arith, valid.out_segments.0);
        back = (omega arith, valid.back_segments.0);
        unopened = λ segment chunk low closed. free _;
      };
      streams = record {
        next = omega arith;
        drawn = λ seat. ap (λ (lists : SeatLists). has_stream 0 lists.drawn) (all_the_same (shape.engines + shape.workers) seat no_seat);
        taken = λ seat. ap (λ (lists : SeatLists). has_stream 0 lists.taken) (all_the_same (shape.engines + shape.workers) seat no_seat);
      };
    }
