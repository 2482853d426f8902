-- The words of a fabric that was just made show the core as it begins.
use Rattle.std.proofs.Common.{ℕ, zero, suc, ◌+◌, ◌*◌, ◌/◌, ◌≡◌, ◌≤◌, ◌<◌, inl, inr, List, [], ◌∷◌, ◌++◌, get_or, map, refl, sym, ap, ◌∙◌, subst, arith}
use Rattle.std.proofs.lemmas.Bool.{eq-eqb, ne_eqb, cases_eq}
use Rattle.std.proofs.lemmas.List.{map-append, get_or-replicate}
use Rattle.std.proofs.lemmas.Nat.{div-mul-add}
use Rattle.nncq_ring.proofs.Full.{full_fine, full_starts, full_tail}
use Rattle.nncq_ring.proofs.Noting.{starts}
use Rattle.nncq_ring.specs.RingWords.{StartsFull, full_line}
use Rattle.nncq_ring.specs.Words.{Words}
use Rattle.port_message.specs.Words.{numbers_of}
use Rattle.unit_model.specs.Core.{blank, no_queue, queue_of, item_of}
use Rattle.unit_model.specs.Holding.{items_of}
use Rattle.unit_model.specs.Opening.{first_entries, fresh_queue, opened_core}
use Rattle.unit_model.specs.Shapes.{IsValid}
use Rattle.unit_model.specs.declared.machine.Entry.{Entry}
use Rattle.unit_model.specs.declared.machine.Owner.TheVariants.{Free}
use Rattle.unit_model.specs.declared.machine.Queue.{Queue}
use Rattle.unit_model.specs.declared.shape.Shape.{Shape}
use Rattle.fabric_words.specs.Laws.{OpenedLaw}
use Rattle.fabric_words.specs.Opened.{StartsEmpty}
use Rattle.fabric_words.specs.Places.{queues_of, segments_of, ring_of}
use Rattle.fabric_words.specs.Shown.{entry_at, ShowsList, ShowsItem, is_owned_by_none}
use Rattle.fabric_words.specs.declared.place.Side.TheVariants.{FreeSide, LineSide}

-- ---- one ring

starts_empty : (n start : ℕ) (w : Words) → 0 < n → n ≤ start → StartsEmpty n start w → ShowsList n w [] start
starts_empty n start w pos turned fresh =
    let begins = starts n w pos (omega (arith, turned, fresh.head)) (fresh.tail ∙ sym fresh.head)
    (λ p lt near. ap (λ (x : ℕ). x / n) (fresh.entries p (omega (arith, lt, fresh.head)) (omega (arith, near, fresh.head))) ∙ div-mul-add (p / n) n 0 pos) in
    record { fine = begins.0; list = ap (map entry_at) begins.1; behind = begins.2 ∙ fresh.head }

-- the line of a ring that starts full is the list of all items
full_entries : (start k : ℕ) → map entry_at (full_line start k) ≡ first_entries start k
full_entries start zero = refl
full_entries start (suc k) =
    map-append entry_at (full_line start k) ((start + k, k) ∷ [])
    ∙ ap (λ (es : List Entry). es ++ (record { place = start + k; item = k }) ∷ []) (full_entries start k)

starts_full : (n start : ℕ) (w : Words) → 0 < n → n ≤ start → StartsFull n start w → ShowsList n w (first_entries start n) (start + n)
starts_full n start w pos turned full = record {
  fine = full_fine n start w pos turned full;
  list = ap (map entry_at) (full_starts n start w pos turned full) ∙ full_entries start n;
  behind = full_tail n start w pos turned full;
}

-- ---- the core

fresh_there : (shape : Shape) (queue : ℕ) → queue < queues_of shape → queue_of (opened_core shape) queue ≡ fresh_queue shape.start (items_of shape queue)
fresh_there shape zero there = refl
fresh_there shape (suc e) there =
    let back : items_of shape (suc e) ≡ shape.back_items = rw (ne_eqb (suc e) 0 (omega arith)) refl in
    get_or-replicate shape.engines e (fresh_queue shape.start shape.back_items) no_queue (omega (arith, there)) ∙ ap (fresh_queue shape.start) (sym back)

pub sizes : (shape : Shape) (queue : ℕ) → IsValid shape → (0 < items_of shape queue) × (items_of shape queue ≤ shape.start)
sizes shape queue valid =
    elim (cases_eq queue 0) [
      | inl line ↦ let is : items_of shape queue ≡ shape.items = rw (eq-eqb queue 0 line) refl in (omega (arith, is, valid.items.0), omega (arith, is, valid.room_before))
      | inr back ↦ let is : items_of shape queue ≡ shape.back_items = rw (ne_eqb queue 0 back) refl in (omega (arith, is, valid.back_items.0), omega (arith, is, valid.room_before))
    ]

pub opened_shows : OpenedLaw
opened_shows shape word valid opened = record {
  next = opened.next;
  out = opened.out;
  back = opened.back;
  free = λ q there. subst (λ (k : Queue). ShowsList (items_of shape q) (ring_of word q FreeSide) k.free k.next_free) (sym (fresh_there shape q there))
      (starts_full (items_of shape q) shape.start (ring_of word q FreeSide) (sizes shape q valid).0 (sizes shape q valid).1 (opened.rings q there).free);
  line = λ q there. subst (λ (k : Queue). ShowsList (items_of shape q) (ring_of word q LineSide) k.line k.next_line) (sym (fresh_there shape q there))
      (starts_empty (items_of shape q) shape.start (ring_of word q LineSide) (sizes shape q valid).0 (sizes shape q valid).1 (opened.rings q there).line);
  items = λ q i there.
      let is : item_of (opened_core shape) q i ≡ blank = ap (λ (k : Queue). get_or k.items i blank) (fresh_there shape q there.in_queues) ∙ get_or-replicate (items_of shape q) i blank blank there.in_items in
      subst (ShowsItem word q i) (sym is) (record { tag = opened.tag q i there; run = ap numbers_of (opened.run q i there); part = opened.part q i there });
  chunks = λ number lt. opened.chunks number lt ∙ sym (ap is_owned_by_none (get_or-replicate (640 * segments_of shape) number Free Free lt));
}
