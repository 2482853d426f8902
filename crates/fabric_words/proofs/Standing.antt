-- The offsets of words in numbers, and that no two are the same.
use Rattle.std.proofs.Common.{ℕ, zero, suc, ◌+◌, ◌-◌, ◌*◌, ◌/◌, ◌≡◌, ◌<◌, refl, sym, ap, ◌∙◌, arith, suc-mul, get_or-set_same, get_or-set_other}
use Rattle.std.proofs.lemmas.Bool.{ne_eqb}
use Rattle.unit_model.specs.Holding.{items_of}
use Rattle.unit_model.specs.Weights.{below}
use Rattle.unit_model.specs.declared.shape.Shape.{Shape}
use Rattle.fabric_words.specs.Offsets.{queue_width, queue_start, offset_of, WithinLaw, ApartLaw, SharedLaw, MapLaw, SetWordLaw}
use Rattle.fabric_words.specs.Places.{queues_of, segments_of}
use Rattle.fabric_words.specs.declared.place.Place.{Place}
use Rattle.fabric_words.specs.declared.place.Place.TheVariants.{NextStream, OpenedOut, OpenedBack, Head, Tail, Slot, Tag, RunWord, PartWord, Chunks}
use Rattle.fabric_words.specs.declared.place.Side.TheVariants.{FreeSide, LineSide}
use Rattle.fabric_words.proofs.Blocks.{groups_for, queue_block, kind_groups, groups_of, groups_in_queue, stand_of, stands_once, stands_within, shared_alone, segment_alone}

module _ (shape : Shape) (q : ℕ) where
  -- the groups before the k-th block of the queue
  before : ℕ → ℕ
  before k = below (groups_of shape) (queue_block k q)

  one_more : (k : ℕ) → k < 7 → before (suc k) ≡ before k + kind_groups k (items_of shape q)
  unfolding before
  one_more k lt =
      let next : queue_block (suc k) q ≡ suc (queue_block k q) = omega arith in
      ap (below (groups_of shape)) next ∙ omega (arith, groups_in_queue shape k q lt)

  kinds : (before 1 ≡ before 0 + 1) × (before 2 ≡ before 0 + 2) × (before 3 ≡ before 0 + 2 + groups_for (items_of shape q)) × (before 4 ≡ before 0 + 3 + groups_for (items_of shape q)) × (before 5 ≡ before 0 + 4 + groups_for (items_of shape q)) × (before 6 ≡ before 0 + 4 + 2 * groups_for (items_of shape q)) × (before 7 ≡ before 0 + 4 + 2 * groups_for (items_of shape q) + groups_for (4 * items_of shape q))
  kinds =
      let a0 = one_more 0 (omega arith) in
      let a1 = one_more 1 (omega arith) in
      let a2 = one_more 2 (omega arith) in
      let a3 = one_more 3 (omega arith) in
      let a4 = one_more 4 (omega arith) in
      let a5 = one_more 5 (omega arith) in
      let a6 = one_more 6 (omega arith) in (
        a0,
        omega (arith, a0, a1),
        omega (arith, a0, a1, a2),
        omega (arith, a0, a1, a2, a3),
        omega (arith, a0, a1, a2, a3, a4),
        omega (arith, a0, a1, a2, a3, a4, a5),
        omega (arith, a0, a1, a2, a3, a4, a5, a6),
      )

-- a queue begins where the one before it ends
pub next_queue : (shape : Shape) (q : ℕ) → queue_start shape (suc q) ≡ queue_start shape q + queue_width (items_of shape q)
next_queue shape zero = let none : (1 - 1) * queue_width shape.back_items ≡ 0 = omega arith in omega (arith, none)
next_queue shape (suc q) =
    let here : queue_start shape (suc q) ≡ 64 + 16 * segments_of shape + (queue_width shape.items + q * queue_width shape.back_items) =
    rw (ne_eqb (suc q) 0 (omega arith)) (let less : suc q - 1 ≡ q = omega arith in ap (λ (m : ℕ). 64 + 16 * segments_of shape + (queue_width shape.items + m * queue_width shape.back_items)) less) in
    let there : queue_start shape (suc (suc q)) ≡ 64 + 16 * segments_of shape + (queue_width shape.items + suc q * queue_width shape.back_items) =
    rw (ne_eqb (suc (suc q)) 0 (omega arith)) (let less : suc (suc q) - 1 ≡ suc q = omega arith in ap (λ (m : ℕ). 64 + 16 * segments_of shape + (queue_width shape.items + m * queue_width shape.back_items)) less) in
    let back : queue_width (items_of shape (suc q)) ≡ queue_width shape.back_items = rw (ne_eqb (suc q) 0 (omega arith)) refl in
    omega (arith, here, there, back, suc-mul q (queue_width shape.back_items))

start_is : (shape : Shape) (q : ℕ) → 16 * (1 + below (groups_of shape) (queue_block 0 q)) ≡ queue_start shape q
unfolding before
start_is shape zero = omega arith
start_is shape (suc q) =
    let next : queue_block 0 (suc q) ≡ queue_block 7 q = omega arith in
    let all = (kinds shape q).6 in
    omega (arith, ap (below (groups_of shape)) next, all, start_is shape q, next_queue shape q)

-- each word stands at its offset
pub offset_is : (shape : Shape) (place : Place) → offset_of shape place ≡ stand_of shape place
unfolding before
offset_is shape NextStream = omega arith
offset_is shape OpenedOut = omega arith
offset_is shape OpenedBack = omega arith
offset_is shape (Chunks number) = omega arith
offset_is shape (Head q FreeSide) = omega (arith, start_is shape q)
offset_is shape (Head q LineSide) = omega (arith, start_is shape q, (kinds shape q).2)
offset_is shape (Tail q FreeSide) = omega (arith, start_is shape q, (kinds shape q).0)
offset_is shape (Tail q LineSide) = omega (arith, start_is shape q, (kinds shape q).3)
offset_is shape (Slot q FreeSide slot) = omega (arith, start_is shape q, (kinds shape q).1)
offset_is shape (Slot q LineSide slot) = omega (arith, start_is shape q, (kinds shape q).4)
offset_is shape (Tag q item) = omega (arith, start_is shape q, (kinds shape q).5)
offset_is shape (RunWord q item) = omega (arith, start_is shape q, (kinds shape q).5)
offset_is shape (PartWord q item) = omega (arith, start_is shape q, (kinds shape q).5)

-- ---- the laws

pub within : WithinLaw
within shape place there = (omega (arith, offset_is shape place), omega (arith, offset_is shape place, stands_within shape place there, start_is shape (queues_of shape)))

pub apart_in_list : ApartLaw
apart_in_list shape place other there also same = stands_once shape place other there also (sym (offset_is shape place) ∙ same ∙ offset_is shape other)

in_groups : (shape : Shape) (place other : Place) → offset_of shape place / 16 ≡ offset_of shape other / 16 → stand_of shape place / 16 ≡ stand_of shape other / 16
in_groups shape place other same =
    ap (λ (n : ℕ). n / 16) (sym (offset_is shape place)) ∙ same ∙ ap (λ (n : ℕ). n / 16) (offset_is shape other)

pub shared_apart : SharedLaw
shared_apart shape place other there also shared same = shared_alone shape place other there also shared (in_groups shape place other same)

pub map_apart : MapLaw
map_apart shape number other there also same = segment_alone shape number other there also (in_groups shape (Chunks number) other same)

pub set_word : SetWordLaw
set_word shape words place x wide there = record {
  here = get_or-set_same words (offset_of shape place) x 0 (omega (arith, wide, (within shape place there).1));
  others = λ other also ne. get_or-set_other words (offset_of shape place) (offset_of shape other) x 0 (λ is. ne (apart_in_list shape other place also there is));
}
