-- What the conditions of a step say, where they are met.
use Rattle.std.proofs.Common.{◌≡◌, ℕ, zero, suc, ◌+◌, ◌^◌, ◌<◌, ◌≤◌, ◌==◌, ◌&&◌, nat_lt, nat_le, not, Bool, true, false, if◌then◌else◌, length, refl, sym, ap, ◌∙◌, arith, inl, inr}
use Rattle.std.specs.Prelude.{None}
use Rattle.std.proofs.lemmas.Bool.{and_parts, ltb-true, leb-true, eqb-true, le-ltb, ne_eqb, cases_lt, cases_eq}
use Rattle.unit_model.proofs.MetConditions.{test_of, none_parts}
use Rattle.unit_model.proofs.StepFacts.{held_of}
use Rattle.unit_model.specs.Conditions.{is_engine, is_worker, is_either, is_in_segments, has_owner, all_have_owner, is_there, may_fill, is_first_free_item, is_first_line_item, is_next_place, holds, seat_holds, fits_side}
use Rattle.unit_model.specs.Core.{queue_of, item_of, role_of, owner_of, owner_code, first_item, side_start, side_end}
use Rattle.unit_model.specs.Holding.{HasItsShape, FitsQueue, first_segment, end_segment}
use Rattle.unit_model.specs.Runs.{chunks_for}
use Rattle.unit_model.specs.declared.machine.Core.{Core}
use Rattle.unit_model.specs.declared.machine.Owner.{Owner}
use Rattle.unit_model.specs.declared.machine.Owner.TheVariants.{Free, Seat, Message}
use Rattle.unit_model.specs.declared.machine.Whereabouts.TheVariants.{WithSeat}
use Rattle.unit_model.specs.declared.runs.Run.{Run}

-- ---- seats

-- a seat with a role is there
pub role_is_there : (core : Core) (seat : ℕ) → role_of core seat ≤ 1 → seat < core.shape.engines + core.shape.workers
role_is_there core seat low =
    elim (cases_lt seat (core.shape.engines + core.shape.workers)) [
      | inl below ↦ below
      | inr past ↦
          let no_engine : nat_lt seat core.shape.engines ≡ false = le-ltb seat core.shape.engines (omega arith) in
          let no_worker : nat_lt seat (core.shape.engines + core.shape.workers) ≡ false = le-ltb seat (core.shape.engines + core.shape.workers) past in
          let none : role_of core seat ≡ 3 = rw (no_engine, no_worker) refl in
          absurd (omega (arith, none))
    ]

pub either_is_there : (core : Core) (seat : ℕ) → is_either core seat ≡ None → seat < core.shape.engines + core.shape.workers
unfolding is_either
either_is_there core seat met = role_is_there core seat (leb-true _ _ (test_of (nat_le (role_of core seat) 1) _ _ _ met))

pub engine_is_there : (core : Core) (seat : ℕ) → is_engine core seat ≡ None → seat < core.shape.engines + core.shape.workers
unfolding is_engine
engine_is_there core seat met = let role : role_of core seat ≡ 0 = eqb-true _ _ (test_of (role_of core seat == 0) _ _ _ met) in role_is_there core seat (omega (arith, role))

pub worker_is_there : (core : Core) (seat : ℕ) → is_worker core seat ≡ None → seat < core.shape.engines + core.shape.workers
unfolding is_worker
worker_is_there core seat met = let role : role_of core seat ≡ 1 = eqb-true _ _ (test_of (role_of core seat == 1) _ _ _ met) in role_is_there core seat (omega (arith, role))

-- there are few of them
pub seat_is_low : (core : Core) (seat : ℕ) → HasItsShape core → seat < core.shape.engines + core.shape.workers → seat < 8
seat_is_low core seat shape there = omega (arith, shape.shape.engines.1, shape.shape.workers.1)

-- ---- queues and items

same_test : (a b : Bool) → (if a then b else not b) ≡ true → a ≡ b
same_test true true is = refl
same_test true false is = absurd (cc is)
same_test false true is = absurd (cc is)
same_test false false is = refl

-- the item is there, and engines fill queue 0
pub fill_there : (core : Core) (seat queue item : ℕ) → may_fill core seat queue item ≡ None → (item < length (queue_of core queue).items) × ((role_of core seat == 0) ≡ (queue == 0))
unfolding may_fill
fill_there core seat queue item met =
    let both = and_parts (is_there core queue item) (if role_of core seat == 0 then queue == 0 else not (queue == 0)) (test_of _ _ _ _ met) in
    (ltb-true _ _ both.0, same_test (role_of core seat == 0) (queue == 0) both.1)

pub seat_has_it : (core : Core) (seat queue item : ℕ) → seat < 8 → seat_holds core seat queue item ≡ None → (item_of core queue item).whereabouts ≡ WithSeat seat
unfolding seat_holds
seat_has_it core seat queue item low met =
    held_of seat (item_of core queue item).whereabouts (eqb-true _ _ (test_of (holds core seat queue item) _ _ _ met)) (omega arith)

pub first_free : (core : Core) (queue item : ℕ) → is_first_free_item core queue item ≡ None → first_item (queue_of core queue).free ≡ item
unfolding is_first_free_item
first_free core queue item met = sym (eqb-true _ _ (test_of (item == first_item (queue_of core queue).free) _ _ _ met))

pub first_in_line : (core : Core) (queue item : ℕ) → is_first_line_item core queue item ≡ None → first_item (queue_of core queue).line ≡ item
unfolding is_first_line_item
first_in_line core queue item met = sym (eqb-true _ _ (test_of (item == first_item (queue_of core queue).line) _ _ _ met))

pub next_is : (next place : ℕ) → is_next_place next place ≡ None → place ≡ next
next_is next place met = eqb-true _ _ (and_parts (place == next) (nat_lt place (2 ^ 63)) (test_of _ _ _ _ met)).0

-- item numbers are below the codes that stand for none
pub item_is_low : (core : Core) (queue item : ℕ) → HasItsShape core → queue < length core.queues → item < length (queue_of core queue).items → item < 2 ^ 32
item_is_low core queue item shape there inside =
    let count = shape.items queue (omega (arith, shape.queues)) in
    elim (cases_eq queue 0) [
      | inl first ↦ let all : length (queue_of core queue).items ≡ core.shape.items = count ∙ ap (λ (k : ℕ). if k == 0 then core.shape.items else core.shape.back_items) first in omega (arith, all, shape.shape.items.1)
      | inr back ↦ let all : length (queue_of core queue).items ≡ core.shape.back_items = count ∙ rw (ne_eqb queue 0 back) refl in omega (arith, all, shape.shape.back_items.1)
    ]

-- ---- chunks

-- the side of a seat that fills the queue is the queue's
pub on_side : (core : Core) (seat queue : ℕ) → (role_of core seat == 0) ≡ (queue == 0) → (side_start core seat ≡ first_segment core.shape queue) × (side_end core seat ≡ end_segment core.shape queue)
on_side core seat queue same = (rw same refl, rw same refl)

pub run_fits : (core : Core) (seat queue : ℕ) (run : Run) → (role_of core seat == 0) ≡ (queue == 0) → fits_side core seat run ≡ None → FitsQueue core.shape queue run
unfolding fits_side
run_fits core seat queue run same met =
    let sides = on_side core seat queue same in
    let in_segment = nat_lt 0 run.size && nat_le (run.chunk + chunks_for run.size) 640 in
    let on_its_side = nat_le (side_start core seat) run.segment && nat_lt run.segment (side_end core seat) in
    let both = and_parts in_segment on_its_side (test_of (in_segment && on_its_side) _ _ _ met) in
    let one = and_parts (nat_lt 0 run.size) (nat_le (run.chunk + chunks_for run.size) 640) both.0 in
    let two = and_parts (nat_le (side_start core seat) run.segment) (nat_lt run.segment (side_end core seat)) both.1 in
    let low : side_start core seat ≤ run.segment = leb-true _ _ two.0 in
    let high : run.segment < side_end core seat = ltb-true _ _ two.1 in
    record {
      some = ltb-true _ _ one.0;
      in_segment = leb-true _ _ one.1;
      on_side = (omega (arith, sides.0, low), omega (arith, sides.1, high));
    }

-- the owner of a code
pub free_code : (owner : Owner) → owner_code owner ≡ 0 → owner ≡ Free
free_code Free is = refl
free_code (Seat k) is = absurd (omega (arith, is))
free_code (Message queue item) is = absurd (omega (arith, is))

pub seat_code : (owner : Owner) (seat : ℕ) → owner_code owner ≡ 1 + seat → seat < 8 → owner ≡ Seat seat
seat_code Free seat is low = absurd (omega (arith, is))
seat_code (Seat k) seat is low = ap Seat (omega (arith, is))
seat_code (Message queue item) seat is low = absurd (omega (arith, is))

pub chunk_has_code : (core : Core) (code number : ℕ) → has_owner core code number ≡ None → owner_code (owner_of core number) ≡ code
unfolding has_owner
chunk_has_code core code number met = eqb-true _ _ (test_of (owner_code (owner_of core number) == code) _ _ _ met)

pub chunks_have_code : (core : Core) (code number count : ℕ) → all_have_owner core code number count ≡ None → (n : ℕ) → number ≤ n → n < number + count → owner_code (owner_of core n) ≡ code
chunks_have_code core code number zero met n low high = absurd (omega arith)
chunks_have_code core code number (suc count) met n low high =
    let both = none_parts (has_owner core code number) (all_have_owner core code (number + 1) count) met in
    elim (cases_eq n number) [
      | inl same ↦ ap (λ (k : ℕ). owner_code (owner_of core k)) same ∙ chunk_has_code core code number both.0
      | inr other ↦ chunks_have_code core code (number + 1) count both.1 n (omega (arith, other)) (omega (arith, high))
    ]

-- the chunk is in these segments
pub in_segments : (start end segment chunk : ℕ) → is_in_segments start end segment chunk ≡ None → (chunk < 640) × ((start ≤ segment) × (segment < end))
unfolding is_in_segments
in_segments start end segment chunk met =
    let within = nat_le start segment && nat_lt segment end in
    let both = and_parts (nat_lt chunk 640) within (test_of (nat_lt chunk 640 && within) _ _ _ met) in
    let sides = and_parts (nat_le start segment) (nat_lt segment end) both.1 in
    (ltb-true _ _ both.0, (leb-true _ _ sides.0, ltb-true _ _ sides.1))
