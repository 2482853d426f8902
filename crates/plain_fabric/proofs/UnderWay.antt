-- One message under way on a machine that was at rest, step by step: what each step needs, and what it changes.
use Rattle.std.proofs.Common.{◌≡◌, ◌≢◌, ℕ, ◌+◌, ◌==◌, ◌≤◌, ◌<◌, ◌⊎◌, inl, inr, List, [], ◌∷◌, ◌++◌, length, get_or, set, drop, refl, sym, ap, subst, ◌∙◌, arith}
use Rattle.std.proofs.lemmas.Bool.{cases_Bool, cases_eq}
use Rattle.std.proofs.lemmas.List.{get_or-set_same, get_or-set_other, length-set}
use Rattle.unit_model.proofs.Changes.{changed_at, unchanged_at}
use Rattle.unit_model.proofs.ChangedCore.{queue_there, set_all_inside, set_all_outside}
use Rattle.unit_model.proofs.HeldChunkSteps.{run_is_there}
use Rattle.unit_model.proofs.Introductions.{met_either, met_fill, met_use, met_holds, met_tag, met_tagged, met_next_in_line, met_first_in_line, met_first_item_in_line, met_pop_role, met_empty, met_fits, met_run_owner, met_arm, met_settle, settling_role, met_segments, met_open_segment, met_owner_code, met_first_free, met_first_free_item, met_next_free}
use Rattle.unit_model.proofs.MetSteps.{on_side}
use Rattle.unit_model.proofs.Presence.{opened_most, side_is_there, twice_here, twice_elsewhere, owned_is_there}
use Rattle.unit_model.proofs.SoundRuns.{keeps_sound}
use Rattle.unit_model.specs.Conditions.{conditions_by}
use Rattle.unit_model.specs.Core.{blank, no_queue, queue_of, item_of, owner_of, owner_code, role_of, chunk_number, side_start, side_end, side_opened, first_place, first_item}
use Rattle.unit_model.specs.Effects.{after_step, with_item, with_note, with_owner, with_run_owner, with_in_line, with_free, without_first_free, without_first_in_line, noted, armed_note, set_all, settled_note}
use Rattle.unit_model.specs.Holding.{FitsQueue, IsInRun, first_segment}
use Rattle.unit_model.specs.Limits.{place_limit, segment_chunks}
use Rattle.unit_model.specs.Lists.{change_at}
use Rattle.unit_model.specs.Premises.{Fills, Empties, IsInHand, MayArm, MaySettle}
use Rattle.unit_model.specs.Running.{Enabled}
use Rattle.unit_model.specs.Runs.{chunks_for}
use Rattle.unit_model.specs.Soundness.{IsSound}
use Rattle.unit_model.specs.declared.machine.Core.{Core}
use Rattle.unit_model.specs.declared.machine.Entry.{Entry}
use Rattle.unit_model.specs.declared.machine.Item.{Item}
use Rattle.unit_model.specs.declared.machine.Owner.{Owner}
use Rattle.unit_model.specs.declared.machine.Owner.TheVariants.{Free, Seat, Message}
use Rattle.unit_model.specs.declared.machine.Queue.{Queue}
use Rattle.unit_model.specs.declared.machine.Seat.{Seat as SeatLists}
use Rattle.unit_model.specs.declared.machine.Step.TheVariants.{Claim, Release, GetItem, SetRun, SetPart, Arm, Push, Pop, Settle, GiveItem}
use Rattle.unit_model.specs.declared.machine.Whereabouts.TheVariants.{InFreeList, InLine, WithSeat}
use Rattle.unit_model.specs.declared.runs.Run.{Run}

-- the lists of the message's queue, and its item
pub record Lane : Type 0 where
  pub free : List Entry
  pub next_free : ℕ
  pub line : List Entry
  pub next_line : ℕ
  pub item : Item

-- a message through queue q by item i, on a machine that was `base`
module _ (base : Core) (q i : ℕ) where
  pub record HasLane (core : Core) (lane : Lane) : Type 0 where
    pub free : (queue_of core q).free ≡ lane.free
    pub next_free : (queue_of core q).next_free ≡ lane.next_free
    pub line : (queue_of core q).line ≡ lane.line
    pub next_line : (queue_of core q).next_line ≡ lane.next_line
    pub item : item_of core q i ≡ lane.item
    pub inside : i < length (queue_of core q).items
    pub count : length (queue_of core q).items ≡ length (queue_of base q).items
    pub beside : (j : ℕ) → j ≢ i → item_of core q j ≡ item_of base q j
    pub elsewhere : (p : ℕ) → p ≢ q → queue_of core p ≡ queue_of base p

  -- the chunks from low to high have this owner, and all others are free
  pub record HasOwner (core : Core) (low high : ℕ) (owner : Owner) : Type 0 where
    pub within : (n : ℕ) → low ≤ n → n < high → owner_of core n ≡ owner
    pub off : (n : ℕ) → (n < low) ⊎ (high ≤ n) → owner_of core n ≡ Free

  pub record Under (lane : Lane) (low high : ℕ) (owner : Owner) (seats : List SeatLists) (next : ℕ) (core : Core) : Type 0 where
    pub sound : IsSound core
    pub shape : core.shape ≡ base.shape
    pub next_is : core.next ≡ next
    pub seats_are : core.seats ≡ seats
    pub has : HasLane core lane
    pub chunks : HasOwner core low high owner

  -- ---- the queue changes

  record Turned (core new : Core) (change : Queue → Queue) : Type 0 where
    here : queue_of new q ≡ change (queue_of core q)
    elsewhere : (p : ℕ) → p ≢ q → queue_of new p ≡ queue_of core p

  turned_once : (core new : Core) (lane : Lane) (change : Queue → Queue) → HasLane core lane → new.queues ≡ change_at q change core.queues → Turned core new change
  turned_once core new lane change old is = record {
    here = ap (λ (queues : List Queue). get_or queues q no_queue) is ∙ changed_at q change core.queues no_queue (queue_there core.queues q i old.inside);
    elsewhere = λ p other. ap (λ (queues : List Queue). get_or queues p no_queue) is ∙ unchanged_at q change core.queues p no_queue other;
  }

  turned_twice : (core new : Core) (lane : Lane) (first second : Queue → Queue) → HasLane core lane → new.queues ≡ change_at q second (change_at q first core.queues) → Turned core new (λ k. second (first k))
  turned_twice core new lane first second old is = record {
    here = ap (λ (queues : List Queue). get_or queues q no_queue) is ∙ twice_here core.queues q first second (queue_there core.queues q i old.inside);
    elsewhere = λ p other. ap (λ (queues : List Queue). get_or queues p no_queue) is ∙ twice_elsewhere core.queues q first second p other;
  }

  -- where item i is set
  lane_turned : (core new : Core) (lane now : Lane) (change : Queue → Queue) → HasLane core lane → Turned core new change
      → (change (queue_of core q)).items ≡ set (queue_of core q).items i now.item
      → (change (queue_of core q)).free ≡ now.free
      → (change (queue_of core q)).next_free ≡ now.next_free
      → (change (queue_of core q)).line ≡ now.line
      → (change (queue_of core q)).next_line ≡ now.next_line
      → HasLane new now
  lane_turned core new lane now change old turned sets free next_free line next_line =
      let items : (queue_of new q).items ≡ set (queue_of core q).items i now.item = ap (λ (k : Queue). k.items) turned.here ∙ sets in
      let long : length (queue_of new q).items ≡ length (queue_of core q).items = ap (length {A = Item}) items ∙ length-set (queue_of core q).items i now.item in
      record {
        free = ap (λ (k : Queue). k.free) turned.here ∙ free;
        next_free = ap (λ (k : Queue). k.next_free) turned.here ∙ next_free;
        line = ap (λ (k : Queue). k.line) turned.here ∙ line;
        next_line = ap (λ (k : Queue). k.next_line) turned.here ∙ next_line;
        item = ap (λ (l : List Item). get_or l i blank) items ∙ get_or-set_same (queue_of core q).items i now.item blank old.inside;
        inside = omega (arith, long, old.inside);
        count = long ∙ old.count;
        beside = λ j other. ap (λ (l : List Item). get_or l j blank) items ∙ get_or-set_other (queue_of core q).items i j now.item blank other ∙ old.beside j other;
        elsewhere = λ p other. turned.elsewhere p other ∙ old.elsewhere p other;
      }

  -- ---- steps of the queue

  module _ (lane : Lane) (low high : ℕ) (owner : Owner) (seats : List SeatLists) (next : ℕ) (core : Core) (old : Under lane low high owner seats next core) where
    hand_of : (seat : ℕ) → lane.item.whereabouts ≡ WithSeat seat → IsInHand core seat q i
    hand_of seat hand = ap (λ (k : Item). k.whereabouts) old.has.item ∙ hand

    tag_of : (tag : ℕ) → lane.item.tag ≡ tag → (item_of core q i).tag ≡ tag
    tag_of tag is = ap (λ (k : Item). k.tag) old.has.item ∙ is

    pub got : (seat place : ℕ) (rest : List Entry) → Fills core seat q → lane.free ≡ (record { place = place; item = i }) ∷ rest
        → Enabled core (GetItem seat q i place) × Under (record lane { free = rest; item = record lane.item { whereabouts = WithSeat seat } }) low high owner seats next (after_step core (GetItem seat q i place))
    unfolding conditions_by after_step with_item without_first_free
    got seat place rest fills is =
        let free : (queue_of core q).free ≡ (record { place = place; item = i }) ∷ rest = old.has.free ∙ is in
        let at_place : place ≡ first_place (queue_of core q).free (queue_of core q).next_free = sym (ap (λ (es : List Entry). first_place es (queue_of core q).next_free) free) in
        let at_item : i ≡ first_item (queue_of core q).free = sym (ap first_item free) in
        let enabled : Enabled core (GetItem seat q i place) = rw (met_either core seat fills.role, met_fill core seat q i fills old.has.inside, met_first_free core q place at_place, met_first_free_item core q i at_item) refl in
        let first : Queue → Queue = λ (k : Queue). record k { free = drop 1 k.free } in
        let it : Item = record (item_of core q i) { whereabouts = WithSeat seat } in
        let second : Queue → Queue = λ (k : Queue). record k { items = set k.items i it } in
        let now : Lane = record lane { free = rest; item = record lane.item { whereabouts = WithSeat seat } } in (
          enabled,
          record {
            sound = keeps_sound core (GetItem seat q i place) old.sound enabled;
            shape = old.shape;
            next_is = old.next_is;
            seats_are = old.seats_are;
            has = lane_turned core (after_step core (GetItem seat q i place)) lane now (λ k. second (first k)) old.has (turned_twice core (after_step core (GetItem seat q i place)) lane first second old.has refl)
                (ap (λ (k : Item). set (queue_of core q).items i (record k { whereabouts = WithSeat seat })) old.has.item)
                (ap (drop 1) free) old.has.next_free old.has.line old.has.next_line;
            chunks = record { within = old.chunks.within; off = old.chunks.off };
          },
        )

    pub run_set : (seat : ℕ) (run : Run) → Fills core seat q → lane.item.whereabouts ≡ WithSeat seat → lane.item.tag ≡ 0 → FitsQueue core.shape q run → ((n : ℕ) → IsInRun run n → owner_of core n ≡ Seat seat)
        → Enabled core (SetRun seat q i run) × Under (record lane { item = record lane.item { run = run } }) low high owner seats next (after_step core (SetRun seat q i run))
    unfolding conditions_by after_step with_item
    run_set seat run fills hand untagged fits owns =
        let enabled : Enabled core (SetRun seat q i run) = rw (met_either core seat fills.role, met_fill core seat q i fills old.has.inside, met_holds core seat q i (hand_of seat hand), met_tag core q i 0 (tag_of 0 untagged), met_fits core seat q run fills fits, met_run_owner core seat run owns) refl in
        let change : Queue → Queue = λ (k : Queue). record k { items = set k.items i (record (item_of core q i) { run = run }) } in
        let now : Lane = record lane { item = record lane.item { run = run } } in (
          enabled,
          record {
            sound = keeps_sound core (SetRun seat q i run) old.sound enabled;
            shape = old.shape;
            next_is = old.next_is;
            seats_are = old.seats_are;
            has = lane_turned core (after_step core (SetRun seat q i run)) lane now change old.has (turned_once core (after_step core (SetRun seat q i run)) lane change old.has refl)
                (ap (λ (k : Item). set (queue_of core q).items i (record k { run = run })) old.has.item)
                old.has.free old.has.next_free old.has.line old.has.next_line;
            chunks = record { within = old.chunks.within; off = old.chunks.off };
          },
        )

    pub part_set : (seat part : ℕ) → Fills core seat q → lane.item.whereabouts ≡ WithSeat seat → lane.item.tag ≡ 0
        → Enabled core (SetPart seat q i part) × Under (record lane { item = record lane.item { part = part } }) low high owner seats next (after_step core (SetPart seat q i part))
    unfolding conditions_by after_step with_item
    part_set seat part fills hand untagged =
        let enabled : Enabled core (SetPart seat q i part) = rw (met_either core seat fills.role, met_fill core seat q i fills old.has.inside, met_holds core seat q i (hand_of seat hand), met_tag core q i 0 (tag_of 0 untagged)) refl in
        let change : Queue → Queue = λ (k : Queue). record k { items = set k.items i (record (item_of core q i) { part = part }) } in
        let now : Lane = record lane { item = record lane.item { part = part } } in (
          enabled,
          record {
            sound = keeps_sound core (SetPart seat q i part) old.sound enabled;
            shape = old.shape;
            next_is = old.next_is;
            seats_are = old.seats_are;
            has = lane_turned core (after_step core (SetPart seat q i part)) lane now change old.has (turned_once core (after_step core (SetPart seat q i part)) lane change old.has refl)
                (ap (λ (k : Item). set (queue_of core q).items i (record k { part = part })) old.has.item)
                old.has.free old.has.next_free old.has.line old.has.next_line;
            chunks = record { within = old.chunks.within; off = old.chunks.off };
          },
        )

    -- the run of the item gets a new owner
    run_goes : (new : Core) (to : Owner) → FitsQueue core.shape q lane.item.run → low ≡ chunk_number lane.item.run.segment lane.item.run.chunk → high ≡ low + chunks_for lane.item.run.size
        → new.owners ≡ set_all core.owners (chunk_number (item_of core q i).run.segment (item_of core q i).run.chunk) (chunks_for (item_of core q i).run.size) to → HasOwner new low high to
    run_goes new to fits is_low is_high is =
        let owners : new.owners ≡ set_all core.owners (chunk_number lane.item.run.segment lane.item.run.chunk) (chunks_for lane.item.run.size) to =
        is ∙ ap (λ (k : Item). set_all core.owners (chunk_number k.run.segment k.run.chunk) (chunks_for k.run.size) to) old.has.item in
        let there = run_is_there core q lane.item.run old.sound.held.shape fits in
        record {
          within = λ n from below. ap (λ (l : List Owner). get_or l n Free) owners ∙ set_all_inside core.owners (chunk_number lane.item.run.segment lane.item.run.chunk) (chunks_for lane.item.run.size) to Free n (omega (arith, from, is_low)) (omega (arith, below, is_high, is_low)) (omega (arith, there, below, is_high, is_low));
          off = λ n away. ap (λ (l : List Owner). get_or l n Free) owners ∙ set_all_outside core.owners (chunk_number lane.item.run.segment lane.item.run.chunk) (chunks_for lane.item.run.size) to Free n (elim away [
            | inl less ↦ inl (omega (arith, less, is_low))
            | inr more ↦ inr (omega (arith, more, is_high, is_low))
          ]) ∙ old.chunks.off n away;
        }

    pub armed : (seat stream : ℕ) → Fills core seat q → lane.item.whereabouts ≡ WithSeat seat → lane.item.tag ≡ 0 → FitsQueue core.shape q lane.item.run
        → low ≡ chunk_number lane.item.run.segment lane.item.run.chunk → high ≡ low + chunks_for lane.item.run.size → owner ≡ Seat seat
        → MayArm core seat q i stream lane.item.part
        → Enabled core (Arm seat q i stream)
        × Under (record lane { item = record lane.item { tag = stream; stream = stream } }) low high (Message q i) (change_at seat (noted (armed_note q stream lane.item)) seats) next (after_step core (Arm seat q i stream))
    unfolding conditions_by after_step with_item with_note with_run_owner
    armed seat stream fills hand untagged fits is_low is_high is_owner may =
        let it : Item = item_of core q i in
        let fits' : FitsQueue core.shape q it.run = subst (λ (k : Item). FitsQueue core.shape q k.run) (sym old.has.item) fits in
        let may' : MayArm core seat q i stream it.part = subst (λ (k : Item). MayArm core seat q i stream k.part) (sym old.has.item) may in
        let owns : (n : ℕ) → IsInRun it.run n → owner_of core n ≡ Seat seat = subst (λ (k : Item). (n : ℕ) → IsInRun k.run n → owner_of core n ≡ Seat seat) (sym old.has.item)
        (λ n within. old.chunks.within n (omega (arith, within.0, is_low)) (omega (arith, within.1, is_high, is_low)) ∙ is_owner) in
        let enabled : Enabled core (Arm seat q i stream) = rw (met_either core seat fills.role, met_fill core seat q i fills old.has.inside, met_holds core seat q i (hand_of seat hand), met_tag core q i 0 (tag_of 0 untagged), met_fits core seat q it.run fills fits', met_run_owner core seat it.run owns, met_arm core seat q i stream may') refl in
        let change : Queue → Queue = λ (k : Queue). record k { items = set k.items i (record it { tag = stream; stream = stream }) } in
        let now : Lane = record lane { item = record lane.item { tag = stream; stream = stream } } in
        let new : Core = after_step core (Arm seat q i stream) in (
          enabled,
          record {
            sound = keeps_sound core (Arm seat q i stream) old.sound enabled;
            shape = old.shape;
            next_is = old.next_is;
            seats_are = ap (change_at seat (noted (armed_note q stream it))) old.seats_are ∙ ap (λ (k : Item). change_at seat (noted (armed_note q stream k)) seats) old.has.item;
            has = lane_turned core new lane now change old.has (turned_once core new lane change old.has refl)
                (ap (λ (k : Item). set (queue_of core q).items i (record k { tag = stream; stream = stream })) old.has.item)
                old.has.free old.has.next_free old.has.line old.has.next_line;
            chunks = run_goes new (Message q i) fits is_low is_high refl;
          },
        )

    pub pushed : (seat place : ℕ) → Fills core seat q → lane.item.whereabouts ≡ WithSeat seat → lane.item.tag ≢ 0 → place ≡ lane.next_line → place < place_limit
        → Enabled core (Push seat q i place)
        × Under (record lane { line = lane.line ++ (record { place = place; item = i }) ∷ []; next_line = place + 1; item = record lane.item { whereabouts = InLine } }) low high owner seats next (after_step core (Push seat q i place))
    unfolding conditions_by after_step with_item with_in_line
    pushed seat place fills hand tagged at early =
        let entry : Entry = record { place = place; item = i } in
        let enabled : Enabled core (Push seat q i place) = rw (met_either core seat fills.role, met_fill core seat q i fills old.has.inside, met_holds core seat q i (hand_of seat hand), met_tagged core q i (λ none. tagged (sym (ap (λ (k : Item). k.tag) old.has.item) ∙ none)), met_next_in_line core q place (at ∙ sym old.has.next_line) early) refl in
        let first : Queue → Queue = λ (k : Queue). record k { line = k.line ++ entry ∷ []; next_line = place + 1 } in
        let it : Item = record (item_of core q i) { whereabouts = InLine } in
        let second : Queue → Queue = λ (k : Queue). record k { items = set k.items i it } in
        let now : Lane = record lane { line = lane.line ++ entry ∷ []; next_line = place + 1; item = record lane.item { whereabouts = InLine } } in (
          enabled,
          record {
            sound = keeps_sound core (Push seat q i place) old.sound enabled;
            shape = old.shape;
            next_is = old.next_is;
            seats_are = old.seats_are;
            has = lane_turned core (after_step core (Push seat q i place)) lane now (λ k. second (first k)) old.has (turned_twice core (after_step core (Push seat q i place)) lane first second old.has refl)
                (ap (λ (k : Item). set (queue_of core q).items i (record k { whereabouts = InLine })) old.has.item)
                old.has.free old.has.next_free (ap (λ (es : List Entry). es ++ entry ∷ []) old.has.line) refl;
            chunks = record { within = old.chunks.within; off = old.chunks.off };
          },
        )

    pub popped : (seat place : ℕ) (rest : List Entry) → Empties core seat q → lane.line ≡ (record { place = place; item = i }) ∷ rest
        → Enabled core (Pop seat q i place) × Under (record lane { line = rest; item = record lane.item { whereabouts = WithSeat seat } }) low high owner seats next (after_step core (Pop seat q i place))
    unfolding conditions_by after_step with_item without_first_in_line
    popped seat place rest empties is =
        let line : (queue_of core q).line ≡ (record { place = place; item = i }) ∷ rest = old.has.line ∙ is in
        let at_place : place ≡ first_place (queue_of core q).line (queue_of core q).next_line = sym (ap (λ (es : List Entry). first_place es (queue_of core q).next_line) line) in
        let at_item : i ≡ first_item (queue_of core q).line = sym (ap first_item line) in
        let enabled : Enabled core (Pop seat q i place) = rw (met_pop_role core seat q empties, met_empty core seat q i empties old.has.inside, met_first_in_line core q place at_place, met_first_item_in_line core q i at_item) refl in
        let first : Queue → Queue = λ (k : Queue). record k { line = drop 1 k.line } in
        let it : Item = record (item_of core q i) { whereabouts = WithSeat seat } in
        let second : Queue → Queue = λ (k : Queue). record k { items = set k.items i it } in
        let now : Lane = record lane { line = rest; item = record lane.item { whereabouts = WithSeat seat } } in (
          enabled,
          record {
            sound = keeps_sound core (Pop seat q i place) old.sound enabled;
            shape = old.shape;
            next_is = old.next_is;
            seats_are = old.seats_are;
            has = lane_turned core (after_step core (Pop seat q i place)) lane now (λ k. second (first k)) old.has (turned_twice core (after_step core (Pop seat q i place)) lane first second old.has refl)
                (ap (λ (k : Item). set (queue_of core q).items i (record k { whereabouts = WithSeat seat })) old.has.item)
                old.has.free old.has.next_free (ap (drop 1) line) old.has.next_line;
            chunks = record { within = old.chunks.within; off = old.chunks.off };
          },
        )

    pub settled : (seat stream : ℕ) → stream ≢ 0 → lane.item.tag ≡ stream → FitsQueue core.shape q lane.item.run
        → low ≡ chunk_number lane.item.run.segment lane.item.run.chunk → high ≡ low + chunks_for lane.item.run.size
        → MaySettle core seat q i stream
        → Enabled core (Settle seat q i stream)
        × Under (record lane { item = record lane.item { tag = 0 } }) low high (Seat seat) (change_at seat (noted (settled_note (role_of core seat == 0) q stream lane.item)) seats) next (after_step core (Settle seat q i stream))
    unfolding conditions_by after_step with_item with_note with_run_owner
    settled seat stream some tagged fits is_low is_high may =
        let it : Item = item_of core q i in
        let enabled : Enabled core (Settle seat q i stream) = rw (met_either core seat (settling_role core seat q i stream may), met_use core q i old.has.inside, met_tag core q i stream (tag_of stream tagged), met_settle core seat q i stream some may) refl in
        let change : Queue → Queue = λ (k : Queue). record k { items = set k.items i (record it { tag = 0 }) } in
        let now : Lane = record lane { item = record lane.item { tag = 0 } } in
        let new : Core = after_step core (Settle seat q i stream) in (
          enabled,
          record {
            sound = keeps_sound core (Settle seat q i stream) old.sound enabled;
            shape = old.shape;
            next_is = old.next_is;
            seats_are = ap (change_at seat (noted (settled_note (role_of core seat == 0) q stream it))) old.seats_are ∙ ap (λ (k : Item). change_at seat (noted (settled_note (role_of core seat == 0) q stream k)) seats) old.has.item;
            has = lane_turned core new lane now change old.has (turned_once core new lane change old.has refl)
                (ap (λ (k : Item). set (queue_of core q).items i (record k { tag = 0 })) old.has.item)
                old.has.free old.has.next_free old.has.line old.has.next_line;
            chunks = run_goes new (Seat seat) fits is_low is_high refl;
          },
        )

    pub given : (seat place : ℕ) → role_of core seat ≤ 1 → lane.item.whereabouts ≡ WithSeat seat → lane.item.tag ≡ 0 → place ≡ lane.next_free → place < place_limit
        → Enabled core (GiveItem seat q i place)
        × Under (record lane { free = lane.free ++ (record { place = place; item = i }) ∷ []; next_free = place + 1; item = record lane.item { whereabouts = InFreeList } }) low high owner seats next (after_step core (GiveItem seat q i place))
    unfolding conditions_by after_step with_item with_free
    given seat place role hand untagged at early =
        let entry : Entry = record { place = place; item = i } in
        let enabled : Enabled core (GiveItem seat q i place) = rw (met_either core seat role, met_use core q i old.has.inside, met_holds core seat q i (hand_of seat hand), met_tag core q i 0 (tag_of 0 untagged), met_next_free core q place (at ∙ sym old.has.next_free) early) refl in
        let first : Queue → Queue = λ (k : Queue). record k { free = k.free ++ entry ∷ []; next_free = place + 1 } in
        let it : Item = record (item_of core q i) { whereabouts = InFreeList } in
        let second : Queue → Queue = λ (k : Queue). record k { items = set k.items i it } in
        let now : Lane = record lane { free = lane.free ++ entry ∷ []; next_free = place + 1; item = record lane.item { whereabouts = InFreeList } } in (
          enabled,
          record {
            sound = keeps_sound core (GiveItem seat q i place) old.sound enabled;
            shape = old.shape;
            next_is = old.next_is;
            seats_are = old.seats_are;
            has = lane_turned core (after_step core (GiveItem seat q i place)) lane now (λ k. second (first k)) old.has (turned_twice core (after_step core (GiveItem seat q i place)) lane first second old.has refl)
                (ap (λ (k : Item). set (queue_of core q).items i (record k { whereabouts = InFreeList })) old.has.item)
                (ap (λ (es : List Entry). es ++ entry ∷ []) old.has.free) refl old.has.line old.has.next_line;
            chunks = record { within = old.chunks.within; off = old.chunks.off };
          },
        )

    -- ---- steps of chunks

    -- who has the chunks, where one of them has a new owner
    one_set : (number : ℕ) (to : Owner) → number < length core.owners → (n : ℕ) → (low' high' : ℕ) (owner' : Owner)
        → (low' ≤ number → number < high' → to ≡ owner') → ((number < low') ⊎ (high' ≤ number) → to ≡ Free)
        → ((low' ≤ n) → n < high' → n ≢ number → owner_of core n ≡ owner') → ((n < low') ⊎ (high' ≤ n) → n ≢ number → owner_of core n ≡ Free)
        → ((low' ≤ n) → n < high' → get_or (set core.owners number to) n Free ≡ owner') × ((n < low') ⊎ (high' ≤ n) → get_or (set core.owners number to) n Free ≡ Free)
    one_set number to there n low' high' owner' in_here off_here in_else off_else =
        elim (cases_eq n number) [
          | inl same ↦
              let is : get_or (set core.owners number to) n Free ≡ to = ap (λ (m : ℕ). get_or (set core.owners number to) m Free) same ∙ get_or-set_same core.owners number to Free there in (
                (λ from below. is ∙ in_here (omega (arith, from, same)) (omega (arith, below, same))),
                (λ away. is ∙ off_here (elim away [
                  | inl less ↦ inl (omega (arith, less, same))
                  | inr more ↦ inr (omega (arith, more, same))
                ])),
              )
          | inr other ↦
              let is : get_or (set core.owners number to) n Free ≡ owner_of core n = get_or-set_other core.owners number n to Free other in
              ((λ from below. is ∙ in_else from below other), (λ away. is ∙ off_else away other))
        ]

    pub claimed : (seat segment chunk : ℕ) → Fills core seat q → segment ≡ first_segment core.shape q → chunk < segment_chunks → high ≡ chunk_number segment chunk → low ≤ high → owner ≡ Seat seat
        → Enabled core (Claim seat segment chunk) × Under lane low (high + 1) owner seats next (after_step core (Claim seat segment chunk))
    unfolding conditions_by after_step with_owner
    claimed seat segment chunk fills first small is_high ordered is_owner =
        let number : ℕ = chunk_number segment chunk in
        let start : side_start core seat ≡ segment = (on_side core seat q fills.side).0 ∙ sym first in
        let some : 1 ≤ side_opened core seat = some_open in
        let most = opened_most core seat old.sound in
        let after : segment < side_end core seat = omega (arith, start, some, most) in
        let there : number < length core.owners = omega (arith, small, after, side_is_there core seat, old.sound.held.shape.chunks) in
        let none : owner_code (owner_of core number) ≡ 0 = ap owner_code (old.chunks.off number (inr (omega (arith, is_high)))) in
        let enabled : Enabled core (Claim seat segment chunk) = rw (met_either core seat fills.role, met_segments (side_start core seat) (side_end core seat) segment chunk small (omega (arith, start)) after, met_open_segment core seat segment (omega (arith, start, some)), met_owner_code core 0 number none) refl in
        let each : (n : ℕ) → ((low ≤ n) → n < high + 1 → get_or (set core.owners number (Seat seat)) n Free ≡ owner) × ((n < low) ⊎ (high + 1 ≤ n) → get_or (set core.owners number (Seat seat)) n Free ≡ Free) = λ n.
        one_set number (Seat seat) there n low (high + 1) owner (λ from below. sym is_owner)
        (λ away. absurd (omega (arith, away, is_high, ordered)))
        (λ from below other. old.chunks.within n from (omega (arith, below, other, is_high)))
        (λ away other. old.chunks.off n (elim away [
          | inl less ↦ inl less
          | inr more ↦ inr (omega (arith, more))
        ])) in (
          enabled,
          record {
            sound = keeps_sound core (Claim seat segment chunk) old.sound enabled;
            shape = old.shape;
            next_is = old.next_is;
            seats_are = old.seats_are;
            has = record { free = old.has.free; next_free = old.has.next_free; line = old.has.line; next_line = old.has.next_line; item = old.has.item; inside = old.has.inside; count = old.has.count; beside = old.has.beside; elsewhere = old.has.elsewhere };
            chunks = record { within = λ n from below. (each n).0 from below; off = λ n away. (each n).1 away };
          },
        )
      where
        some_open : 1 ≤ side_opened core seat
        some_open = elim (cases_Bool (role_of core seat == 0)) [
          | inl engine ↦ let is : side_opened core seat ≡ core.opened.out = rw engine refl in omega (arith, is, old.sound.held.segments.out.0)
          | inr worker ↦ let is : side_opened core seat ≡ core.opened.back = rw worker refl in omega (arith, is, old.sound.held.segments.back.0)
        ]

    pub released : (seat segment chunk : ℕ) → role_of core seat ≤ 1 → chunk < segment_chunks → low ≡ chunk_number segment chunk → low < high → owner ≡ Seat seat
        → Enabled core (Release seat segment chunk) × Under lane (low + 1) high owner seats next (after_step core (Release seat segment chunk))
    unfolding conditions_by after_step with_owner
    released seat segment chunk role small is_low some is_owner =
        let number : ℕ = chunk_number segment chunk in
        let own : owner_of core number ≡ Seat seat = old.chunks.within number (omega (arith, is_low)) (omega (arith, is_low, some)) ∙ is_owner in
        let there : number < length core.owners = owned_is_there core number seat own in
        let after : segment < core.shape.out_segments + core.shape.back_segments = omega (arith, there, old.sound.held.shape.chunks) in
        let enabled : Enabled core (Release seat segment chunk) = rw (met_either core seat role, met_segments 0 (core.shape.out_segments + core.shape.back_segments) segment chunk small (omega arith) after, met_owner_code core (1 + seat) number (ap owner_code own)) refl in
        let each : (n : ℕ) → ((low + 1 ≤ n) → n < high → get_or (set core.owners number Free) n Free ≡ owner) × ((n < low + 1) ⊎ (high ≤ n) → get_or (set core.owners number Free) n Free ≡ Free) = λ n.
        one_set number Free there n (low + 1) high owner
        (λ from below. absurd (omega (arith, from, is_low)))
        (λ away. refl)
        (λ from below other. old.chunks.within n (omega (arith, from)) below)
        (λ away other. old.chunks.off n (elim away [
          | inl less ↦ inl (omega (arith, less, other, is_low))
          | inr more ↦ inr more
        ])) in (
          enabled,
          record {
            sound = keeps_sound core (Release seat segment chunk) old.sound enabled;
            shape = old.shape;
            next_is = old.next_is;
            seats_are = old.seats_are;
            has = record { free = old.has.free; next_free = old.has.next_free; line = old.has.line; next_line = old.has.next_line; item = old.has.item; inside = old.has.inside; count = old.has.count; beside = old.has.beside; elsewhere = old.has.elsewhere };
            chunks = record { within = λ n from below. (each n).0 from below; off = λ n away. (each n).1 away };
          },
        )
