-- Steps that change a word of an item.
use Rattle.std.proofs.Common.{ℕ, ◌≡◌, ◌≢◌, ◌<◌, ◌==◌, ◌&&◌, ◌⊎◌, inl, inr, Bool, true, false, List, length, get_or, set, refl, sym, ap, ◌∙◌, subst, arith}
use Rattle.std.proofs.lemmas.Bool.{eq-eqb, ne_eqb}
use Rattle.port_message.proofs.RunWords.{numbers_of_packed}
use Rattle.port_message.specs.Words.{numbers_of, pack_of}
use Rattle.unit_model.proofs.Changes.{part_stays}
use Rattle.unit_model.proofs.HeldChunkSteps.{owner_cases, run_is_there}
use Rattle.unit_model.proofs.Introductions.{met_either, met_fill, met_use, met_holds, met_tag, met_fits, met_run_owner, met_arm, met_settle, settling_role}
use Rattle.unit_model.proofs.ItemChanges.{SetsItem, each_item}
use Rattle.unit_model.proofs.Presence.{hand_is_there}
use Rattle.unit_model.specs.Conditions.{conditions_by}
use Rattle.unit_model.specs.Core.{no_queue, queue_of, item_of, role_of, owner_of, chunk_number}
use Rattle.unit_model.specs.Effects.{after_step, with_item, with_note, with_run_owner, noted, armed_note, settled_note, set_all}
use Rattle.unit_model.specs.Holding.{items_of, IsArmed, IsInRun, FitsQueue}
use Rattle.unit_model.specs.Lists.{change_at}
use Rattle.unit_model.specs.Premises.{OwnsRun, MayArm}
use Rattle.unit_model.specs.Running.{Enabled}
use Rattle.unit_model.specs.Runs.{chunks_for}
use Rattle.unit_model.specs.Soundness.{IsSound}
use Rattle.unit_model.specs.declared.machine.Core.{Core}
use Rattle.unit_model.specs.declared.machine.Entry.{Entry}
use Rattle.unit_model.specs.declared.machine.Item.{Item}
use Rattle.unit_model.specs.declared.machine.Owner.{Owner}
use Rattle.unit_model.specs.declared.machine.Owner.TheVariants.{Free, Seat, Message}
use Rattle.unit_model.specs.declared.machine.Queue.{Queue}
use Rattle.unit_model.specs.declared.machine.Seat.{Seat as SeatLists}
use Rattle.unit_model.specs.declared.machine.Step.TheVariants.{SetRun, SetPart, Arm, Settle}
use Rattle.unit_model.specs.declared.runs.Run.{Run}
use Rattle.fabric_words.specs.Laws.{SetRunLaw, SetPartLaw, ArmLaw, SettleLaw, ArmGivesRun, SettleGivesRun}
use Rattle.fabric_words.specs.Places.{HasItem, Sets, ring_of, is_of_ring}
use Rattle.fabric_words.specs.Shown.{ShowsList, ShowsItem, Shows, is_owned_by_none}
use Rattle.fabric_words.specs.declared.place.Place.{Place}
use Rattle.fabric_words.specs.declared.place.Place.TheVariants.{NextStream, OpenedOut, OpenedBack, Head, Tail, Slot, Tag, RunWord, PartWord, Chunks}
use Rattle.fabric_words.specs.declared.place.Side.{Side}
use Rattle.fabric_words.specs.declared.place.Side.TheVariants.{FreeSide, LineSide}
use Rattle.fabric_words.proofs.Frames.{list_stays, item_stays, chunk_stays, item_there, step_of}

-- ---- which item a word is of

abbrev pub is_of_item : ℕ → ℕ → Place → Bool
is_of_item queue item NextStream = false
is_of_item queue item OpenedOut = false
is_of_item queue item OpenedBack = false
is_of_item queue item (Head q s) = false
is_of_item queue item (Tail q s) = false
is_of_item queue item (Slot q s slot) = false
is_of_item queue item (Tag q i) = queue == q && item == i
is_of_item queue item (RunWord q i) = queue == q && item == i
is_of_item queue item (PartWord q i) = queue == q && item == i
is_of_item queue item (Chunks k) = false

own_item : (queue item : ℕ) → (queue == queue && item == item) ≡ true
own_item queue item = rw (eq-eqb queue queue refl, eq-eqb item item refl) refl

other_item : (q i queue item : ℕ) → (q ≢ queue) ⊎ (i ≢ item) → (q == queue && i == item) ≡ false
other_item q i queue item (inl other) = rw (ne_eqb q queue other) refl
other_item q i queue item (inr other) = rw (ne_eqb i item other) (both (q == queue))
  where
    both : (b : Bool) → (b && false) ≡ false
    both true = refl
    both false = refl

-- ---- one item changes

-- A word of one item is set. The item is this one then, and its words show it.
module _ (word word' : Place → ℕ) (core : Core) (shows : Shows word core) (queue item : ℕ) (new : Item) (owners : List Owner) (seats : List SeatLists) (place : Place) (x : ℕ) (sets : Sets core.shape word word' place x) where
  item_step : item < length (queue_of core queue).items
      → is_of_item queue item place ≡ true
      → ((q i : ℕ) → (q ≢ queue) ⊎ (i ≢ item) → is_of_item q i place ≡ false)
      → ((q : ℕ) (side : Side) → is_of_ring q side place ≡ false)
      → ShowsItem word' queue item new
      → ((number : ℕ) → is_owned_by_none (get_or owners number Free) ≡ is_owned_by_none (owner_of core number))
      → Shows word' (record core { queues = change_at queue (λ q. record q { items = set q.items item new }) core.queues; owners = owners; seats = seats })
  item_step inside this others rings here same_owners =
      let change : Queue → Queue = λ q. record q { items = set q.items item new } in
      let next_core : Core = record core { queues = change_at queue change core.queues; owners = owners; seats = seats } in
      let away : (other : Place) → is_of_item queue item other ≡ false → other ≢ place = λ other fails is. absurd (cc (this, fails, ap (is_of_item queue item) is)) in
      let changed : SetsItem core next_core queue item new = record { inside = inside; change = change; queues = refl; items = λ q. refl } in
      record {
        next = sets.others NextStream tt (away NextStream refl) ∙ shows.next;
        out = sets.others OpenedOut tt (away OpenedOut refl) ∙ shows.out;
        back = sets.others OpenedBack tt (away OpenedBack refl) ∙ shows.back;
        free = λ q there.
            let entries = part_stays (λ (k : Queue). k.free) queue change core.queues q no_queue (λ k. refl) in
            let next = part_stays (λ (k : Queue). k.next_free) queue change core.queues q no_queue (λ k. refl) in
            subst (ShowsList (items_of core.shape q) (ring_of word' q FreeSide) (get_or (change_at queue change core.queues) q no_queue).free) (sym next)
            (subst (λ (es : List Entry). ShowsList (items_of core.shape q) (ring_of word' q FreeSide) es (queue_of core q).next_free) (sym entries)
            (list_stays core.shape word word' place x sets q FreeSide (queue_of core q).free (queue_of core q).next_free there (rings q FreeSide) (shows.free q there)));
        line = λ q there.
            let entries = part_stays (λ (k : Queue). k.line) queue change core.queues q no_queue (λ k. refl) in
            let next = part_stays (λ (k : Queue). k.next_line) queue change core.queues q no_queue (λ k. refl) in
            subst (ShowsList (items_of core.shape q) (ring_of word' q LineSide) (get_or (change_at queue change core.queues) q no_queue).line) (sym next)
            (subst (λ (es : List Entry). ShowsList (items_of core.shape q) (ring_of word' q LineSide) es (queue_of core q).next_line) (sym entries)
            (list_stays core.shape word word' place x sets q LineSide (queue_of core q).line (queue_of core q).next_line there (rings q LineSide) (shows.line q there)));
        items = λ q i there. each_item (ShowsItem word' q i) core next_core queue item new changed q i
            (λ same_q same_i. subst (λ (k : ℕ). ShowsItem word' k i new) (sym same_q) (subst (λ (k : ℕ). ShowsItem word' queue k new) (sym same_i) here))
            (λ other.
            let off : (p : Place) → is_of_item q i p ≡ true → p ≢ place = λ p passes is. absurd (cc (passes, others q i other, ap (is_of_item q i) is)) in
            item_stays core.shape word word' place x sets q i (item_of core q i) there (off (Tag q i) (own_item q i)) (off (RunWord q i) (own_item q i)) (off (PartWord q i) (own_item q i)) (shows.items q i there));
        chunks = λ number lt. chunk_stays core.shape word word' place x sets (λ k. away (Chunks k) refl) number lt ∙ shows.chunks number lt ∙ sym (same_owners number);
      }

-- the chunks of a run had owners, and have a new one
run_moves : (core : Core) (queue : ℕ) (run : Run) (owner : Owner) → IsSound core → FitsQueue core.shape queue run → is_owned_by_none owner ≡ false → ((number : ℕ) → IsInRun run number → is_owned_by_none (owner_of core number) ≡ false)
    → (number : ℕ) → is_owned_by_none (get_or (set_all core.owners (chunk_number run.segment run.chunk) (chunks_for run.size) owner) number Free) ≡ is_owned_by_none (owner_of core number)
run_moves core queue run owner sound fits some had number =
    elim (owner_cases core.owners run owner (run_is_there core queue run sound.held.shape fits) number) [
      | inl within ↦ ap is_owned_by_none within.1 ∙ some ∙ sym (had number within.0)
      | inr outside ↦ ap is_owned_by_none outside.1
    ]

-- the word of a run that fits has the run's numbers
fitting_word : (core : Core) (queue : ℕ) (run : Run) → FitsQueue core.shape queue run → numbers_of (pack_of run) ≡ run
fitting_word core queue run fits =
    numbers_of_packed run (omega (arith, fits.in_segment)) (omega (arith, fits.in_segment))

-- ---- a word of an item is set

-- the tag is set, and the run and the part stay
tag_set : (core : Core) (word word' : Place → ℕ) (queue item stream : ℕ) → HasItem core.shape queue item → Sets core.shape word word' (Tag queue item) stream → (old new : Item) → ShowsItem word queue item old → stream ≡ new.tag → old.run ≡ new.run → old.part ≡ new.part → ShowsItem word' queue item new
tag_set core word word' queue item stream there sets old new shown tag run part = record {
  tag = sets.here ∙ tag;
  run = ap numbers_of (sets.others (RunWord queue item) there (λ is. absurd (cc is))) ∙ shown.run ∙ run;
  part = sets.others (PartWord queue item) there (λ is. absurd (cc is)) ∙ shown.part ∙ part;
}

-- ---- Settle

pub settle_step : SettleLaw
unfolding conditions_by after_step with_item with_note with_run_owner
settle_step seat queue item stream word word' core sound shows needs sets =
    let old : Item = item_of core queue item in
    let new : Item = record old { tag = 0 } in
    let inside : item < length (queue_of core queue).items = omega (arith, needs.there.in_items, sound.held.shape.items queue needs.there.in_queues) in
    let shown = shows.items queue item needs.there in
    let tagged : old.tag ≡ stream = sym shown.tag ∙ needs.tag in
    let armed : IsArmed core queue item = λ none. needs.armed (sym tagged ∙ none) in
    let enabled : Enabled core (Settle seat queue item stream) = rw (met_either core seat (settling_role core seat queue item stream needs.may), met_use core queue item inside, met_tag core queue item stream tagged, met_settle core seat queue item stream needs.armed needs.may) refl in
    step_of word' core (Settle seat queue item stream) sound enabled
    (item_step word word' core shows queue item new (set_all core.owners (chunk_number old.run.segment old.run.chunk) (chunks_for old.run.size) (Seat seat)) (change_at seat (noted (settled_note (role_of core seat == 0) queue stream old)) core.seats) (Tag queue item) 0 sets
    inside (own_item queue item) (λ q i other. other_item q i queue item other) (λ q side. refl)
    (tag_set core word word' queue item 0 needs.there sets old new shown refl refl refl)
    (run_moves core queue old.run (Seat seat) sound (sound.held.owners.fits queue item armed) refl (λ number within. ap is_owned_by_none (sound.held.owners.runs number queue item armed within))))

-- ---- Arm

pub arm_step : ArmLaw
unfolding conditions_by after_step with_item with_note with_run_owner
arm_step seat queue item stream word word' core sound shows needs sets =
    let old : Item = item_of core queue item in
    let new : Item = record old { tag = stream; stream = stream } in
    let inside : item < length (queue_of core queue).items = hand_is_there core seat queue item needs.hand in
    let there : HasItem core.shape queue item = item_there core queue item sound.held.shape inside in
    let shown = shows.items queue item there in
    let mine : OwnsRun core seat queue old.run = subst (OwnsRun core seat queue) shown.run needs.owns in
    let may : MayArm core seat queue item stream old.part = subst (MayArm core seat queue item stream) shown.part needs.may in
    let enabled : Enabled core (Arm seat queue item stream) = rw (met_either core seat needs.fills.role, met_fill core seat queue item needs.fills inside, met_holds core seat queue item needs.hand, met_tag core queue item 0 (sym shown.tag ∙ needs.untagged), met_fits core seat queue old.run needs.fills mine.fits, met_run_owner core seat old.run mine.owns, met_arm core seat queue item stream may) refl in
    step_of word' core (Arm seat queue item stream) sound enabled
    (item_step word word' core shows queue item new (set_all core.owners (chunk_number old.run.segment old.run.chunk) (chunks_for old.run.size) (Message queue item)) (change_at seat (noted (armed_note queue stream old)) core.seats) (Tag queue item) stream sets
    inside (own_item queue item) (λ q i other. other_item q i queue item other) (λ q side. refl)
    (tag_set core word word' queue item stream there sets old new shown refl refl refl)
    (run_moves core queue old.run (Message queue item) sound mine.fits refl (λ number within. ap is_owned_by_none (mine.owns number within))))

-- ---- SetRun, SetPart

pub set_run_step : SetRunLaw
unfolding conditions_by after_step with_item
set_run_step seat queue item run word word' core sound shows needs sets =
    let old : Item = item_of core queue item in
    let new : Item = record old { run = run } in
    let inside : item < length (queue_of core queue).items = hand_is_there core seat queue item needs.hand in
    let there : HasItem core.shape queue item = item_there core queue item sound.held.shape inside in
    let shown = shows.items queue item there in
    let enabled : Enabled core (SetRun seat queue item run) = rw (met_either core seat needs.fills.role, met_fill core seat queue item needs.fills inside, met_holds core seat queue item needs.hand, met_tag core queue item 0 (sym shown.tag ∙ needs.untagged), met_fits core seat queue run needs.fills needs.owns.fits, met_run_owner core seat run needs.owns.owns) refl in
    step_of word' core (SetRun seat queue item run) sound enabled
    (item_step word word' core shows queue item new core.owners core.seats (RunWord queue item) (pack_of run) sets
    inside (own_item queue item) (λ q i other. other_item q i queue item other) (λ q side. refl)
    (record {
      tag = sets.others (Tag queue item) there (λ is. absurd (cc is)) ∙ shown.tag;
      run = ap numbers_of sets.here ∙ fitting_word core queue run needs.owns.fits;
      part = sets.others (PartWord queue item) there (λ is. absurd (cc is)) ∙ shown.part;
    })
    (λ number. refl))

pub set_part_step : SetPartLaw
unfolding conditions_by after_step with_item
set_part_step seat queue item part word word' core sound shows needs sets =
    let old : Item = item_of core queue item in
    let new : Item = record old { part = part } in
    let inside : item < length (queue_of core queue).items = hand_is_there core seat queue item needs.hand in
    let there : HasItem core.shape queue item = item_there core queue item sound.held.shape inside in
    let shown = shows.items queue item there in
    let enabled : Enabled core (SetPart seat queue item part) = rw (met_either core seat needs.fills.role, met_fill core seat queue item needs.fills inside, met_holds core seat queue item needs.hand, met_tag core queue item 0 (sym shown.tag ∙ needs.untagged)) refl in
    step_of word' core (SetPart seat queue item part) sound enabled
    (item_step word word' core shows queue item new core.owners core.seats (PartWord queue item) part sets
    inside (own_item queue item) (λ q i other. other_item q i queue item other) (λ q side. refl)
    (record {
      tag = sets.others (Tag queue item) there (λ is. absurd (cc is)) ∙ shown.tag;
      run = ap numbers_of (sets.others (RunWord queue item) there (λ is. absurd (cc is))) ∙ shown.run;
      part = sets.here;
    })
    (λ number. refl))

-- ---- who has the chunks

-- in the run the new owner has the chunks
run_goes : (core : Core) (queue : ℕ) (run : Run) (owner : Owner) → IsSound core → FitsQueue core.shape queue run → (number : ℕ) → IsInRun run number
    → get_or (set_all core.owners (chunk_number run.segment run.chunk) (chunks_for run.size) owner) number Free ≡ owner
run_goes core queue run owner sound fits number within =
    elim (owner_cases core.owners run owner (run_is_there core queue run sound.held.shape fits) number) [
      | inl inside ↦ inside.1
      | inr outside ↦ absurd (outside.0 within)
    ]

pub arm_gives_run : ArmGivesRun
unfolding after_step with_item with_note with_run_owner
arm_gives_run word core sound shows seat queue item stream needs number within =
    let there : HasItem core.shape queue item = item_there core queue item sound.held.shape (hand_is_there core seat queue item needs.hand) in
    let run : Run = (item_of core queue item).run in
    let is : numbers_of (word (RunWord queue item)) ≡ run = (shows.items queue item there).run in
    let mine : OwnsRun core seat queue run = subst (OwnsRun core seat queue) is needs.owns in
    let inside : IsInRun run number = subst (λ (r : Run). IsInRun r number) is within in
    (mine.owns number inside, run_goes core queue run (Message queue item) sound mine.fits number inside)

pub settle_gives_run : SettleGivesRun
unfolding after_step with_item with_note with_run_owner
settle_gives_run word core sound shows seat queue item stream needs number within =
    let run : Run = (item_of core queue item).run in
    let shown = shows.items queue item needs.there in
    let armed : IsArmed core queue item = λ none. needs.armed (sym needs.tag ∙ shown.tag ∙ none) in
    let inside : IsInRun run number = subst (λ (r : Run). IsInRun r number) shown.run within in
    (sound.held.owners.runs number queue item armed inside, run_goes core queue run (Seat seat) sound (sound.held.owners.fits queue item armed) number inside)
