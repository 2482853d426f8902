-- Steps that change no word of a queue, and changes that are no steps.
use Rattle.std.proofs.Common.{ℕ, ◌+◌, ◌-◌, ◌*◌, ◌/◌, ◌%◌, ◌≡◌, ◌≢◌, ◌<◌, ◌==◌, inl, inr, Bool, true, false, if◌then◌else◌, List, length, get_or, set, refl, sym, ap, ◌∙◌, subst, arith, get_or-set_same, get_or-set_other}
use Rattle.std.proofs.lemmas.Bool.{cases_eq, cases_Bool, eq-eqb, eqb-true}
use Rattle.std.specs.Int.{bit_at}
use Rattle.std.proofs.lemmas.Nat.Bits.{bit_at-lt}
use Rattle.chunk_map.proofs.Bits.{bit_takes, bit_frees}
use Rattle.chunk_map.specs.Words.{is_free, SetsWord}
use Rattle.unit_model.proofs.Introductions.{met_engine, met_either, met_next_stream, met_segments, met_open_segment, met_open, met_owner_code, met_abandon}
use Rattle.unit_model.proofs.Presence.{opened_most, owned_is_there, side_is_there}
use Rattle.unit_model.specs.Conditions.{conditions_by}
use Rattle.unit_model.specs.Core.{queue_of, item_of, role_of, owner_of, owner_code, chunk_number, side_start, side_end, side_opened}
use Rattle.unit_model.specs.Effects.{after_step, with_note, with_owner, with_opened, noted}
use Rattle.unit_model.specs.Lists.{change_at}
use Rattle.unit_model.specs.Running.{Enabled}
use Rattle.unit_model.specs.declared.machine.Core.{Core}
use Rattle.unit_model.specs.declared.machine.Note.TheVariants.{Drawn, Abandoned}
use Rattle.unit_model.specs.declared.machine.Owner.{Owner}
use Rattle.unit_model.specs.declared.machine.Owner.TheVariants.{Free, Seat, Message}
use Rattle.unit_model.specs.declared.machine.Seat.{Seat as SeatLists}
use Rattle.unit_model.specs.declared.machine.Sides.{Sides}
use Rattle.unit_model.specs.declared.machine.Step.TheVariants.{Draw, Claim, Release, Open, Abandon}
use Rattle.fabric_words.specs.Laws.{DrawLaw, ClaimLaw, ReleaseLaw, OpenLaw, AbandonLaw, StayLaw}
use Rattle.fabric_words.specs.Places.{Sets, SetsChunk, Stays, segments_of, map_of, opened_place, is_of_ring}
use Rattle.fabric_words.specs.Shown.{Shows, is_owned_by_none}
use Rattle.fabric_words.specs.declared.place.Place.{Place}
use Rattle.fabric_words.specs.declared.place.Place.TheVariants.{NextStream, OpenedOut, OpenedBack, Head, Tail, Slot, Tag, RunWord, PartWord, Chunks}
use Rattle.fabric_words.specs.declared.place.Side.{Side}
use Rattle.fabric_words.specs.declared.place.Side.TheVariants.{FreeSide, LineSide}
use Rattle.fabric_words.proofs.Frames.{list_stays, item_stays, chunk_stays, step_of}

-- a word of a ring or of an item
abbrev pub is_of_queues : Place → Bool
is_of_queues NextStream = false
is_of_queues OpenedOut = false
is_of_queues OpenedBack = false
is_of_queues (Head q s) = true
is_of_queues (Tail q s) = true
is_of_queues (Slot q s slot) = true
is_of_queues (Tag q i) = true
is_of_queues (RunWord q i) = true
is_of_queues (PartWord q i) = true
is_of_queues (Chunks k) = false

-- A word that is of no queue is set. What else the words show is given.
module _ (word word' : Place → ℕ) (core : Core) (shows : Shows word core) (next : ℕ) (opened : Sides) (owners : List Owner) (seats : List SeatLists) (place : Place) (x : ℕ) (sets : Sets core.shape word word' place x) where
  outside_step : is_of_queues place ≡ false
      → ((q : ℕ) (side : Side) → is_of_ring q side place ≡ false)
      → word' NextStream ≡ next → word' OpenedOut ≡ opened.out → word' OpenedBack ≡ opened.back
      → ((number : ℕ) → number < 640 * segments_of core.shape → is_free (map_of word') number ≡ is_owned_by_none (get_or owners number Free))
      → Shows word' (record core { next = next; opened = opened; owners = owners; seats = seats })
  outside_step off rings streams out back chunks =
      let away : (other : Place) → is_of_queues other ≡ true → other ≢ place = λ other passes is. absurd (cc (passes, off, ap is_of_queues is)) in
      record {
        next = streams;
        out = out;
        back = back;
        free = λ q there. list_stays core.shape word word' place x sets q FreeSide (queue_of core q).free (queue_of core q).next_free there (rings q FreeSide) (shows.free q there);
        line = λ q there. list_stays core.shape word word' place x sets q LineSide (queue_of core q).line (queue_of core q).next_line there (rings q LineSide) (shows.line q there);
        items = λ q i there. item_stays core.shape word word' place x sets q i (item_of core q i) there (away (Tag q i) refl) (away (RunWord q i) refl) (away (PartWord q i) refl) (shows.items q i there);
        chunks = chunks;
      }

-- ---- Draw

pub draw_step : DrawLaw
unfolding conditions_by after_step with_note
draw_step seat stream word word' core sound shows needs sets =
    let enabled : Enabled core (Draw seat stream) = rw (met_engine core seat needs.role, met_next_stream core stream (sym needs.next ∙ shows.next) needs.low) refl in
    step_of word' core (Draw seat stream) sound enabled
    (outside_step word word' core shows (stream + 1) core.opened core.owners (change_at seat (noted (Drawn stream)) core.seats) NextStream (stream + 1) sets refl (λ q side. refl)
    sets.here (sets.others OpenedOut tt (λ is. absurd (cc is)) ∙ shows.out) (sets.others OpenedBack tt (λ is. absurd (cc is)) ∙ shows.back)
    (λ number lt. chunk_stays core.shape word word' NextStream (stream + 1) sets (λ k is. absurd (cc is)) number lt ∙ shows.chunks number lt))

-- ---- no change

stays_set : (core : Core) (word word' : Place → ℕ) → Stays core.shape word word' → Sets core.shape word word' NextStream (word NextStream)
stays_set core word word' stays = record { here = stays NextStream tt; others = λ other there ne. stays other there }

-- what seats have done isn't shown
shows_more : (word word' : Place → ℕ) (core : Core) (seats : List SeatLists) → Shows word core → Stays core.shape word word' → Shows word' (record core { seats = seats })
shows_more word word' core seats shows stays =
    let sets = stays_set core word word' stays in
    outside_step word word' core shows core.next core.opened core.owners seats NextStream (word NextStream) sets refl (λ q side. refl)
    (sets.here ∙ shows.next) (sets.others OpenedOut tt (λ is. absurd (cc is)) ∙ shows.out) (sets.others OpenedBack tt (λ is. absurd (cc is)) ∙ shows.back)
    (λ number lt. chunk_stays core.shape word word' NextStream (word NextStream) sets (λ k is. absurd (cc is)) number lt ∙ shows.chunks number lt)

pub stay_step : StayLaw
stay_step word word' core shows stays = shows_more word word' core core.seats shows stays

pub abandon_step : AbandonLaw
unfolding conditions_by after_step with_note
abandon_step seat stream word word' core sound shows needs stays =
    let enabled : Enabled core (Abandon seat stream) = rw (met_engine core seat needs.role, met_abandon core seat stream needs.may) refl in
    step_of word' core (Abandon seat stream) sound enabled (shows_more word word' core (change_at seat (noted (Abandoned stream)) core.seats) shows stays)

-- ---- Claim, Release

no_owner_code : (owner : Owner) → is_owned_by_none owner ≡ true → owner_code owner ≡ 0
no_owner_code Free is = refl
no_owner_code (Seat seat) is = absurd (cc is)
no_owner_code (Message queue item) is = absurd (cc is)

-- the word of a seat's side says how many of its segments are open
opened_shown : (word : Place → ℕ) (core : Core) (seat : ℕ) → Shows word core → word (opened_place core.shape seat) ≡ side_opened core seat
opened_shown word core seat shows =
    elim (cases_Bool (role_of core seat == 0)) [
      | inl engine ↦ rw engine shows.out
      | inr worker ↦ rw worker shows.back
    ]

-- a bit of the map changed, and with it who has the chunk
module _ (word word' : Place → ℕ) (core : Core) (shows : Shows word core) (number value : ℕ) (chunk : SetsChunk core.shape word word' number value) where
  map_set : SetsWord (640 * segments_of core.shape) (map_of word) (map_of word') (number / 64) (word' (Chunks (number / 64)))
  map_set = record { here = refl; others = λ other lt ne. chunk.set.others (Chunks other) (omega (arith, lt)) (λ is. ne (cc is)) }

  chunk_step : (owner : Owner) → number < length core.owners → is_free (map_of word') number ≡ is_owned_by_none owner
      → ((other : ℕ) → other < 640 * segments_of core.shape → other ≢ number → is_free (map_of word') other ≡ is_free (map_of word) other)
      → Shows word' (record core { owners = set core.owners number owner })
  chunk_step owner inside here elsewhere =
      let sets = chunk.set in
      outside_step word word' core shows core.next core.opened (set core.owners number owner) core.seats (Chunks (number / 64)) (word' (Chunks (number / 64))) sets refl (λ q side. refl)
      (sets.others NextStream tt (λ is. absurd (cc is)) ∙ shows.next) (sets.others OpenedOut tt (λ is. absurd (cc is)) ∙ shows.out) (sets.others OpenedBack tt (λ is. absurd (cc is)) ∙ shows.back)
      (λ k lt. elim (cases_eq k number) [
        | inl same ↦ subst (λ (m : ℕ). is_free (map_of word') m ≡ is_owned_by_none (get_or (set core.owners number owner) m Free)) (sym same)
            (here ∙ sym (ap is_owned_by_none (get_or-set_same core.owners number owner Free inside)))
        | inr other ↦ elsewhere k lt other ∙ shows.chunks k lt ∙ sym (ap is_owned_by_none (get_or-set_other core.owners number k owner Free other))
      ])

-- the bit of a chunk that isn't free is 0
clear_bit : (word : ℕ → ℕ) (number : ℕ) → is_free word number ≡ false → bit_at (word (number / 64)) (number % 64) ≡ 0
clear_bit word number held =
    let low : bit_at (word (number / 64)) (number % 64) < 2 = bit_at-lt (word (number / 64)) (number % 64) in
    let clear : bit_at (word (number / 64)) (number % 64) ≢ 1 = λ one. absurd (cc (held, eq-eqb (bit_at (word (number / 64)) (number % 64)) 1 one)) in
    omega (arith, low, clear)

pub claim_step : ClaimLaw
unfolding conditions_by after_step with_owner
claim_step seat segment chunk word word' core sound shows needs sets =
    let number : ℕ = chunk_number segment chunk in
    let is_open : segment - side_start core seat < side_opened core seat = omega (arith, needs.opened, opened_shown word core seat shows) in
    let high : segment < side_end core seat = omega (arith, needs.on_side, is_open, opened_most core seat sound) in
    let within : number < 640 * segments_of core.shape = omega (arith, needs.in_segment, high, side_is_there core seat) in
    let inside : number < length core.owners = omega (arith, within, sound.held.shape.chunks) in
    let none : owner_code (owner_of core number) ≡ 0 = no_owner_code (owner_of core number) (sym (shows.chunks number within) ∙ needs.was_free) in
    let set_bit : bit_at (word (Chunks (number / 64))) (number % 64) ≡ 1 = eqb-true (bit_at (word (Chunks (number / 64))) (number % 64)) 1 needs.was_free in
    let takes = bit_takes (640 * segments_of core.shape) (map_of word) (map_of word') number (word' (Chunks (number / 64))) (map_set word word' core shows number 0 sets) set_bit sets.bit in
    let enabled : Enabled core (Claim seat segment chunk) = rw (met_either core seat needs.role, met_segments (side_start core seat) (side_end core seat) segment chunk needs.in_segment needs.on_side high, met_open_segment core seat segment is_open, met_owner_code core 0 number none) refl in
    step_of word' core (Claim seat segment chunk) sound enabled (chunk_step word word' core shows number 0 sets (Seat seat) inside takes.here takes.others)

pub release_step : ReleaseLaw
unfolding conditions_by after_step with_owner
release_step seat segment chunk word word' core sound shows needs sets =
    let number : ℕ = chunk_number segment chunk in
    let inside : number < length core.owners = owned_is_there core number seat needs.own in
    let high : segment < core.shape.out_segments + core.shape.back_segments = omega (arith, inside, sound.held.shape.chunks) in
    let within : number < 640 * segments_of core.shape = omega (arith, inside, sound.held.shape.chunks) in
    let held : is_free (map_of word) number ≡ false = shows.chunks number within ∙ ap is_owned_by_none needs.own in
    let frees = bit_frees (640 * segments_of core.shape) (map_of word) (map_of word') number (word' (Chunks (number / 64))) (map_set word word' core shows number 1 sets) (clear_bit (map_of word) number held) sets.bit in
    let enabled : Enabled core (Release seat segment chunk) = rw (met_either core seat needs.role, met_segments 0 (core.shape.out_segments + core.shape.back_segments) segment chunk needs.in_segment (omega arith) high, met_owner_code core (1 + seat) number (ap owner_code needs.own)) refl in
    step_of word' core (Release seat segment chunk) sound enabled (chunk_step word word' core shows number 1 sets Free inside frees.here frees.others)

-- ---- Open

opened_step : (engine : Bool) (word word' : Place → ℕ) (core : Core) (count : ℕ) → Shows word core → Sets core.shape word word' (if engine then OpenedOut else OpenedBack) count
    → Shows word' (record core { opened = if engine then record core.opened { out = count } else record core.opened { back = count } })
opened_step true word word' core count shows sets =
    outside_step word word' core shows core.next (record core.opened { out = count }) core.owners core.seats OpenedOut count sets refl (λ q side. refl)
    (sets.others NextStream tt (λ is. absurd (cc is)) ∙ shows.next) sets.here (sets.others OpenedBack tt (λ is. absurd (cc is)) ∙ shows.back)
    (λ number lt. chunk_stays core.shape word word' OpenedOut count sets (λ k is. absurd (cc is)) number lt ∙ shows.chunks number lt)
opened_step false word word' core count shows sets =
    outside_step word word' core shows core.next (record core.opened { back = count }) core.owners core.seats OpenedBack count sets refl (λ q side. refl)
    (sets.others NextStream tt (λ is. absurd (cc is)) ∙ shows.next) (sets.others OpenedOut tt (λ is. absurd (cc is)) ∙ shows.out) sets.here
    (λ number lt. chunk_stays core.shape word word' OpenedBack count sets (λ k is. absurd (cc is)) number lt ∙ shows.chunks number lt)

pub open_step : OpenLaw
unfolding conditions_by after_step with_opened
open_step seat count word word' core sound shows needs sets =
    let enabled : Enabled core (Open seat count) = rw (met_either core seat needs.role, met_open core seat count (sym needs.opened ∙ opened_shown word core seat shows) needs.more) refl in
    step_of word' core (Open seat count) sound enabled (opened_step (role_of core seat == 0) word word' core (count + 1) shows sets)
