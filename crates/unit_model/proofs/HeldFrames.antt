-- What stays held right where a step leaves it alone.
use Rattle.std.proofs.Common.{◌≡◌, ◌≢◌, ℕ, ◌<◌, ◌≤◌, ◌==◌, Bool, true, false, List, [], ◌∷◌, ◌++◌, length, get_or, set, refl, sym, ap, subst, ◌∙◌, arith, inl, inr}
use Rattle.std.proofs.lemmas.Bool.{or_from, ne_eqb, cases_Bool}
use Rattle.std.proofs.lemmas.List.{length-set}
use Rattle.std.proofs.lemmas.List.Folds.{list_any-append}
use Rattle.unit_model.proofs.ChangedCore.{each_changed, each_item_changed}
use Rattle.unit_model.specs.Conditions.{has_stream}
use Rattle.unit_model.specs.Core.{blank, no_queue, no_seat, queue_of, item_of, seat_of, owner_of, chunk_number}
use Rattle.unit_model.specs.Effects.{noted, armed_note, settled_note}
use Rattle.unit_model.specs.Holding.{HasItsShape, HasItsOwners, HasItsSegments, HasNoStreamZero, FitsQueue, IsInRun, is_opened}
use Rattle.unit_model.specs.Lists.{change_at}
use Rattle.unit_model.specs.declared.machine.Core.{Core}
use Rattle.unit_model.specs.declared.machine.Item.{Item}
use Rattle.unit_model.specs.declared.machine.Note.{Note}
use Rattle.unit_model.specs.declared.machine.Note.TheVariants.{Drawn, Posted, Cancelled, Abandoned, Received, Taken, Sent, Closed}
use Rattle.unit_model.specs.declared.machine.Owner.{Owner}
use Rattle.unit_model.specs.declared.machine.Owner.TheVariants.{Free}
use Rattle.unit_model.specs.declared.machine.Queue.{Queue}
use Rattle.unit_model.specs.declared.machine.Seat.{Seat as SeatLists}
use Rattle.unit_model.specs.declared.machine.Sides.{Sides}
use Rattle.unit_model.specs.declared.runs.Run.{Run}

-- ---- the shape

pub keeps_shape : (core : Core) (next : ℕ) (opened : Sides) (owners : List Owner) (queues : List Queue) (seats : List SeatLists) → HasItsShape core → length owners ≡ length core.owners → length queues ≡ length core.queues → ((q : ℕ) → length (get_or queues q no_queue).items ≡ length (queue_of core q).items) → length seats ≡ length core.seats → HasItsShape (record { shape = core.shape; next = next; opened = opened; owners = owners; queues = queues; seats = seats })
keeps_shape core next opened owners queues seats shape chunks number items places = record {
  shape = shape.shape;
  chunks = chunks ∙ shape.chunks;
  queues = number ∙ shape.queues;
  items = λ queue there. items queue ∙ shape.items queue there;
  seats = places ∙ shape.seats;
}

-- a queue with an item written anew has as many
pub same_items : (queues : List Queue) (q i : ℕ) (change : Queue → Queue) (new : Item) → (change (get_or queues q no_queue)).items ≡ set (get_or queues q no_queue).items i new → (m : ℕ) → length (get_or (change_at q change queues) m no_queue).items ≡ length (get_or queues m no_queue).items
same_items queues q i change new sets =
    each_changed (λ m queue. length queue.items ≡ length (get_or queues m no_queue).items) q change queues no_queue
    (ap (length {A = Item}) sets ∙ length-set (get_or queues q no_queue).items i new) (λ m. refl)

-- ---- the owners

-- the item carries the message that it carried
abbrev pub IsSameMessage : Item → Item → Type 0
IsSameMessage old new = (new.tag ≡ old.tag) × (old.tag ≢ 0 → new.run ≡ old.run)

pub keeps_owners : (core : Core) (next : ℕ) (opened : Sides) (queues : List Queue) (seats : List SeatLists) → HasItsOwners core → ((q i : ℕ) → IsSameMessage (item_of core q i) (get_or (get_or queues q no_queue).items i blank)) → HasItsOwners (record { shape = core.shape; next = next; opened = opened; owners = core.owners; queues = queues; seats = seats })
keeps_owners core next opened queues seats owners same = record {
  messages = λ number queue item is.
      let both = owners.messages number queue item is in
      let these = same queue item in
      (λ none. both.0 (sym these.0 ∙ none), subst (λ (run : Run). IsInRun run number) (sym (these.1 both.0)) both.1);
  runs = λ number queue item armed inside.
      let these = same queue item in
      let was : (item_of core queue item).tag ≢ 0 = λ none. armed (these.0 ∙ none) in
      owners.runs number queue item was (subst (λ (run : Run). IsInRun run number) (these.1 was) inside);
  fits = λ queue item armed.
      let these = same queue item in
      let was : (item_of core queue item).tag ≢ 0 = λ none. armed (these.0 ∙ none) in
      subst (λ (run : Run). FitsQueue core.shape queue run) (sym (these.1 was)) (owners.fits queue item was);
  seats = owners.seats;
}

-- one item written anew
pub same_messages : (queues : List Queue) (q i : ℕ) (change : Queue → Queue) (new : Item) → (change (get_or queues q no_queue)).items ≡ set (get_or queues q no_queue).items i new → i < length (get_or queues q no_queue).items → IsSameMessage (get_or (get_or queues q no_queue).items i blank) new → (m j : ℕ) → IsSameMessage (get_or (get_or queues m no_queue).items j blank) (get_or (get_or (change_at q change queues) m no_queue).items j blank)
same_messages queues q i change new sets inside same =
    each_item_changed (λ m j item. IsSameMessage (get_or (get_or queues m no_queue).items j blank) item) queues q i change new sets inside same (λ m j other. (refl, λ armed. refl))

-- ---- the segments

-- the chunks that were free in segments that aren't open still are
pub keeps_segments : (core : Core) (next : ℕ) (owners : List Owner) (queues : List Queue) (seats : List SeatLists) → HasItsSegments core → ((segment chunk : ℕ) → chunk < 640 → is_opened core segment ≡ false → owner_of core (chunk_number segment chunk) ≡ Free → get_or owners (chunk_number segment chunk) Free ≡ Free) → HasItsSegments (record { shape = core.shape; next = next; opened = core.opened; owners = owners; queues = queues; seats = seats })
keeps_segments core next owners queues seats segments same = record {
  out = segments.out;
  back = segments.back;
  unopened = λ segment chunk inside closed. same segment chunk inside closed (segments.unopened segment chunk inside closed);
}

-- ---- the streams

-- 0 isn't among the streams that a note adds to those drawn and taken
abbrev pub drawn_or_taken : Note → ℕ
drawn_or_taken (Drawn stream) = stream
drawn_or_taken (Taken stream) = stream
drawn_or_taken (Posted stream) = 1
drawn_or_taken (Cancelled stream) = 1
drawn_or_taken (Abandoned stream) = 1
drawn_or_taken (Received part) = 1
drawn_or_taken (Sent part) = 1
drawn_or_taken (Closed stream) = 1

one_stream_more : (streams : List ℕ) (stream : ℕ) → has_stream 0 streams ≡ false → stream ≢ 0 → has_stream 0 (streams ++ stream ∷ []) ≡ false
one_stream_more streams stream none other =
    list_any-append (λ (x : ℕ). x == 0) streams (stream ∷ []) ∙ or_from (has_stream 0 streams) (has_stream 0 (stream ∷ [])) none (or_from (stream == 0) false (ne_eqb stream 0 other) refl)

drawn_more : (note : Note) (lists : SeatLists) → drawn_or_taken note ≢ 0 → has_stream 0 lists.drawn ≡ false → has_stream 0 (noted note lists).drawn ≡ false
drawn_more (Drawn stream) lists other none = one_stream_more lists.drawn stream none other
drawn_more (Taken stream) lists other none = none
drawn_more (Posted stream) lists other none = none
drawn_more (Cancelled stream) lists other none = none
drawn_more (Abandoned stream) lists other none = none
drawn_more (Received part) lists other none = none
drawn_more (Sent part) lists other none = none
drawn_more (Closed stream) lists other none = none

taken_more : (note : Note) (lists : SeatLists) → drawn_or_taken note ≢ 0 → has_stream 0 lists.taken ≡ false → has_stream 0 (noted note lists).taken ≡ false
taken_more (Drawn stream) lists other none = none
taken_more (Taken stream) lists other none = one_stream_more lists.taken stream none other
taken_more (Posted stream) lists other none = none
taken_more (Cancelled stream) lists other none = none
taken_more (Abandoned stream) lists other none = none
taken_more (Received part) lists other none = none
taken_more (Sent part) lists other none = none
taken_more (Closed stream) lists other none = none

pub keeps_streams : (core : Core) (next : ℕ) (opened : Sides) (owners : List Owner) (queues : List Queue) → HasNoStreamZero core → 1 ≤ next → HasNoStreamZero (record { shape = core.shape; next = next; opened = opened; owners = owners; queues = queues; seats = core.seats })
keeps_streams core next opened owners queues streams some = record { next = some; drawn = streams.drawn; taken = streams.taken }

pub notes_stream : (core : Core) (next seat : ℕ) (note : Note) (opened : Sides) (owners : List Owner) (queues : List Queue) → HasNoStreamZero core → 1 ≤ next → drawn_or_taken note ≢ 0 → HasNoStreamZero (record { shape = core.shape; next = next; opened = opened; owners = owners; queues = queues; seats = change_at seat (noted note) core.seats })
notes_stream core next seat note opened owners queues streams some other = record {
  next = some;
  drawn = each_changed (λ k lists. has_stream 0 lists.drawn ≡ false) seat (noted note) core.seats no_seat (drawn_more note (seat_of core seat) other (streams.drawn seat)) streams.drawn;
  taken = each_changed (λ k lists. has_stream 0 lists.taken ≡ false) seat (noted note) core.seats no_seat (taken_more note (seat_of core seat) other (streams.taken seat)) streams.taken;
}

pub armed_is_other : (queue stream : ℕ) (item : Item) → drawn_or_taken (armed_note queue stream item) ≢ 0
armed_is_other queue stream item none =
    elim (cases_Bool (queue == 0)) [
      | inl line ↦ let one : drawn_or_taken (armed_note queue stream item) ≡ 1 = rw line refl in absurd (omega (arith, none, one))
      | inr back ↦ let one : drawn_or_taken (armed_note queue stream item) ≡ 1 = rw back refl in absurd (omega (arith, none, one))
    ]

pub settled_is_other : (is_engine : Bool) (queue stream : ℕ) (item : Item) → stream ≢ 0 → drawn_or_taken (settled_note is_engine queue stream item) ≢ 0
settled_is_other true queue stream item other none =
    elim (cases_Bool (queue == 0)) [
      | inl line ↦ let one : drawn_or_taken (settled_note true queue stream item) ≡ 1 = rw line refl in absurd (omega (arith, none, one))
      | inr back ↦ let one : drawn_or_taken (settled_note true queue stream item) ≡ 1 = rw back refl in absurd (omega (arith, none, one))
    ]
settled_is_other false queue stream item other none =
    elim (cases_Bool (queue == 0)) [
      | inl line ↦ let one : drawn_or_taken (settled_note false queue stream item) ≡ stream = rw line refl in other (sym one ∙ none)
      | inr back ↦ let one : drawn_or_taken (settled_note false queue stream item) ≡ 1 = rw back refl in absurd (omega (arith, none, one))
    ]
