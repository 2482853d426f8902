-- Slots pass with tags.
use Rattle.std.proofs.Common.{ℕ, ◌+◌, ◌*◌, ◌≡◌, ◌≢◌, ◌≤◌, ◌<◌, ◌⊎◌, inl, inr, ⊎_elim, true, List, length, map, refl, sym, ap, ◌∙◌, subst, arith}
use Rattle.std.specs.Prelude.{Option, Some}
use Rattle.std.proofs.lemmas.Bool.{cases_eq, cases_lt}
use Rattle.std.specs.List.{range_with_len}
use mathlib.Core.Option.{some}
use lib.ListN.{get_elem?}
use Rattle.atomic_table.specs.Table.{homes_after}
use Rattle.carried_slots.specs.Acts.{becomes, takes_all}
use Rattle.carried_slots.specs.Carried.{numbers, IsDistinct}
use Rattle.carried_slots.specs.FreeSlots.{FreeSlots}
use Rattle.carried_slots.specs.RunLaws.{RunGiven, full_run}
use Rattle.carried_slots.specs.RunSlots.{run_gone}
use Rattle.carried_slots.specs.SlotLaws.{Taken}
use Rattle.carried_slots.proofs.FreeSlots.{free_become, free_taken_by}
use Rattle.carried_slots.proofs.Moving.{slots_taken}
use Rattle.carried_slots.proofs.RunLists.{out_of_range, run_is_taken}
use Rattle.carried_slots.proofs.RunMoving.{full_numbers, run_given, values_home}
use Rattle.chunk_map.specs.Words.{is_free}
use Rattle.request_context.specs.declared.piece.Parcel.{Parcel}
use Rattle.unit_model.specs.Core.{item_of, owner_of}
use Rattle.unit_model.specs.Holding.{IsInRun}
use Rattle.unit_model.specs.Limits.{segment_chunks}
use Rattle.unit_model.specs.Runs.{chunks_for}
use Rattle.unit_model.specs.Weights.{is_number, times}
use Rattle.unit_model.specs.declared.machine.Item.{Item}
use Rattle.unit_model.specs.declared.machine.Owner.{Owner}
use Rattle.unit_model.specs.declared.machine.Owner.TheVariants.{Seat, Message}
use Rattle.unit_model.specs.declared.runs.Run.{Run}
use Rattle.unit_model.specs.declared.shape.Shape.{Shape}
use Rattle.fabric_words.specs.Places.{HasItem, map_of, segments_of}
use Rattle.fabric_words.specs.Shown.{is_owned_by_none}
use Rattle.fabric_rule.specs.Contents.{ArmedFilled, IsFilled}
use Rattle.fabric_rule.specs.Passing.{SlotsComeLaw, SlotsGo, SlotsGoLaw, first_of}
use Rattle.fabric_rule.proofs.Contents.{filled_same, filled_stay}

-- a chunk is one of the run's, or lies off it
in_or_off : (run : Run) (chunk : ℕ) → IsInRun run chunk ⊎ ((chunk < first_of run) ⊎ (first_of run + chunks_for run.size ≤ chunk))
in_or_off run chunk =
    elim (cases_lt chunk (first_of run)) [
      | inl before ↦ inr (inl before)
      | inr from ↦ elim (cases_lt chunk (first_of run + chunks_for run.size)) [
        | inl within ↦ inl (omega (arith, from), within)
        | inr behind ↦ inr (inr (omega (arith, behind)))
      ]
    ]

-- one item or another
pub this_or_other : (queue item q i : ℕ) → ((q ≡ queue) × (i ≡ item)) ⊎ ((q ≢ queue) ⊎ (i ≢ item))
this_or_other queue item q i =
    elim (cases_eq q queue) [
      | inl same ↦ elim (cases_eq i item) [
        | inl is ↦ inl (same, is)
        | inr ne ↦ inr (inr ne)
      ]
      | inr ne ↦ inr (inl ne)
    ]

-- no chunk belongs to two messages
one_message : (owner : Owner) (q i queue item : ℕ) → owner ≡ Message q i → owner ≡ Message queue item → (q ≢ queue) ⊎ (i ≢ item) → ⊥
one_message owner q i queue item one two apart =
    let both : Message q i ≡ Message queue item = sym one ∙ two in
    ⊎_elim (λ ne. ne (cc both)) (λ ne. ne (cc both)) apart

-- nor to a message and to nobody
is_held : (owner : Owner) (queue item : ℕ) → owner ≡ Message queue item → is_owned_by_none owner ≡ true → ⊥
is_held owner queue item is unowned = absurd (cc (ap is_owned_by_none is, unowned))

is_seats : (owner : Owner) (seat : ℕ) → owner ≡ Seat seat → is_owned_by_none owner ≡ true → ⊥
is_seats owner seat is unowned = absurd (cc (ap is_owned_by_none is, unowned))

pub slots_come : (H : Type 0) → SlotsComeLaw H
slots_come H reply_of records core core' word homes carried sound shows shape queue item there armed others zero slots_free filled =
    let it : Item = item_of core queue item in
    let is : IsFilled reply_of records homes queue it = filled queue item there armed in
    let first : ℕ = first_of it.run in
    let t : List (ℕ × Option (Parcel H)) = full_run first is.parcels in
    let once : IsDistinct t = (run_is_taken first (map Some is.parcels) carried).distinct in
    let taken : Taken homes carried t = slots_taken homes carried t once (values_home first is.parcels homes is.home) in
    let off : (chunk : ℕ) → (chunk < first) ⊎ (first + chunks_for it.run.size ≤ chunk) → times chunk (numbers t) ≡ 0 = λ chunk away.
    ap (times chunk) (full_numbers first is.parcels ∙ ap (range_with_len first) is.long) ∙ out_of_range first (chunks_for it.run.size) chunk away in
    let uncarried : (chunk : ℕ) → chunk < segment_chunks * segments_of core.shape → is_free (map_of word) chunk ≡ true → times chunk (numbers t) ≡ 0 = λ chunk lt is_set.
    ⊎_elim (λ within. absurd (is_held (owner_of core chunk) queue item (sound.held.owners.runs chunk queue item armed within) (sym (shows.chunks chunk lt) ∙ is_set))) (λ away. off chunk away) (in_or_off it.run chunk) in
    let free' : FreeSlots (segment_chunks * segments_of core.shape) (map_of word) (homes_after homes carried (takes_all t)) = free_taken_by (segment_chunks * segments_of core.shape) (map_of word) homes carried t uncarried taken slots_free in
    record {
      parcels = is.parcels;
      long = is.long;
      carries = is.carries;
      home = is.home;
      valid = taken.valid;
      taken = taken.carried;
      free = subst (λ (s : Shape). FreeSlots (segment_chunks * segments_of s) (map_of word) (homes_after homes carried (takes_all t))) (sym shape) free';
      filled = filled_stay H reply_of records records core core' homes (homes_after homes carried (takes_all t)) shape
          (λ q i has armed'. ⊎_elim
          (λ this. absurd (armed' (subst (λ (r : ℕ). (item_of core' r i).tag ≡ 0) (sym this.0) (subst (λ (j : ℕ). (item_of core' queue j).tag ≡ 0) (sym this.1) zero))))
          (λ other.
          let same : item_of core' q i ≡ item_of core q i = others q i other in
          let was_armed : (item_of core q i).tag ≢ 0 = λ none. armed' (ap (λ (x : Item). x.tag) same ∙ none) in (
            ap (λ (x : Item). x.tag) same,
            ap (λ (x : Item). x.run) same,
            ap (λ (x : Item). x.part) same,
            refl,
            λ chunk within. ⊎_elim
                (λ here. absurd (one_message (owner_of core chunk) q i queue item (sound.held.owners.runs chunk q i was_armed within) (sound.held.owners.runs chunk queue item armed here) other))
                (λ away. taken.others chunk (off chunk away))
                (in_or_off it.run chunk),
          ))
          (this_or_other queue item q i))
          filled;
    }

-- a run that goes with its slots
pub slots_go : (H : Type 0) → SlotsGoLaw H
slots_go H reply_of records records' core core' word homes carried sound shows shape seat own once queue item others same_records parcels long values carries slots_free filled =
    let it : Item = item_of core' queue item in
    let first : ℕ = first_of it.run in
    let chunks : ℕ = segment_chunks * segments_of core.shape in
    let given : RunGiven first parcels homes carried = run_given first parcels homes carried once (λ k some_there. (own k some_there).1) values in
    let n : ℕ = length parcels in
    let t : List (ℕ × Option (Parcel H)) = run_gone first n carried in
    let homes' : List (mathlib.Core.Option.Option (Option (Parcel H))) = homes_after homes carried (becomes carried t) in
    let fewer : (k : ℕ) → times k (numbers t) ≤ times k (numbers carried) = λ k. omega (arith, given.weighs (is_number k)) in
    let uncarried : (chunk : ℕ) → chunk < chunks → is_free (map_of word) chunk ≡ true → times chunk (numbers carried) ≡ 0 = λ chunk lt is_set.
    elim (cases_lt 0 (times chunk (numbers carried))) [
      | inl some_there ↦ absurd (is_seats (owner_of core chunk) seat (own chunk some_there).0 (sym (shows.chunks chunk lt) ∙ is_set))
      | inr none ↦ omega (arith, none)
    ] in
    let free' : FreeSlots chunks (map_of word) homes' = free_become chunks (map_of word) homes carried t uncarried fewer given.turned slots_free in
    -- a chunk of another message isn't carried
    let stays : (q i chunk : ℕ) → (item_of core q i).tag ≢ 0 → IsInRun (item_of core q i).run chunk → get_elem? homes' chunk ≡ get_elem? homes chunk = λ q i chunk armed within.
    let message : owner_of core chunk ≡ Message q i = sound.held.owners.runs chunk q i armed within in
    let none : times chunk (numbers carried) ≡ 0 = elim (cases_lt 0 (times chunk (numbers carried))) [
      | inl some_there ↦ let both : Message q i ≡ Seat seat = sym message ∙ (own chunk some_there).0 in absurd (cc both)
      | inr not_there ↦ omega (arith, not_there)
    ] in
    given.turned.others chunk (omega (arith, fewer chunk, none)) none in
    let mine : IsFilled reply_of records' homes' queue it = record { parcels = parcels; long = long; home = given.home; carries = carries } in
    let filled' : ArmedFilled reply_of records' core' homes' = λ q i there armed'. ⊎_elim
    (λ this. subst (λ (r : ℕ). IsFilled reply_of records' homes' r (item_of core' r i)) (sym this.0) (subst (λ (j : ℕ). IsFilled reply_of records' homes' queue (item_of core' queue j)) (sym this.1) mine))
    (λ other.
    let same : item_of core' q i ≡ item_of core q i = others q i other in
    let was_armed : (item_of core q i).tag ≢ 0 = λ none. armed' (ap (λ (x : Item). x.tag) same ∙ none) in
    filled_same reply_of records records' homes homes' q (item_of core q i) (item_of core' q i) (ap (λ (x : Item). x.tag) same) (ap (λ (x : Item). x.run) same) (ap (λ (x : Item). x.part) same)
    (same_records q i other was_armed) (λ chunk within. stays q i chunk was_armed within)
    (filled q i (subst (λ (s : Shape). HasItem s q i) shape there) was_armed))
    (this_or_other queue item q i) in
    subst (λ (m : ℕ). SlotsGo reply_of records' core' word homes carried first m) long
    (record {
      valid = given.turned.valid;
      given = given.turned.carried;
      free = subst (λ (s : Shape). FreeSlots (segment_chunks * segments_of s) (map_of word) homes') (sym shape) free';
      filled = filled';
    })
