-- What was so of a ring's words at an atomic step of a seat.
use Rattle.std.proofs.Common.{ℕ, ◌+◌, ◌/◌, ◌%◌, ◌^◌, ◌≡◌, ◌≤◌, ◌<◌, ⊎_elim, List, set, sym, ap, ◌∙◌, subst, arith, mod-lt}
use Rattle.std.proofs.lemmas.Nat.{div-mul-add}
use mathlib.Core.Option.{some}
use lib.ListN.{get_elem?}
use Rattle.app_queue.specs.declared.side.Side.{Side}
use Rattle.nncq_ring.specs.Moments.{Meets, PutLast, TookFirst, WasEmpty}
use Rattle.nncq_ring.specs.Shown.{SawPlace}
use Rattle.nncq_ring.specs.Words.{IsWellFormed, SetsEntry, Words, entry_of, logical_tail}
use Rattle.nncq_ring.specs.declared.view.RingEvent.{RingEvent}
use Rattle.nncq_ring.specs.declared.view.RingEvent.TheVariants.{SawEntry, SawHead, SawTail}
use Rattle.nncq_ring.proofs.Exchanges.{tail_at, tail_cases, tail_full}
use Rattle.nncq_ring.proofs.MomentLaws.{empty_at, near_place, put_last, took_first}
use Rattle.nncq_ring.proofs.RingParts.{note_at}
use Rattle.unit_model.specs.Holding.{items_of}
use Rattle.unit_model.specs.declared.machine.Step.{Step}
use Rattle.unit_model.specs.declared.shape.Shape.{Shape}
use Rattle.unit_types.specs.declared.message.Reply.{Reply}
use Rattle.unit_types.specs.declared.message.Request.{Request}
use Rattle.fabric_words.specs.Offsets.{offset_of, word_in}
use Rattle.fabric_words.specs.Places.{HasItem, Sets, queues_of}
use Rattle.fabric_words.specs.declared.place.Place.{Place}
use Rattle.fabric_words.specs.declared.place.Place.TheVariants.{Head, Slot, Tail}
use Rattle.fabric_words.proofs.Standing.{set_word}
use Rattle.fabric_rule.specs.Sending.{PutsEntry, SawVacant}
use Rattle.fabric_rule.specs.Steps.{slot_of}
use Rattle.fabric_rule.specs.Told.{Moment}
use Rattle.fabric_rule.specs.Views.{log_at, ring_in, word_side}
use Rattle.fabric_rule.specs.declared.view.FabricView.{FabricView}

module _ {H : Type 0} (reply_of : List ℕ → Request → Reply) (shape : Shape) (id : ℕ) (v u : FabricView) (moment : Moment H reply_of shape id v u) (queue : ℕ) (side : Side) (there : queue < queues_of shape) where
  abbrev n : ℕ
  n = items_of shape queue

  abbrev pub ring_then : Words
  ring_then = ring_in (word_in shape moment.before.words) queue side

  pub met : Meets n (log_at queue side v) ring_then
  met =
      let part = moment.holds.notes.rings.rings queue there side in
      record { fine = part.fine; noted = part.noted id v moment.was }

  pub end_below : logical_tail n ring_then ≤ 2 ^ 62
  end_below = moment.holds.notes.rings.worn queue there side

  pub tail_below : ring_then.tail ≤ 2 ^ 62
  tail_below = ⊎_elim (λ is. omega (arith, is, end_below)) (λ is. omega (arith, is, end_below)) (tail_cases n ring_then)

  pub head_below : ring_then.head ≤ 2 ^ 62
  head_below = omega (arith, met.fine.front, end_below)

  pub is_near : (place : ℕ) → SawPlace place (log_at queue side v) → place / n ≤ ring_then.entry (place % n) / n + 1
  is_near = near_place n (log_at queue side v) ring_then met

  pub is_empty : (place : ℕ) → get_elem? (log_at queue side v) 0 ≡ some (SawHead place) → ring_then.entry (place % n) / n + 1 ≡ place / n → WasEmpty n place (log_at queue side v)
  is_empty = empty_at n (log_at queue side v) ring_then met

  abbrev word_then : Place → ℕ
  word_then = word_in shape moment.before.words

  -- a head exchange that was won
  pub taken_first : (place entry : ℕ) → get_elem? (log_at queue side v) 0 ≡ some (SawEntry place entry) → entry / n ≡ place / n → word_then (Head queue (word_side side)) ≡ place → TookFirst n place (entry % n) (log_at queue side v)
  taken_first place entry saw full found =
      let word' : Place → ℕ = word_in shape (set moment.before.words (offset_of shape (Head queue (word_side side))) (place + 1)) in
      let sets : Sets shape word_then word' (Head queue (word_side side)) (place + 1) = set_word shape moment.before.words (Head queue (word_side side)) (place + 1) moment.holds.wide there in
      took_first n (log_at queue side v) ring_then met place entry full saw found (ring_in word' queue side)
      (record {
        head = sets.here;
        tail = sets.others (Tail queue (word_side side)) there (λ is. absurd (cc is));
        entries = λ j lt. sets.others (Slot queue (word_side side) j) (record { in_queues = there; in_items = lt }) (λ is. absurd (cc is));
      })

-- an entry exchange that was won
pub placed_last : {H : Type 0} (reply_of : List ℕ → Request → Reply) (shape : Shape) (id queue : ℕ) (side : Side) (item place entry : ℕ) (step : Step) (put v : FabricView) (found : ℕ) (u : FabricView) → HasItem shape queue item
    → SawVacant (items_of shape queue) (log_at queue side v) place entry → PutsEntry H reply_of shape id queue side item place entry step put v found u → found ≡ entry → PutLast (items_of shape queue) place item (log_at queue side v)
placed_last {H} reply_of shape id queue side item place entry step put v found u has saw told won =
    let n : ℕ = items_of shape queue in
    let log : List RingEvent = log_at queue side v in
    let words : List ℕ = told.moment.before.words in
    let x : ℕ = entry_of n place item in
    let words' : List ℕ = set words (offset_of shape (slot_of shape queue side place)) x in
    let w : Words = ring_in (word_in shape words) queue side in
    let w' : Words = ring_in (word_in shape words') queue side in
    let met_now : Meets n log w = met reply_of shape id v u told.moment queue side has.in_queues in
    let inside : HasItem shape queue (place % n) = record { in_queues = has.in_queues; in_items = mod-lt place met_now.fine.size } in
    let changed : Sets shape (word_in shape words) (word_in shape words') (slot_of shape queue side place) x = set_word shape words (slot_of shape queue side place) x told.moment.holds.wide inside in
    let sets : SetsEntry n w w' (place % n) x = record {
      head = changed.others (Head queue (word_side side)) has.in_queues (λ is. absurd (cc is));
      tail = changed.others (Tail queue (word_side side)) has.in_queues (λ is. absurd (cc is));
      here = changed.here;
      others = λ j lt ne. changed.others (Slot queue (word_side side) j) (record { in_queues = has.in_queues; in_items = lt }) (λ is. ne (cc is));
    } in
    let before : w.entry (place % n) / n + 1 ≡ place / n = ap (λ (y : ℕ). y / n + 1) (told.was ∙ won) ∙ saw.before in
    let seen : place ≤ w.tail = note_at n w log 1 (SawTail place) saw.tail met_now.noted in
    let at : (logical_tail n w ≡ place) × (w.tail ≡ place) = tail_at n w place met_now.fine seen before in
    let fine' : IsWellFormed n w' = subst (λ (ws : List ℕ). IsWellFormed n (ring_in (word_in shape ws) queue side)) (told.words won) ((told.made won).after.notes.rings.rings queue has.in_queues side).fine in
    let tail' : w'.tail ≡ place = sets.tail ∙ at.1 in
    let cycle : x / n ≡ place / n = div-mul-add (place / n) n item has.in_items in
    let filled : w'.entry (w'.tail % n) / n ≡ w'.tail / n = ap (λ (p : ℕ). w'.entry (p % n) / n) tail' ∙ ap (λ (y : ℕ). y / n) sets.here ∙ cycle ∙ ap (λ (p : ℕ). p / n) (sym tail') in
    let room : logical_tail n w < w.head + n = omega (arith, at.0, tail_full n w' filled, tail', fine'.room, sets.head) in
    put_last n log w met_now place item saw.tail before has.in_items room w' sets
