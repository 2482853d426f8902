-- Premises from words, and rings that stay.
use Rattle.std.proofs.Common.{ℕ, ◌≡◌, ◌≢◌, ◌≤◌, inl, inr, true, length, refl, sym, ap, ◌∙◌, subst, arith}
use Rattle.std.proofs.lemmas.Bool.{cases_lt}
use Rattle.std.proofs.lemmas.List.{get_or_past}
use Rattle.nncq_ring.proofs.Staying.{ring_stays as whole_ring_stays}
use Rattle.unit_model.proofs.ListPremises.{was_posted, was_taken}
use Rattle.unit_model.proofs.SeatNotes.{has_counts, seat_in_all}
use Rattle.unit_model.proofs.StreamPoints.{posted_some}
use Rattle.unit_model.specs.Conditions.{has_stream}
use Rattle.unit_model.specs.Core.{blank, item_of, queue_of, seat_of}
use Rattle.unit_model.specs.Holding.{items_of}
use Rattle.unit_model.specs.Soundness.{IsSound}
use Rattle.unit_model.specs.StreamCounts.{by_all, by_seat, posted}
use Rattle.unit_model.specs.declared.machine.Core.{Core}
use Rattle.unit_model.specs.declared.machine.Item.{Item}
use Rattle.fabric_words.proofs.Frames.{item_there, ring_stays}
use Rattle.fabric_words.specs.OwnWords.{PosterIsShown, RingIsLeft, TakenIsShown}
use Rattle.fabric_words.specs.Places.{HasItem, ring_of}
use Rattle.fabric_words.specs.Shown.{Shows}
use Rattle.fabric_words.specs.declared.place.Place.{Place}
use Rattle.fabric_words.specs.declared.place.Place.TheVariants.{Tag}

-- a posted stream isn't 0
posted_is_some : (core : Core) → IsSound core → (seat stream : ℕ) → has_stream stream (seat_of core seat).posted ≡ true → stream ≢ 0
posted_is_some core sound seat stream has =
    let here : 1 ≤ by_seat posted core seat stream = has_counts stream (seat_of core seat).posted has in
    let all : by_seat posted core seat stream ≤ by_all posted core stream = seat_in_all posted core seat stream refl in
    posted_some core sound.streams stream (omega (arith, here, all))

-- a stream that no word says is no tag
no_tag : (word : Place → ℕ) (core : Core) → IsSound core → Shows word core → (stream : ℕ) → stream ≢ 0 → ((item : ℕ) → HasItem core.shape 0 item → word (Tag 0 item) ≢ stream) → (item : ℕ) → (item_of core 0 item).tag ≢ stream
no_tag word core sound shows stream some off item is =
    elim (cases_lt item (length (queue_of core 0).items)) [
      | inl inside ↦ let there = item_there core 0 item sound.held.shape inside in off item there ((shows.items 0 item there).tag ∙ is)
      | inr past ↦ some (sym is ∙ ap (λ (i : Item). i.tag) (get_or_past (queue_of core 0).items item blank past))
    ]

pub taken_is_shown : TakenIsShown
taken_is_shown word core sound shows seat stream has uncancelled off =
    was_taken core sound seat stream has uncancelled (no_tag word core sound shows stream (posted_is_some core sound seat stream has) off)

pub poster_is_shown : PosterIsShown
poster_is_shown word core sound shows item stream there is some =
    let shown = shows.items 0 item there in
    subst (λ (k : ℕ). has_stream stream (seat_of core k).posted ≡ true) (sym shown.part) (was_posted core sound item stream (sym shown.tag ∙ is) some)

pub ring_is_left : RingIsLeft
ring_is_left shape word word' place x sets queue side there off fine =
    whole_ring_stays (items_of shape queue) (ring_of word queue side) (ring_of word' queue side) fine (ring_stays shape word word' place x sets queue side there off)
