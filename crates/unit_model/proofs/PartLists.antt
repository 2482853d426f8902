-- The sent parts of one stream after one more was sent.
use Rattle.std.proofs.Common.{◌≡◌, ◌≢◌, ℕ, zero, suc, ◌+◌, ◌<◌, ◌≤◌, ◌==◌, ◌&&◌, true, false, List, [], ◌∷◌, ◌++◌, filter, length, get_or, refl, ap, ◌∙◌, arith, inl, inr, ◌⊎◌}
use Rattle.std.specs.List.{list_any}
use Rattle.std.proofs.Math.Seq.{get_or-append_seam}
use Rattle.std.proofs.lemmas.Bool.{cases_eq, cases_lt, eq-eqb, ne_eqb, cases_Bool, or_parts}
use Rattle.std.proofs.lemmas.List.{get_or_append_left, length_push, append-nil}
use Rattle.std.proofs.lemmas.List.Elements.{filter-append}
use Rattle.unit_model.specs.Conditions.{is_last_sent, parts_sent}
use Rattle.unit_model.specs.Core.{seat_of, no_seat}
use Rattle.unit_model.specs.PartCounts.{is_of_stream, of_stream, parts_by_seat, sent, sent_parts, no_part}
use Rattle.unit_model.specs.StreamCounts.{StreamCounts, by_seat, by_all, taken}
use Rattle.unit_model.specs.Weights.{weigh}
use Rattle.unit_model.specs.declared.machine.Core.{Core}
use Rattle.unit_model.specs.declared.machine.Part.{Part}
use Rattle.unit_model.specs.declared.machine.Seat.{Seat as SeatLists}
use Rattle.unit_model.proofs.Changes.{any_none_at, weigh_only}
use Rattle.unit_model.proofs.PartNotes.{PartsGrow, parts_sent_is}
use Rattle.unit_model.proofs.SeatNotes.{one_seat}
use Rattle.unit_model.proofs.StreamSteps.{posted_at_most_once}

-- ---- a list that has grown

pub ordered_push : (parts : List Part) (part : Part) → ((j : ℕ) → j < length parts → (get_or parts j no_part).number ≡ j) → part.number ≡ length parts → (j : ℕ) → j < length (parts ++ part ∷ []) → (get_or (parts ++ part ∷ []) j no_part).number ≡ j
ordered_push parts part old next j inside =
    elim (cases_lt j (length parts)) [
      | inl before ↦ ap (λ (p : Part). p.number) (get_or_append_left parts (part ∷ []) no_part j before) ∙ old j before
      | inr last ↦
          let here : j ≡ length parts = omega (arith, last, inside, length_push parts part) in
          rw here (ap (λ (p : Part). p.number) (get_or-append_seam parts part [] no_part) ∙ next)
    ]

pub final_push : (parts : List Part) (part : Part) → ((j : ℕ) → j < length parts → (get_or parts j no_part).last ≡ false) → (j : ℕ) → j < length (parts ++ part ∷ []) → (get_or (parts ++ part ∷ []) j no_part).last ≡ true → j + 1 ≡ length (parts ++ part ∷ [])
final_push parts part unmarked j inside last =
    elim (cases_lt j (length parts)) [
      | inl before ↦ absurd (cc (last, ap (λ (p : Part). p.last) (get_or_append_left parts (part ∷ []) no_part j before), unmarked j before))
      | inr past ↦ omega (arith, past, inside, length_push parts part)
    ]

-- ---- the sent parts of a stream

pub sent_parts_here : (core new : Core) (seat : ℕ) (part : Part) (stream : ℕ) → PartsGrow sent core new seat part → part.stream ≡ stream → sent_parts new seat stream ≡ sent_parts core seat stream ++ part ∷ []
sent_parts_here core new seat part stream g this =
    ap (filter (is_of_stream stream)) g.here ∙ filter-append (is_of_stream stream) (seat_of core seat).sent (part ∷ [])
    ∙ ap (λ ps. sent_parts core seat stream ++ ps) (rw (eq-eqb part.stream stream this) refl)

pub sent_parts_other : (core new : Core) (seat : ℕ) (part : Part) (stream k : ℕ) → PartsGrow sent core new seat part → (k ≢ seat) ⊎ (part.stream ≢ stream) → sent_parts new k stream ≡ sent_parts core k stream
sent_parts_other core new seat part stream k g (inl away) = ap (filter (is_of_stream stream)) (g.elsewhere k away)
sent_parts_other core new seat part stream k g (inr other) =
    elim (cases_eq k seat) [
      | inr away ↦ ap (filter (is_of_stream stream)) (g.elsewhere k away)
      | inl here ↦ rw here (
          ap (filter (is_of_stream stream)) g.here ∙ filter-append (is_of_stream stream) (seat_of core seat).sent (part ∷ [])
          ∙ ap (λ ps. sent_parts core seat stream ++ ps) (rw (ne_eqb part.stream stream other) refl)
          ∙ append-nil (sent_parts core seat stream))
    ]

marked : (parts : List Part) (part : Part) → part.last ≡ false → ((j : ℕ) → j < length parts → (get_or parts j no_part).last ≡ false) → (j : ℕ) → j < length (part ∷ parts) → (get_or (part ∷ parts) j no_part).last ≡ false
marked parts part here rest zero inside = here
marked parts part here rest (suc j) inside = rest j (omega (arith, inside))

-- where the last part isn't sent, no part is the last
marks : (stream : ℕ) (parts : List Part) → list_any (λ part. part.stream == stream && part.last) parts ≡ false → (j : ℕ) → j < length (filter (is_of_stream stream) parts) → (get_or (filter (is_of_stream stream) parts) j no_part).last ≡ false
marks stream [] none j inside = refl
marks stream (part ∷ parts) none j inside =
    elim (cases_Bool (part.stream == stream)) [
      | inr other ↦ rw other (marks stream parts (rw other at none) j (rw other at inside))
      | inl this ↦
          let both = or_parts part.last (list_any (λ p. p.stream == stream && p.last) parts) (rw this at none) in
          rw this (marked (filter (is_of_stream stream) parts) part both.0 (marks stream parts both.1) j (rw this at inside))
    ]

pub none_last : (core : Core) (seat stream : ℕ) → seat < length core.seats → is_last_sent core stream ≡ false → (j : ℕ) → j < length (sent_parts core seat stream) → (get_or (sent_parts core seat stream) j no_part).last ≡ false
none_last core seat stream inside none =
    marks stream (seat_of core seat).sent (any_none_at (λ lists. list_any (λ part. part.stream == stream && part.last) lists.sent) core.seats seat no_seat none inside)

-- ---- one seat sends the parts of a stream

pub taken_at_most_once : (core : Core) → StreamCounts core → (stream : ℕ) → by_all taken core stream ≤ 1
taken_at_most_once core counts stream =
    let once = posted_at_most_once core counts stream in
    elim (cases_eq stream 0) [
      | inl none ↦ rw none (omega (arith, counts.no_zero, rw none at once))
      | inr some ↦ omega (arith, counts.one_state stream some, once)
    ]

pub sent_alone : (core : Core) (seat stream : ℕ) → StreamCounts core → ((k : ℕ) → 1 ≤ parts_by_seat sent core k stream → 1 ≤ by_seat taken core k stream) → seat < length core.seats → 1 ≤ by_seat taken core seat stream → parts_sent core stream ≡ parts_by_seat sent core seat stream
sent_alone core seat stream streams by_taker inside has =
    parts_sent_is core stream
    ∙ weigh_only (λ (l : SeatLists). weigh (of_stream stream) l.sent) core.seats seat no_seat inside (λ k away.
    elim (cases_lt 0 (parts_by_seat sent core k stream)) [
      | inl some ↦ absurd (away (one_seat taken core stream k seat refl (taken_at_most_once core streams stream) (by_taker k some) has))
      | inr none ↦ omega (arith, none)
    ])
