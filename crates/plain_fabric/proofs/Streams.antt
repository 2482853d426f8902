-- The lists of the engine and of the worker while a stream is under way: what they say of it, and of all others.
use Rattle.std.proofs.Common.{◌≡◌, ◌≢◌, ℕ, ◌+◌, ◌*◌, ◌%◌, ◌==◌, ◌&&◌, ◌||◌, ◌≤◌, ◌⊎◌, inl, inr, Bool, true, false, List, [], ◌∷◌, ◌++◌, refl, sym, ap, ◌∙◌, arith}
use Rattle.std.proofs.lemmas.Bool.{cases_Bool, cases_eq, eq-eqb, ne_eqb, eqb-true}
use Rattle.std.proofs.lemmas.List.Folds.{list_any-append}
use Rattle.std.specs.List.{list_any}
use Rattle.port_message.specs.Words.{part_word_of}
use Rattle.unit_model.proofs.Changes.{any_counts}
use Rattle.unit_model.proofs.SeatNotes.{has_counts, seat_in_all, all_less}
use Rattle.unit_model.proofs.StreamPoints.{state_is_posted}
use Rattle.unit_model.proofs.Weights.{weigh_le, weigh_push}
use Rattle.unit_model.specs.Conditions.{has_stream}
use Rattle.unit_model.specs.Core.{number_in, is_last_in, seat_of}
use Rattle.unit_model.specs.Effects.{noted}
use Rattle.unit_model.specs.PartCounts.{of_stream}
use Rattle.unit_model.specs.Soundness.{IsSound}
use Rattle.unit_model.specs.StreamCounts.{by_all, by_seat, drawn, posted, taken}
use Rattle.unit_model.specs.Weights.{one_if, weigh}
use Rattle.unit_model.specs.declared.machine.Core.{Core}
use Rattle.unit_model.specs.declared.machine.Note.TheVariants.{Drawn, Posted, Cancelled, Received, Taken, Sent}
use Rattle.unit_model.specs.declared.machine.Part.{Part}
use Rattle.unit_model.specs.declared.machine.Seat.{Seat as SeatLists}
use Rattle.plain_fabric.specs.AtRest.{HasNothingOpen}

-- ---- a list with one element more

or_left : (a b : Bool) → a ≡ true → (a || b) ≡ true
or_left true b is = refl
or_left false b is = absurd (cc is)

or_right : (a b : Bool) → b ≡ true → (a || b) ≡ true
or_right true b is = refl
or_right false b is = is

or_cases : (a b : Bool) → (a || b) ≡ true → (a ≡ true) ⊎ (b ≡ true)
or_cases true b is = inl refl
or_cases false b is = inr is

or_none : (a b : Bool) → a ≡ false → b ≡ false → (a || b) ≡ false
or_none true b is other = absurd (cc is)
or_none false b is other = other

or_end : (b : Bool) → (b || false) ≡ b
or_end true = refl
or_end false = refl

module _ {X : Type 0} (test : X → Bool) (xs : List X) (x : X) where
  pub any_grows : list_any test xs ≡ true → list_any test (xs ++ x ∷ []) ≡ true
  any_grows is = list_any-append test xs (x ∷ []) ∙ or_left (list_any test xs) (test x || false) is

  pub any_last : test x ≡ true → list_any test (xs ++ x ∷ []) ≡ true
  any_last is = list_any-append test xs (x ∷ []) ∙ or_right (list_any test xs) (test x || false) (or_end (test x) ∙ is)

  any_cases : list_any test (xs ++ x ∷ []) ≡ true → (list_any test xs ≡ true) ⊎ (test x ≡ true)
  any_cases is = elim (or_cases (list_any test xs) (test x || false) (sym (list_any-append test xs (x ∷ [])) ∙ is)) [
    | inl before ↦ inl before
    | inr last ↦ inr (sym (or_end (test x)) ∙ last)
  ]

  any_stays_off : list_any test xs ≡ false → test x ≡ false → list_any test (xs ++ x ∷ []) ≡ false
  any_stays_off off last = list_any-append test xs (x ∷ []) ∙ or_none (list_any test xs) (test x || false) off (or_end (test x) ∙ last)

-- ---- a part word

pub number_is : (number : ℕ) (last : Bool) → number_in (part_word_of number last) ≡ number
number_is number true = omega arith
number_is number false = omega arith

pub last_is : (number : ℕ) (last : Bool) → is_last_in (part_word_of number last) ≡ last
last_is number true = eq-eqb ((2 * number + 1) % 2) 1 (omega arith)
last_is number false = ne_eqb ((2 * number + 0) % 2) 1 (omega arith)

-- ---- a stream under way

-- The engine has posted the stream, and the worker has taken it and sent so many parts of it, of which none is the last. No other
-- stream is open.
pub record Goes (stream number : ℕ) (engine worker : SeatLists) : Type 0 where
  pub posted_it : has_stream stream engine.posted ≡ true
  pub taken_it : has_stream stream worker.taken ≡ true
  pub unlast : list_any (λ part. part.stream == stream && part.last) worker.sent ≡ false
  pub unclosed : has_stream stream worker.closed ≡ false
  pub count : number ≡ weigh (of_stream stream) worker.sent
  pub abandoned : engine.abandoned ≡ []
  pub posted : (other : ℕ) → has_stream other engine.drawn ≡ true → has_stream other engine.posted ≡ true
  pub ended : (other : ℕ) → has_stream other engine.posted ≡ true → other ≢ stream
      → (has_stream other engine.cancelled ≡ true)
      ⊎ (list_any (λ part. part.stream == other && part.last) engine.received ≡ true)

-- ---- the next stream is in no list

module _ (core : Core) (sound : IsSound core) where
  none_drawn : by_all drawn core core.next ≡ 0
  none_drawn = sound.streams.no_other core.next (inr (omega arith))

  none_posted : by_all posted core core.next ≡ 0
  none_posted = omega (arith, none_drawn, all_less posted drawn core core.next (λ k. sound.streams.posted_by_drawer k core.next))

  none_taken : (seat : ℕ) → by_seat taken core seat core.next ≡ 0
  none_taken seat = omega (arith, none_posted, state_is_posted core sound.streams core.next, seat_in_all taken core seat core.next refl)

  pub unposted : (seat : ℕ) → has_stream core.next (seat_of core seat).posted ≡ false
  unposted seat = elim (cases_Bool (has_stream core.next (seat_of core seat).posted)) [
    | inr off ↦ off
    | inl is ↦ absurd (omega (arith, none_posted, has_counts core.next (seat_of core seat).posted is, seat_in_all posted core seat core.next refl))
  ]

  pub unclosed_next : (seat : ℕ) → has_stream core.next (seat_of core seat).closed ≡ false
  unclosed_next seat = elim (cases_Bool (has_stream core.next (seat_of core seat).closed)) [
    | inr off ↦ off
    | inl is ↦ absurd (omega (arith, none_taken seat, has_counts core.next (seat_of core seat).closed is, sound.parts.closed_by_taker seat core.next))
  ]

  pub none_sent : (seat : ℕ) → weigh (of_stream core.next) (seat_of core seat).sent ≡ 0
  none_sent seat = elim (cases_eq (weigh (of_stream core.next) (seat_of core seat).sent) 0) [
    | inl none ↦ none
    | inr some ↦ absurd (omega (arith, none_taken seat, sound.parts.sent_by_taker seat core.next (omega (arith, some))))
  ]

  pub unlast_next : (seat : ℕ) → list_any (λ part. part.stream == core.next && part.last) (seat_of core seat).sent ≡ false
  unlast_next seat = elim (cases_Bool (list_any (λ (part : Part). part.stream == core.next && part.last) (seat_of core seat).sent)) [
    | inr off ↦ off
    | inl is ↦ absurd (omega (
      arith,
      none_sent seat,
      any_counts (λ (part : Part). part.stream == core.next && part.last) (seat_of core seat).sent is,
      weigh_le (λ (part : Part). one_if (part.stream == core.next && part.last)) (of_stream core.next) (seat_of core seat).sent (λ part. less_of (part.stream == core.next) part.last),
    ))
  ]
    where
      less_of : (a b : Bool) → one_if (a && b) ≤ one_if a
      less_of true true = omega arith
      less_of true false = omega arith
      less_of false b = omega arith

-- ---- what steps add

-- the stream is drawn and posted
module _ (stream : ℕ) (engine : SeatLists) (ends_all : HasNothingOpen engine) where
  all_posted : (other : ℕ) → has_stream other (engine.drawn ++ stream ∷ []) ≡ true → has_stream other (engine.posted ++ stream ∷ []) ≡ true
  all_posted other is = elim (any_cases (λ x. x == other) engine.drawn stream is) [
    | inl before ↦ any_grows (λ x. x == other) engine.posted stream (ends_all.posted other before)
    | inr last ↦ any_last (λ x. x == other) engine.posted stream last
  ]

  others_ended : (other : ℕ) → has_stream other (engine.posted ++ stream ∷ []) ≡ true → other ≢ stream
      → (has_stream other engine.cancelled ≡ true)
      ⊎ (list_any (λ part. part.stream == other && part.last) engine.received ≡ true)
  others_ended other is off = elim (any_cases (λ x. x == other) engine.posted stream is) [
    | inl before ↦ ends_all.ended other before
    | inr last ↦ absurd (off (sym (eqb-true stream other last)))
  ]

  -- and taken
  pub goes_first : (worker : SeatLists) → list_any (λ part. part.stream == stream && part.last) worker.sent ≡ false → has_stream stream worker.closed ≡ false → weigh (of_stream stream) worker.sent ≡ 0
      → Goes stream 0 (noted (Posted stream) (noted (Drawn stream) engine)) (noted (Taken stream) worker)
  goes_first worker unlast unclosed none = record {
    posted_it = any_last (λ x. x == stream) engine.posted stream (eq-eqb stream stream refl);
    taken_it = any_last (λ x. x == stream) worker.taken stream (eq-eqb stream stream refl);
    unlast = unlast;
    unclosed = unclosed;
    count = sym none;
    abandoned = ends_all.abandoned;
    posted = all_posted;
    ended = others_ended;
  }

  -- or cancelled
  pub cancelled_again : HasNothingOpen (noted (Cancelled stream) (noted (Posted stream) (noted (Drawn stream) engine)))
  cancelled_again = record {
    abandoned = ends_all.abandoned;
    posted = all_posted;
    ended = λ other is. elim (cases_eq other stream) [
      | inl same ↦ inl (any_last (λ x. x == other) engine.cancelled stream (eq-eqb stream other (sym same)))
      | inr off ↦ elim (others_ended other is off) [
        | inl cancelled ↦ inl (any_grows (λ x. x == other) engine.cancelled stream cancelled)
        | inr received ↦ inr received
      ]
    ];
  }

-- a part is sent and received
module _ (stream number : ℕ) (engine worker : SeatLists) (goes : Goes stream number engine worker) where
  pub goes_on : (part : Part) → part.stream ≡ stream → part.last ≡ false → Goes stream (number + 1) (noted (Received part) engine) (noted (Sent part) worker)
  goes_on part is unlast = record {
    posted_it = goes.posted_it;
    taken_it = goes.taken_it;
    unlast = any_stays_off (λ (p : Part). p.stream == stream && p.last) worker.sent part goes.unlast (rw unlast (and_off (part.stream == stream)));
    unclosed = goes.unclosed;
    count = omega (arith, goes.count, weigh_push (of_stream stream) worker.sent part, one_of);
    abandoned = goes.abandoned;
    posted = goes.posted;
    ended = λ other posts off. elim (goes.ended other posts off) [
      | inl cancelled ↦ inl cancelled
      | inr received ↦ inr (any_grows (λ (p : Part). p.stream == other && p.last) engine.received part received)
    ];
  }
    where
      and_off : (a : Bool) → (a && false) ≡ false
      and_off true = refl
      and_off false = refl

      one_of : of_stream stream part ≡ 1
      one_of = ap one_if (eq-eqb part.stream stream is)

  pub goes_out : (part : Part) → part.stream ≡ stream → part.last ≡ true → HasNothingOpen (noted (Received part) engine)
  goes_out part is last = record {
    abandoned = goes.abandoned;
    posted = goes.posted;
    ended = λ other posts. elim (cases_eq other stream) [
      | inl same ↦ inr (any_last (λ (p : Part). p.stream == other && p.last) engine.received part (rw (eq-eqb part.stream other (is ∙ sym same), last) refl))
      | inr off ↦ elim (goes.ended other posts off) [
        | inl cancelled ↦ inl cancelled
        | inr received ↦ inr (any_grows (λ (p : Part). p.stream == other && p.last) engine.received part received)
      ]
    ];
  }
