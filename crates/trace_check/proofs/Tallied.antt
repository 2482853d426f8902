-- The numbers of a core, counted in the records of streams.
use Rattle.std.proofs.Common.{◌≡◌, ◌∙◌, ℕ, zero, suc, ◌+◌, ◌≤◌, ◌==◌, ◌&&◌, ◌||◌, not, Bool, true, false, cond, List, [], ◌∷◌, length, refl, sym, ap, arith}
use Rattle.std.specs.Prelude.{Option, Some, None, is_some, count_by}
use Rattle.std.specs.List.{list_any}
use Rattle.std.proofs.lemmas.Bool.{eq-eqb}
use Rattle.std.proofs.lemmas.List.Sums.{sum_by-cons}
use Rattle.trace_check.specs.Shows.{Agrees, IsReached, lists_at, is_last_of}
use Rattle.trace_check.specs.Streams.{drawn_by, known}
use Rattle.trace_check.specs.Outcomes.{has_outcome}
use Rattle.trace_check.specs.Verdicts.{is_abandoned, is_accepted, is_cancelled, is_left_open, is_refused, streams_that}
use Rattle.trace_check.specs.declared.streams.Stream.{Stream}
use Rattle.trace_check.specs.declared.verdict.Outcome.{Outcome}
use Rattle.trace_check.specs.declared.verdict.Outcome.TheVariants.{Drawn, Accepted, Cancelled, Abandoned, Refused, LeftOpen}
use Rattle.trace_check.proofs.Reached.{below_same}
use Rattle.unit_model.specs.Conditions.{has_stream}
use Rattle.unit_model.specs.Weights.{weigh, below, one_if}
use Rattle.unit_model.specs.declared.machine.Core.{Core}
use Rattle.unit_model.specs.declared.machine.Seat.{Seat as SeatLists}

pub below_more : (f : ℕ → ℕ) (n : ℕ) → below f (n + 1) ≡ below f n + f n
below_more f n = let one : n + 1 ≡ suc n = omega arith in rw one refl

pub one_at_most : (b : Bool) → one_if b ≤ 1
one_at_most true = omega arith
one_at_most false = omega arith

pub below_small : (test : ℕ → Bool) (n : ℕ) → below (λ s. one_if (test s)) n ≤ n
below_small test zero = omega arith
below_small test (suc n) = omega (arith, below_small test n, one_at_most (test n))

weigh_seats : (f g : SeatLists → ℕ) (seats : List SeatLists) → ((k : ℕ) → f (lists_at seats k) ≡ g (lists_at seats k)) → weigh f seats ≡ weigh g seats
weigh_seats f g [] same = refl
weigh_seats f g (x ∷ xs) same = omega (arith, same 0, weigh_seats f g xs (λ k. same (suc k)))

and_known : (test : Stream → Bool) (o : Option Stream) → (is_some o && known test o) ≡ known test o
and_known test None = refl
and_known test (Some r) = refl

or_here : (b c : Bool) → b ≡ true → (b || c) ≡ true
or_here b c e = rw e refl

or_behind : (b c : Bool) → c ≡ true → (b || c) ≡ true
or_behind true c e = refl
or_behind false c e = e

count_same : (p q : ℕ → Bool) (xs : List ℕ) → ((s : ℕ) → has_stream s xs ≡ true → p s ≡ q s) → count_by p xs ≡ count_by q xs
count_same p q [] same = refl
count_same p q (x ∷ xs) same =
    let here : p x ≡ q x = same x (or_here (x == x) (has_stream x xs) (eq-eqb x x refl)) in
    let weight : one_if (p x) ≡ one_if (q x) = ap one_if here in
    let rest = count_same p q xs (λ s e. same s (or_behind (x == s) (has_stream s xs) e)) in
    omega (arith, sum_by-cons (λ y. cond (p y) 1 0) x xs, sum_by-cons (λ y. cond (q y) 1 0) x xs, weight, rest)

count_all : (xs : List ℕ) → count_by (λ _. true) xs ≡ length xs
count_all [] = refl
count_all (x ∷ xs) = omega (arith, sum_by-cons {X = ℕ} (λ y. 1) x xs, count_all xs)

own_test : (test : Stream → Bool) (k : ℕ) (o : Option Stream) → drawn_by k o ≡ true → known (λ r. r.engine == k && test r) o ≡ known test o
own_test test k None e = refl
own_test test k (Some r) e = rw e refl

-- what the lists of the seat that drew a stream say became of it
abbrev pub outcome_test : Outcome → SeatLists → ℕ → Bool
outcome_test Drawn lists stream = true
outcome_test Accepted lists stream = is_accepted lists stream
outcome_test Cancelled lists stream = is_cancelled lists stream
outcome_test Abandoned lists stream = is_abandoned lists stream
outcome_test Refused lists stream = is_refused lists stream
outcome_test LeftOpen lists stream = is_left_open lists stream

-- the same by what they say
abbrev pub outcome_of : Outcome → Bool → Bool → Bool → Bool → Bool
outcome_of Drawn posted cancelled abandoned received = true
outcome_of Accepted posted cancelled abandoned received = received && not abandoned
outcome_of Cancelled posted cancelled abandoned received = cancelled
outcome_of Abandoned posted cancelled abandoned received = abandoned
outcome_of Refused posted cancelled abandoned received = not posted
outcome_of LeftOpen posted cancelled abandoned received = posted && not ((received && not abandoned) || (cancelled || abandoned))

together : (outcome : Outcome) (k : ℕ) (o : Option Stream) → drawn_by k o ≡ true → (posted cancelled abandoned received : Bool)
    → posted ≡ known (λ r. r.posted) o → cancelled ≡ known (λ r. r.cancelled) o → abandoned ≡ known (λ r. r.abandoned) o → received ≡ known (λ r. r.received_last) o
    → outcome_of outcome posted cancelled abandoned received ≡ known (has_outcome outcome) o
together outcome k None d posted cancelled abandoned received p c a r = absurd (cc d)
together Drawn k (Some s) d posted cancelled abandoned received p c a r = refl
together Accepted k (Some s) d posted cancelled abandoned received p c a r = rw (r, a) refl
together Cancelled k (Some s) d posted cancelled abandoned received p c a r = c
together Abandoned k (Some s) d posted cancelled abandoned received p c a r = a
together Refused k (Some s) d posted cancelled abandoned received p c a r = rw p refl
together LeftOpen k (Some s) d posted cancelled abandoned received p c a r = rw (p, r, a, c) refl

same_outcome : (seats : List SeatLists) (at : ℕ → Option Stream) → Agrees seats at → (outcome : Outcome) (k s : ℕ) → drawn_by k (at s) ≡ true
    → outcome_of outcome (has_stream s (lists_at seats k).posted) (has_stream s (lists_at seats k).cancelled) (has_stream s (lists_at seats k).abandoned) (list_any (is_last_of s) (lists_at seats k).received)
    ≡ known (has_outcome outcome) (at s)
same_outcome seats at a outcome k s d =
    together outcome k (at s) d _ _ _ _
    (a.posted k s ∙ own_test (λ r. r.posted) k (at s) d)
    (a.cancelled k s ∙ own_test (λ r. r.cancelled) k (at s) d)
    (a.abandoned k s ∙ own_test (λ r. r.abandoned) k (at s) d)
    (a.received k s d)

tested : (outcome : Outcome) (lists : SeatLists) (s : ℕ)
    → outcome_test outcome lists s ≡ outcome_of outcome (has_stream s lists.posted) (has_stream s lists.cancelled) (has_stream s lists.abandoned) (list_any (is_last_of s) lists.received)
tested Drawn lists s = refl
tested Accepted lists s = refl
tested Cancelled lists s = refl
tested Abandoned lists s = refl
tested Refused lists s = refl
tested LeftOpen lists s = refl

pub counted : (core : Core) (at : ℕ → Option Stream) → Agrees core.seats at → IsReached core at → (outcome : Outcome)
    → streams_that (outcome_test outcome) core ≡ below (λ s. one_if (known (has_outcome outcome) (at s))) core.next
counted core at a r outcome =
    weigh_seats (λ lists. count_by (outcome_test outcome lists) lists.drawn) (λ lists. count_by (λ s. known (has_outcome outcome) (at s)) lists.drawn) core.seats
    (λ k. count_same (outcome_test outcome (lists_at core.seats k)) (λ s. known (has_outcome outcome) (at s)) (lists_at core.seats k).drawn
    (λ s e. tested outcome (lists_at core.seats k) s ∙ same_outcome core.seats at a outcome k s (sym (a.drawn k s) ∙ e)))
    ∙ r.numbered (λ s. known (has_outcome outcome) (at s))
    ∙ below_same _ _ core.next (λ s lt. ap one_if (and_known (has_outcome outcome) (at s)))

pub counted_drawn : (core : Core) (at : ℕ → Option Stream) → Agrees core.seats at → IsReached core at
    → weigh (λ lists. length lists.drawn) core.seats ≡ below (λ s. one_if (known (has_outcome Drawn) (at s))) core.next
counted_drawn core at a r =
    weigh_seats (λ lists. length lists.drawn) (λ lists. count_by (λ _. true) lists.drawn) core.seats (λ k. sym (count_all (lists_at core.seats k).drawn))
    ∙ counted core at a r Drawn
