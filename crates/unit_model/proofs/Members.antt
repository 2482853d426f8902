-- What is in a list counts there, and what counts there is in it.
use Rattle.std.proofs.Common.{◌≡◌, ℕ, zero, suc, ◌<◌, ◌≤◌, true, List, [], ◌∷◌, filter, length, get_or, refl, sym, ap, ◌∙◌, arith, inl, inr, subst}
use Rattle.std.specs.Prelude.{Contains}
use Rattle.std.proofs.lemmas.Bool.{cases_lt, eq-eqb, eqb-true, cases_Bool}
use Rattle.unit_model.specs.Core.{seat_of, no_seat}
use Rattle.unit_model.specs.PartCounts.{is_of_stream, of_stream, same_part, no_part}
use Rattle.unit_model.specs.StreamCounts.{by_all}
use Rattle.unit_model.specs.Weights.{weigh, one_if, is_number, times, over_all}
use Rattle.unit_model.specs.declared.machine.Core.{Core}
use Rattle.unit_model.specs.declared.machine.Part.{Part}
use Rattle.unit_model.specs.declared.machine.Seat.{Seat as SeatLists}
use Rattle.unit_model.proofs.PartNotes.{one_itself}
use Rattle.unit_model.proofs.PartSteps.{counted_is}
use Rattle.unit_model.proofs.SeatNotes.{seat_in_all, is_there_of}
use Rattle.unit_model.proofs.Weights.{weigh_at, weigh_some, is_number_some, is_number_same, over_all_at}

-- ---- one list

-- an element weighs in its list
pub member_weighs : {X : Type 0} (f : X → ℕ) (xs : List X) (x : X) → Contains xs x → f x ≤ weigh f xs
member_weighs f xs x here = omega (arith, weigh_at f xs here.0 x here.1, ap f here.2)

-- what weighs in a list comes from an element
pub weight_of_member : {X : Type 0} (f : X → ℕ) (xs : List X) (d : X) → 1 ≤ weigh f xs → (x : X) × Contains xs x × (1 ≤ f x)
weight_of_member f [] d some = absurd (omega (arith, some))
weight_of_member f (x ∷ xs) d some =
    elim (cases_lt 0 (f x)) [
      | inl here ↦ (x, (0, omega arith, refl), omega (arith, here))
      | inr none ↦
          let rest = weight_of_member f xs d (omega (arith, none, some)) in
          (rest.0, (suc (rest.1.0), omega (arith, rest.1.1), rest.1.2), rest.2)
    ]

pub member_counts : (stream : ℕ) (streams : List ℕ) → Contains streams stream → 1 ≤ times stream streams
member_counts stream streams here = omega (arith, member_weighs (is_number stream) streams stream here, is_number_same stream)

number_is : (n x : ℕ) → 1 ≤ is_number n x → x ≡ n
number_is n x some = is_number_some n x (omega (arith, some))

pub counted_member : (stream : ℕ) (streams : List ℕ) → 1 ≤ times stream streams → Contains streams stream
counted_member stream streams some =
    let found = weight_of_member (is_number stream) streams 0 some in
    subst (Contains streams) (number_is stream found.0 found.2) found.1

pub part_counts : (part : Part) (parts : List Part) → Contains parts part → 1 ≤ weigh (same_part part) parts
part_counts part parts here = omega (arith, member_weighs (same_part part) parts part here, one_itself part)

pub counted_part : (part : Part) (parts : List Part) → 1 ≤ weigh (same_part part) parts → Contains parts part
counted_part part parts some =
    let found = weight_of_member (same_part part) parts no_part some in
    subst (Contains parts) (sym (counted_is part found.0 found.2)) found.1

-- a part is one of its stream
pub part_of_stream : (part : Part) (parts : List Part) → Contains parts part → 1 ≤ weigh (of_stream part.stream) parts
part_of_stream part parts here = omega (arith, member_weighs (of_stream part.stream) parts part here, ap one_if (eq-eqb part.stream part.stream refl))

place_from : (stream : ℕ) (first : Part) (parts : List Part) (part : Part) (k : ℕ) → k < length (first ∷ parts) → get_or (first ∷ parts) k part ≡ part → part.stream ≡ stream → (j : ℕ) × (j < length (filter (is_of_stream stream) (first ∷ parts))) × (get_or (filter (is_of_stream stream) (first ∷ parts)) j no_part ≡ part)
place_from stream first parts part zero inside is this =
    let passes : is_of_stream stream first ≡ true = eq-eqb first.stream stream (ap (λ (p : Part). p.stream) is ∙ this) in
    rw passes (0, omega arith, is)
place_from stream first [] part (suc k) inside is this = absurd (omega (arith, inside))
place_from stream first (second ∷ parts) part (suc k) inside is this =
    let rest = place_from stream second parts part k (omega (arith, inside)) is this in
    elim (cases_Bool (is_of_stream stream first)) [
      | inl passes ↦ rw passes (suc (rest.0), omega (arith, rest.1), rest.2)
      | inr fails ↦ rw fails rest
    ]

-- and stands at a place among them
pub place_of : (stream : ℕ) (parts : List Part) (part : Part) → Contains parts part → part.stream ≡ stream → (j : ℕ) × (j < length (filter (is_of_stream stream) parts)) × (get_or (filter (is_of_stream stream) parts) j no_part ≡ part)
place_of stream [] part here this = absurd (omega (arith, here.1))
place_of stream (first ∷ parts) part here this = place_from stream first parts part here.0 here.1 here.2 this

later : {X : Type 0} (first : X) (xs : List X) (x : X) → Contains xs x → Contains (first ∷ xs) x
later first xs x here = (suc (here.0), omega (arith, here.1), here.2)

part_from : (stream : ℕ) (first : Part) (parts found : List Part) → is_of_stream stream first ≡ true → ((j : ℕ) → j < length found → Contains parts (get_or found j no_part) × ((get_or found j no_part).stream ≡ stream)) → (j : ℕ) → j < length (first ∷ found) → Contains (first ∷ parts) (get_or (first ∷ found) j no_part) × ((get_or (first ∷ found) j no_part).stream ≡ stream)
part_from stream first parts found passes rest zero inside = ((0, omega arith, refl), eqb-true first.stream stream passes)
part_from stream first parts found passes rest (suc j) inside =
    let behind = rest j (omega (arith, inside)) in
    (later first parts _ behind.0, behind.1)

-- what stands among the parts of a stream is a part of the list, and of the stream
pub part_at_place : (stream : ℕ) (parts : List Part) (j : ℕ) → j < length (filter (is_of_stream stream) parts) → Contains parts (get_or (filter (is_of_stream stream) parts) j no_part) × ((get_or (filter (is_of_stream stream) parts) j no_part).stream ≡ stream)
part_at_place stream [] j inside = absurd (omega (arith, inside))
part_at_place stream (first ∷ parts) j inside =
    elim (cases_Bool (is_of_stream stream first)) [
      | inl passes ↦ rw passes (part_from stream first parts (filter (is_of_stream stream) parts) passes (part_at_place stream parts) j (rw passes at inside))
      | inr fails ↦ rw fails (
          let rest = part_at_place stream parts j (rw fails at inside) in
          (later first parts _ rest.0, rest.1))
    ]

-- ---- all seats

-- what weighs over all seats is in the list of one
pub weight_of_seat : {X : Type 0} (f : X → ℕ) (list : SeatLists → List X) (core : Core) (d : X) → 1 ≤ over_all f list core.seats → (seat : ℕ) × (x : X) × Contains (list (seat_of core seat)) x × (1 ≤ f x)
weight_of_seat f list core d some =
    let seat = weigh_some (λ (l : SeatLists). weigh f (list l)) core.seats no_seat (omega (arith, some)) in
    let found = weight_of_member f (list (seat_of core (seat.0))) d (omega (arith, seat.2)) in
    (seat.0, found.0, found.1, found.2)

pub counted_seat : (list : SeatLists → List ℕ) (core : Core) (stream : ℕ) → 1 ≤ by_all list core stream → (seat : ℕ) × Contains (list (seat_of core seat)) stream
counted_seat list core stream some =
    let seat = weigh_some (λ (l : SeatLists). times stream (list l)) core.seats no_seat (omega (arith, some)) in
    (seat.0, counted_member stream (list (seat_of core (seat.0))) (omega (arith, seat.2)))

pub counts_in_all : (list : SeatLists → List ℕ) (core : Core) (seat stream : ℕ) → list no_seat ≡ [] → Contains (list (seat_of core seat)) stream → 1 ≤ by_all list core stream
counts_in_all list core seat stream none here =
    omega (arith, seat_in_all list core seat stream none, member_counts stream (list (seat_of core seat)) here)

pub weighs_in_all : {X : Type 0} (f : X → ℕ) (list : SeatLists → List X) (core : Core) (seat : ℕ) (x : X) → list no_seat ≡ [] → Contains (list (seat_of core seat)) x → 1 ≤ f x → 1 ≤ over_all f list core.seats
weighs_in_all f list core seat x none here some =
    let this : 1 ≤ weigh f (list (seat_of core seat)) = omega (arith, member_weighs f (list (seat_of core seat)) x here, some) in
    omega (arith, this, over_all_at f list core.seats seat no_seat (is_there_of f list core seat none this))

-- sums are at most those that each element gives
pub weigh_le_members : {X : Type 0} (f g : X → ℕ) (xs : List X) → ((x : X) → Contains xs x → f x ≤ g x) → weigh f xs ≤ weigh g xs
weigh_le_members f g [] le = omega arith
weigh_le_members f g (x ∷ xs) le =
    omega (arith, le x (0, omega arith, refl), weigh_le_members f g xs (λ y here. le y (suc (here.0), omega (arith, here.1), here.2)))

pub weigh_members : {X : Type 0} (f g : X → ℕ) (xs : List X) → ((x : X) → Contains xs x → f x ≡ g x) → weigh f xs ≡ weigh g xs
weigh_members f g [] same = refl
weigh_members f g (x ∷ xs) same =
    omega (arith, same x (0, omega arith, refl), weigh_members f g xs (λ y here. same y (later x xs y here)))
