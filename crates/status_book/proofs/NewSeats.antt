-- The seats of a new book.
use Rattle.std.proofs.Common.{ℕ, zero, suc, ◌≡◌, ◌+◌, ◌-◌, ◌<◌, ◌≤◌, List, [], ◌∷◌, ◌++◌, length, map, slice_index_or, refl, ap, ap₂, sym, ◌∙◌, arith}
use Rattle.std.specs.List.{range_with_len}
use Rattle.std.proofs.lemmas.List.{map-append}
use Rattle.atomic_table.specs.Table.{Me}
use Rattle.status_book.specs.declared.seat.CountSeat.{CountSeat}
use Rattle.status_book.specs.declared.view.StatusView.{StatusView}
use Rattle.status_book.specs.Views.{new_engine, new_engines}

range_more : (from count : ℕ) → range_with_len from (suc count) ≡ range_with_len from count ++ (from + count) ∷ []
range_more from zero = let same : from ≡ from + 0 = omega arith in ap (λ (n : ℕ). n ∷ []) same
range_more from (suc count) =
    let next : (from + 1) + count ≡ from + suc count = omega arith in
    ap (λ (ns : List ℕ). from ∷ ns) (range_more (from + 1) count ∙ ap (λ (n : ℕ). range_with_len (from + 1) count ++ n ∷ []) next)

pub engines_next : (seats : List CountSeat) (seat : CountSeat) (engine : ℕ) → map (λ (s : CountSeat). s.engine) seats ≡ range_with_len 0 engine
    → seat.engine ≡ engine → map (λ (s : CountSeat). s.engine) (seats ++ seat ∷ []) ≡ range_with_len 0 (engine + 1)
engines_next seats seat engine before is =
    let last : seat.engine ≡ 0 + engine = omega (arith, is) in
    let next : suc engine ≡ engine + 1 = omega arith in
    map-append (λ (s : CountSeat). s.engine) seats (seat ∷ [])
    ∙ ap (λ (ns : List ℕ). ns ++ seat.engine ∷ []) before
    ∙ ap (λ (n : ℕ). range_with_len 0 engine ++ n ∷ []) last
    ∙ sym (range_more 0 engine)
    ∙ ap (range_with_len 0) next

-- after the last engine, none is left
pub none_left : (me : Me ℕ StatusView) (engine engines : ℕ) → me ≡ (new_engines engine (engines - engine), []) → engines ≤ engine
    → (me.1 ≡ []) × (me.0.engines ≡ [])
none_left me engine engines is le =
    let none : engines - engine ≡ 0 = omega arith in (
      ap (λ (m : Me ℕ StatusView). m.1) is,
      ap (λ (m : Me ℕ StatusView). m.0.engines) is ∙ ap (λ (k : ℕ). map new_engine (range_with_len engine k)) none,
    )

pub all_made : (made : List ℕ) (engine engines : ℕ) → made ≡ range_with_len 0 engine → engine ≤ engines → engines ≤ engine → made ≡ range_with_len 0 engines
all_made made engine engines is le ge = let same : engine ≡ engines = omega arith in is ∙ ap (range_with_len 0) same

-- seats of the same engines, in the same order
pub same_engines : (xs ys : List CountSeat) → length ys ≡ length xs
    → ((i : ℕ) (d : CountSeat) → i < length xs → (slice_index_or ys i d).engine ≡ (slice_index_or xs i d).engine)
    → map (λ (s : CountSeat). s.engine) ys ≡ map (λ (s : CountSeat). s.engine) xs
same_engines [] [] long each = refl
same_engines [] (y ∷ ys) long each = absurd (omega arith)
same_engines (x ∷ xs) [] long each = absurd (omega arith)
same_engines (x ∷ xs) (y ∷ ys) long each =
    let here : y.engine ≡ x.engine = each 0 x (omega arith) in
    ap₂ (λ (n : ℕ) (ns : List ℕ). n ∷ ns) here (same_engines xs ys (omega arith) (λ i d lt. each (suc i) d (omega arith)))
