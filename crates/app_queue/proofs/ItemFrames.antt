-- What steps do to what is said of items in rings and in hands.
use Rattle.std.proofs.Common.{ℕ, ◌+◌, ◌≡◌, ◌<◌, ◌⊎◌, inl, inr, ⊎_elim, List, set, sym, ap, ◌∙◌, subst, arith}
use Rattle.std.proofs.lemmas.Bool.{cases_eq, cases_lt}
use mathlib.Core.Option.{some}
use lib.ListN.{get_elem?}
use Rattle.unit_model.specs.Sharing.{Owned}
use Rattle.unit_model.specs.Weights.{weigh, is_number}
use Rattle.unit_model.proofs.Sharing.{owned_here, owned_moves, owned_split, owned_join}
use Rattle.unit_model.proofs.Weights.{weigh_push, is_number_same, is_number_some}
use Rattle.nncq_ring.specs.Rule.{line_weight}
use Rattle.nncq_ring.specs.Words.{Words, IsWellFormed, SameWords, line_of}
use Rattle.nncq_ring.proofs.Staying.{same_line}
use Rattle.app_queue.specs.declared.side.Side.{Side}
use Rattle.app_queue.specs.declared.side.Side.TheVariants.{Free, Line}
use Rattle.app_queue.specs.Queues.{Shape, OtherRingsStay}
use Rattle.app_queue.specs.Parts.{lines_weight, IsIn, FreeUntagged}
use Rattle.app_queue.specs.FrameLaws.{AreWellFormed, TagsStayOrFall, ItemsStayLaw, ItemsMoveLaw, FreeStayLaw, FreeLinesStayLaw, FreePutLaw, FreeTakeLaw, FreeArmLaw, HeldIsOutLaw}
use Rattle.app_queue.specs.SeatLaws.{ItemsSplitLaw, ItemsJoinLaw}
use Rattle.app_queue.proofs.ForEach.{at_queue}

-- a ring that stays weighs what it weighed
pub same_weight : (n : ℕ) (w w' : Words) → IsWellFormed n w → SameWords n w w' → (f : ℕ → ℕ) → line_weight n w' f ≡ line_weight n w f
same_weight n w w' fine same f = ap (weigh (λ (e : ℕ × ℕ). f e.1)) (same_line n w w' fine same)

-- one queue whose rings stay
queue_stays : {V : Type 0} (held : (ℕ → ℕ) → V → ℕ) (n : ℕ) (ring ring' : Side → Words) (views : List V) (k : ℕ) (v u : V) → get_elem? views k ≡ some v
    → ((side : Side) → IsWellFormed n (ring side)) → ((side : Side) → SameWords n (ring side) (ring' side)) → ((f : ℕ → ℕ) → held f u ≡ held f v)
    → Owned held (lines_weight n ring) n views → Owned held (lines_weight n ring') n (set views k u)
queue_stays held n ring ring' views k v u at fine stays same old =
    owned_moves held (lines_weight n ring) (lines_weight n ring') n views k v u at
    (λ f. omega (arith, same_weight n (ring Free) (ring' Free) (fine Free) (stays Free) f, same_weight n (ring Line) (ring' Line) (fine Line) (stays Line) f, same f)) old

pub items_stay : (V : Type 0) → ItemsStayLaw V
items_stay V held shape ring ring' views k v u at fine stays same old q lt =
    queue_stays (held q) (shape.items q) (ring q) (ring' q) views k v u at (fine q lt) (stays q lt) (same q) (old q lt)

pub items_move : (V : Type 0) → ItemsMoveLaw V
items_move V held shape ring ring' views k v u at fine q side stays same moved old =
    at_queue (λ r. Owned (held r) (lines_weight (shape.items r) (ring' r)) (shape.items r) (set views k u)) shape.queues q moved
    (λ r lt ne. queue_stays (held r) (shape.items r) (ring r) (ring' r) views k v u at (fine r lt) (λ other. stays r lt other (inl ne)) (same r lt ne) (old r lt))

pub items_split : (V : Type 0) → ItemsSplitLaw V
items_split V held shape ring views k v left right at parts old q lt = owned_split (held q) (lines_weight (shape.items q) (ring q)) (shape.items q) views k v left right at (parts q) (old q lt)

pub items_join : (V : Type 0) → ItemsJoinLaw V
items_join V held shape ring views k other v o both spent two parts old q lt = owned_join (held q) (lines_weight (shape.items q) (ring q)) (shape.items q) views k other v o both spent two.first two.second (parts q) (old q lt)

-- an item that a seat holds is in no ring
pub held_is_out : (V : Type 0) → HeldIsOutLaw V
held_is_out V held shape ring views k v at q item q_lt lt mine owned side is_in =
    by side is_in
  where
    none : lines_weight (shape.items q) (ring q) (is_number item) ≡ 0
    none = owned_here (held q) (lines_weight (shape.items q) (ring q)) (shape.items q) views k v at item lt mine (owned q q_lt)

    by : (a : Side) → IsIn item (shape.items q) (ring q a) → ⊥
    by Free here = absurd (omega (arith, none, here))
    by Line here = absurd (omega (arith, none, here))

-- ---- tags of free items

-- where each item that is in a free ring then was in it, or has tag 0
free_by : (shape : Shape) (ring ring' : ℕ → Side → Words) (tag tag' : ℕ → ℕ → ℕ) → TagsStayOrFall shape tag tag'
    → ((q : ℕ) → q < shape.queues → (item : ℕ) → IsIn item (shape.items q) (ring' q Free) → IsIn item (shape.items q) (ring q Free) ⊎ (tag q item ≡ 0))
    → FreeUntagged shape ring tag → FreeUntagged shape ring' tag'
free_by shape ring ring' tag tag' tags from old q lt item below_n is_in =
    let was : tag q item ≡ 0 = ⊎_elim (λ before. old q lt item below_n before) (λ none. none) (from q lt item is_in) in
    ⊎_elim (λ same. same ∙ was) (λ none. none) (tags q lt item below_n)

pub free_lines_stay : FreeLinesStayLaw
free_lines_stay shape ring ring' tag tag' lines tags old =
    free_by shape ring ring' tag tag' tags (λ q lt item is_in. inl (omega (arith, is_in, ap (weigh (λ (e : ℕ × ℕ). is_number item e.1)) (lines q lt)))) old

pub free_stay : FreeStayLaw
free_stay shape ring ring' tag tag' fine stays tags old =
    free_lines_stay shape ring ring' tag tag' (λ q lt. same_line (shape.items q) (ring q Free) (ring' q Free) (fine q lt Free) (stays q lt Free)) tags old

-- the free ring of one queue, and all others
free_at : (shape : Shape) (ring ring' : ℕ → Side → Words) → AreWellFormed shape ring → (q : ℕ) → OtherRingsStay shape q Free ring ring' → (tag : ℕ → ℕ → ℕ)
    → ((item : ℕ) → IsIn item (shape.items q) (ring' q Free) → IsIn item (shape.items q) (ring q Free) ⊎ (tag q item ≡ 0))
    → (r : ℕ) → r < shape.queues → (item : ℕ) → IsIn item (shape.items r) (ring' r Free) → IsIn item (shape.items r) (ring r Free) ⊎ (tag r item ≡ 0)
free_at shape ring ring' fine q stays tag here r lt item is_in =
    at_queue (λ p. IsIn item (shape.items p) (ring' p Free) → IsIn item (shape.items p) (ring p Free) ⊎ (tag p item ≡ 0)) shape.queues q (here item)
    (λ p there ne still. inl (omega (arith, still, same_weight (shape.items p) (ring p Free) (ring' p Free) (fine p there Free) (stays p there Free (inl ne)) (is_number item))))
    r lt is_in

pub free_put : FreePutLaw
free_put shape ring ring' tag tag' fine q place item stays line zero_tag tags old =
    free_by shape ring ring' tag tag' tags
    (free_at shape ring ring' fine q stays tag
    (λ i is_in.
    let weight : line_weight (shape.items q) (ring' q Free) (is_number i) ≡ line_weight (shape.items q) (ring q Free) (is_number i) + is_number i item = ap (weigh (λ (e : ℕ × ℕ). is_number i e.1)) line ∙ weigh_push (λ (e : ℕ × ℕ). is_number i e.1) (line_of (shape.items q) (ring q Free)) (place, item) in
    ⊎_elim
    (λ some_it. inr (ap (tag q) (sym (is_number_some i item some_it)) ∙ zero_tag))
    (λ none. inl (omega (arith, is_in, weight, none)))
    (cases_lt 0 (is_number i item))))
    old

pub free_take : FreeTakeLaw
free_take shape ring ring' tag tag' fine q place item q_lt lt stays line tags old =
    let weight : (i : ℕ) → line_weight (shape.items q) (ring q Free) (is_number i) ≡ is_number i item + line_weight (shape.items q) (ring' q Free) (is_number i) = λ i. ap (weigh (λ (e : ℕ × ℕ). is_number i e.1)) line in (
      free_by shape ring ring' tag tag' tags (free_at shape ring ring' fine q stays tag (λ i is_in. inl (omega (arith, is_in, weight i)))) old,
      old q q_lt item lt (omega (arith, weight item, is_number_same item)),
    )

pub free_arm : FreeArmLaw
free_arm shape ring ring' tag tag' fine stays q item x out sets old r lt i below_n is_in =
    let was_in : IsIn i (shape.items r) (ring r Free) = omega (arith, is_in, same_weight (shape.items r) (ring r Free) (ring' r Free) (fine r lt Free) (stays r lt Free) (is_number i)) in
    at_queue (λ p. p < shape.queues → i < shape.items p → IsIn i (shape.items p) (ring p Free) → tag' p i ≡ 0) shape.queues q
    (λ here i_lt was. ⊎_elim
    (λ is. absurd (out (subst (λ (j : ℕ). IsIn j (shape.items q) (ring q Free)) is was)))
    (λ ne. sets.here.others i i_lt ne ∙ old q here i i_lt was)
    (cases_eq i item))
    (λ p there ne again i_lt was. sets.others p there ne i i_lt ∙ old p there i i_lt was)
    r lt lt below_n was_in
