-- Items in hand.
use Rattle.std.proofs.Common.{ℕ, ◌+◌, ◌≡◌, ◌≢◌, ◌≤◌, ◌<◌, ◌⊎◌, ◌*◌, ◌==◌, inl, inr, ⊎_elim, Bool, true, false, cond, List, [], ◌∷◌, refl, sym, ap, subst, arith}
use Rattle.std.proofs.lemmas.Bool.{cases_eq, cases_lt, eq-eqb, ne_eqb}
use mathlib.Core.Option.{some}
use lib.ListN.{get_elem?}
use Rattle.unit_model.specs.Core.{item_of, owner_of}
use Rattle.unit_model.specs.Holding.{items_of}
use Rattle.unit_model.specs.Weights.{weigh, below, is_number, times}
use Rattle.unit_model.specs.declared.machine.Core.{Core}
use Rattle.unit_model.specs.declared.machine.Whereabouts.{Whereabouts}
use Rattle.unit_model.specs.declared.machine.Whereabouts.TheVariants.{InFreeList, InLine, WithSeat}
use Rattle.unit_model.proofs.Views.{sum_at}
use Rattle.unit_model.proofs.Weights.{below-sum, below_is, below_le, below_none, below_same, is_number_other, is_number_same, weigh-sum}
use Rattle.unit_model.proofs.Sharing.{owned_below, owned_here}
use Rattle.unit_model.specs.Limits.{segment_chunks}
use Rattle.unit_model.specs.PartOrder.{Each}
use Rattle.unit_model.specs.Sharing.{Holds, Owned}
use Rattle.unit_model.specs.declared.machine.Owner.{Owner}
use Rattle.unit_model.specs.declared.machine.Owner.TheVariants.{Free as Unowned, Seat as OfSeat, Message as OfMessage}
use Rattle.fabric_words.specs.Places.{queues_of, segments_of}
use Rattle.fabric_rule.specs.Hands.{ChunkInHandLaw, HandsOwnedLaw, InHandLaw, away_weight, items_elsewhere}
use Rattle.fabric_rule.specs.Parts.{ItemsHeld, hand_weight, owner_weight}
use Rattle.fabric_rule.specs.Views.{chunks_at, hand_at, held_at, kept_at}
use Rattle.fabric_rule.specs.declared.view.FabricView.{FabricView}
use Rattle.fabric_rule.specs.declared.view.KeptItem.{KeptItem}

-- the weight of one item with one seat
abbrev one_hand : ℕ → ℕ → ℕ → ℕ → ℕ
one_hand seat item k i = cond (k == seat) (is_number item i) 0

pub nothing_of : (b : Bool) (n : ℕ) → n ≡ 0 → cond {A = ℕ} b n 0 ≡ 0
nothing_of true n is = is
nothing_of false n is = refl

here_or_none : (seat item : ℕ) (w : Whereabouts) → (w ≡ WithSeat seat) ⊎ (hand_weight (one_hand seat item) w item ≡ 0)
here_or_none seat item InFreeList = inr refl
here_or_none seat item InLine = inr refl
here_or_none seat item (WithSeat k) =
    elim (cases_eq k seat) [
      | inl is ↦ inl (ap WithSeat is)
      | inr ne ↦ inr (ap (λ (b : Bool). cond {A = ℕ} b (is_number item item) 0) (ne_eqb k seat ne))
    ]

none_of_others : (seat item i : ℕ) (w : Whereabouts) → i ≢ item → hand_weight (one_hand seat item) w i ≡ 0
none_of_others seat item i InFreeList ne = refl
none_of_others seat item i InLine ne = refl
none_of_others seat item i (WithSeat k) ne = nothing_of (k == seat) (is_number item i) (is_number_other item i ne)

pub in_hand : InHandLaw
in_hand core views id v at held queue item lt mine =
    let f : ℕ → ℕ → ℕ = one_hand v.seat item in
    let mine_there : held_at queue (f v.seat) v ≡ held_at queue (is_number item) v = ap (λ (b : Bool). held_at queue (λ i. cond {A = ℕ} b (is_number item i) 0) v) (eq-eqb v.seat v.seat refl) in
    ⊎_elim
    (λ is. is)
    (λ none.
    let nothing : below (λ i. hand_weight f (item_of core queue i).whereabouts i) (items_of core.shape queue) ≡ 0 =
    below_none (λ i. hand_weight f (item_of core queue i).whereabouts i) (items_of core.shape queue)
    (λ i below_n. elim (cases_eq i item) [
      | inl is ↦ subst (λ (j : ℕ). hand_weight f (item_of core queue j).whereabouts j ≡ 0) (sym is) none
      | inr ne ↦ none_of_others v.seat item i (item_of core queue i).whereabouts ne
    ]) in
    absurd (omega (arith, mine, mine_there, held queue lt f, nothing, sum_at (hand_at queue f) views id v at)))
    (here_or_none v.seat item (item_of core queue item).whereabouts)

either_place : (f : ℕ → ℕ) (w : Whereabouts) (item : ℕ) → away_weight f w item + hand_weight (λ seat. f) w item ≡ f item
either_place f InFreeList item = omega arith
either_place f InLine item = omega arith
either_place f (WithSeat k) item = omega arith

pub hands_owned : HandsOwnedLaw
hands_owned core views held queue lt f =
    let away : ℕ → ℕ = λ item. away_weight f (item_of core queue item).whereabouts item in
    let hand : ℕ → ℕ = λ item. hand_weight (λ seat. f) (item_of core queue item).whereabouts item in
    let n : ℕ = items_of core.shape queue in
    let both : below (λ item. away item + hand item) n ≡ below f n = below_same (λ item. away item + hand item) f n (λ item below_n. either_place f (item_of core queue item).whereabouts item) in
    let parts : weigh (hand_at queue (λ seat. f)) views ≡ weigh (held_at queue f) views + weigh (kept_at queue (λ seat. f)) views = weigh-sum (held_at queue f) (kept_at queue (λ seat. f)) views in
    omega (arith, held queue lt (λ seat. f), parts, below-sum away hand n, both)

-- ---- what is kept isn't in hand

kept_apart : (queue item : ℕ) (kept : List KeptItem) → weigh (λ (h : KeptItem). cond (h.queue == queue) (is_number item h.item) 0) kept ≡ 0 → Each (λ (h : KeptItem). (h.queue ≢ queue) ⊎ (h.item ≢ item)) kept
kept_apart queue item [] none = tt
kept_apart queue item (h ∷ hs) none =
    let first : cond {A = ℕ} (h.queue == queue) (is_number item h.item) 0 ≡ 0 = omega (arith, none) in (
      elim (cases_eq h.queue queue) [
        | inl same ↦ elim (cases_eq h.item item) [
          | inl is ↦ absurd (omega (arith, first, ap (λ (b : Bool). cond {A = ℕ} b (is_number item h.item) 0) (eq-eqb h.queue queue same), ap (is_number item) is, is_number_same item))
          | inr ne ↦ inr ne
        ]
        | inr ne ↦ inl ne
      ],
      kept_apart queue item hs (omega (arith, none)),
    )

-- an item that one view has in hand is kept by none
pub none_keeps : (core : Core) (views : List FabricView) (id : ℕ) (v : FabricView) → get_elem? views id ≡ some v → ItemsHeld core views → (queue item : ℕ) → queue < queues_of core.shape → Holds (held_at queue) item v
    → (k : ℕ) (y : FabricView) → get_elem? views k ≡ some y → Each (λ (h : KeptItem). (h.queue ≢ queue) ⊎ (h.item ≢ item)) y.kept
none_keeps core views id v at held queue item lt mine k y there =
    let owned : Owned (held_at queue) (items_elsewhere core views queue) (items_of core.shape queue) views = hands_owned core views held queue lt in
    let below_n : item < items_of core.shape queue = owned_below (held_at queue) (items_elsewhere core views queue) (items_of core.shape queue) views id v at item mine owned in
    let nowhere : items_elsewhere core views queue (is_number item) ≡ 0 = owned_here (held_at queue) (items_elsewhere core views queue) (items_of core.shape queue) views id v at item below_n mine owned in
    kept_apart queue item y.kept (omega (arith, nowhere, sum_at (kept_at queue (λ seat. is_number item)) views k y there))

-- ---- chunks

-- the weight of one chunk with one seat
abbrev one_chunk : ℕ → ℕ → ℕ → ℕ → ℕ
one_chunk seat chunk k other = cond (k == seat) (is_number chunk other) 0

owned_or_none : (seat chunk : ℕ) (o : Owner) → (o ≡ OfSeat seat) ⊎ (owner_weight (one_chunk seat chunk) o chunk ≡ 0)
owned_or_none seat chunk Unowned = inr refl
owned_or_none seat chunk (OfMessage queue item) = inr refl
owned_or_none seat chunk (OfSeat k) =
    elim (cases_eq k seat) [
      | inl is ↦ inl (ap OfSeat is)
      | inr ne ↦ inr (ap (λ (b : Bool). cond {A = ℕ} b (is_number chunk chunk) 0) (ne_eqb k seat ne))
    ]

none_of_other_chunks : (seat chunk other : ℕ) (o : Owner) → other ≢ chunk → owner_weight (one_chunk seat chunk) o other ≡ 0
none_of_other_chunks seat chunk other Unowned ne = refl
none_of_other_chunks seat chunk other (OfMessage queue item) ne = refl
none_of_other_chunks seat chunk other (OfSeat k) ne = nothing_of (k == seat) (is_number chunk other) (is_number_other chunk other ne)

at_most_number : (chunk other : ℕ) (o : Owner) → owner_weight (λ k. is_number chunk) o other ≤ is_number chunk other
at_most_number chunk other Unowned = omega arith
at_most_number chunk other (OfMessage queue item) = omega arith
at_most_number chunk other (OfSeat k) = omega arith

pub chunk_in_hand : ChunkInHandLaw
chunk_in_hand core views id v at held chunk mine =
    let f : ℕ → ℕ → ℕ = one_chunk v.seat chunk in
    let n : ℕ = segment_chunks * segments_of core.shape in
    let terms : ℕ → ℕ = λ other. owner_weight f (owner_of core other) other in
    let mine_there : chunks_at f v ≡ times chunk v.chunks = ap (λ (b : Bool). weigh (λ other. cond {A = ℕ} b (is_number chunk other) 0) v.chunks) (eq-eqb v.seat v.seat refl) in
    let some_terms : 1 ≤ below terms n = omega (arith, mine, mine_there, held f, sum_at (chunks_at f) views id v at) in
    let within : chunk < n = elim (cases_lt chunk n) [
      | inl lt ↦ lt
      | inr le ↦ absurd (omega (arith, some_terms, below_none terms n (λ other lt. none_of_other_chunks v.seat chunk other (owner_of core other) (λ is. absurd (omega (arith, is, lt, le))))))
    ] in
    record {
      within = within;
      owner = ⊎_elim
          (λ is. is)
          (λ none. absurd (omega (
            arith,
            some_terms,
            below_none terms n (λ other lt. elim (cases_eq other chunk) [
              | inl is ↦ subst (λ (j : ℕ). owner_weight f (owner_of core j) j ≡ 0) (sym is) none
              | inr ne ↦ none_of_other_chunks v.seat chunk other (owner_of core other) ne
            ]),
          )))
          (owned_or_none v.seat chunk (owner_of core chunk));
      once = omega (arith, held (λ k. is_number chunk), below_le (λ other. owner_weight (λ k. is_number chunk) (owner_of core other) other) (is_number chunk) n (λ other lt. at_most_number chunk other (owner_of core other)), below_is n chunk within);
    }
