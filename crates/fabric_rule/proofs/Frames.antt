-- What a step leaves of the parts of the rule.
use Rattle.unit_model.specs.declared.machine.Owner.{Owner}
use Rattle.std.proofs.Common.{ℕ, ◌+◌, ◌*◌, ◌≡◌, ◌≢◌, ◌≤◌, ◌<◌, ◌⊎◌, inl, inr, ⊎_elim, set, sym, ap, ◌∙◌, subst, arith, List}
use Rattle.std.proofs.lemmas.Bool.{cases_eq}
use Rattle.std.specs.List.{range_with_len}
use Rattle.atomic_table.proofs.Lists.{at_set}
use Rattle.unit_model.specs.Core.{item_of, owner_of}
use Rattle.unit_model.specs.Holding.{items_of}
use Rattle.unit_model.specs.Limits.{segment_chunks}
use Rattle.unit_model.specs.Shapes.{role_in}
use Rattle.unit_model.specs.Weights.{weigh, below}
use Rattle.unit_model.specs.declared.machine.Core.{Core}
use Rattle.unit_model.specs.declared.machine.Sides.{Sides}
use Rattle.unit_model.specs.declared.machine.Whereabouts.{Whereabouts}
use Rattle.unit_model.specs.declared.shape.Shape.{Shape}
use Rattle.unit_model.proofs.Views.{sum_set}
use Rattle.unit_model.proofs.Weights.{below_change, below_same}
use Rattle.fabric_words.specs.Places.{queues_of, segments_of}
use Rattle.fabric_rule.specs.FrameLaws.{ItemsStayLaw, ItemMovesLaw, ChunksStayLaw, ChunksMoveLaw, OfEachLaw, OfFabricStayLaw}
use Rattle.fabric_rule.specs.Parts.{IsOfFabric, OfEach, OpensNoted, hand_weight, owner_weight}
use Rattle.fabric_rule.specs.Views.{hand_at, chunks_at, open_noted}
use Rattle.fabric_rule.specs.declared.event.Segments.TheVariants.{Out, Back}
use Rattle.fabric_rule.specs.declared.view.FabricView.{FabricView}
use Rattle.fabric_rule.proofs.Sums.{range_changes, sum_stays}
use mathlib.Core.Option.{some}
use lib.ListN.{get_elem?}

pub of_each : (P P' : FabricView → Type 0) → OfEachLaw P P'
of_each P P' views id u mine others old k y at = ⊎_elim (λ t. subst P' t.1 mine) (λ t. others y (old k y t.1)) (at_set views id k u y at)

pub of_fabric : OfFabricStayLaw
of_fabric core core' views id v u at shape same seat old =
    of_each (IsOfFabric core) (IsOfFabric core') views id u
    (let mine = old id v at in
    record {
      shape = same ∙ mine.shape ∙ sym shape;
      role = subst (λ (s : Shape). role_in s u.seat ≤ 1) (sym shape) (subst (λ (k : ℕ). role_in core.shape k ≤ 1) (sym seat) mine.role);
    })
    (λ y is. record { shape = is.shape ∙ sym shape; role = subst (λ (s : Shape). role_in s y.seat ≤ 1) (sym shape) is.role })
    old

-- where no segment opens
pub opens_same : (core core' : Core) → core'.opened ≡ core.opened → (y : FabricView) → OpensNoted core y → OpensNoted core' y
opens_same core core' same y old = record {
  out = subst (λ (o : Sides). open_noted Out y ≤ o.out) (sym same) old.out;
  back = subst (λ (o : Sides). open_noted Back y ≤ o.back) (sym same) old.back;
}

pub opens_stay : (core core' : Core) (views : List FabricView) (id : ℕ) (v u : FabricView) → get_elem? views id ≡ some v → core'.opened ≡ core.opened → open_noted Out u ≡ open_noted Out v → open_noted Back u ≡ open_noted Back v
    → OfEach (OpensNoted core) views → OfEach (OpensNoted core') (set views id u)
opens_stay core core' views id v u at same out back old =
    let mine : OpensNoted core' v = opens_same core core' same v (old id v at) in
    of_each (OpensNoted core) (OpensNoted core') views id u (record { out = omega (arith, mine.out, out); back = omega (arith, mine.back, back) }) (opens_same core core' same) old

-- ---- items

pub items_stay : ItemsStayLaw
items_stay core core' views id v u at shape whole same old queue lt f =
    let lt_old : queue < queues_of core.shape = subst (λ (s : Shape). queue < queues_of s) shape lt in
    let held : weigh (hand_at queue f) (set views id u) ≡ weigh (hand_at queue f) views = sum_stays (hand_at queue f) views id v u at (same queue f) in
    let terms : below (λ item. hand_weight f (item_of core' queue item).whereabouts item) (items_of core.shape queue) ≡ below (λ item. hand_weight f (item_of core queue item).whereabouts item) (items_of core.shape queue) =
    below_same (λ item. hand_weight f (item_of core' queue item).whereabouts item) (λ item. hand_weight f (item_of core queue item).whereabouts item) (items_of core.shape queue)
    (λ item below_n. ap (λ (w : Whereabouts). hand_weight f w item) (whole queue item lt_old)) in
    held ∙ old queue lt_old f ∙ sym terms ∙ sym (ap (λ (s : Shape). below (λ item. hand_weight f (item_of core' queue item).whereabouts item) (items_of s queue)) shape)

pub item_moves : ItemMovesLaw
item_moves core core' views id v u at shape one item inside whole moves same old queue lt f =
    let lt_old : queue < queues_of core.shape = subst (λ (s : Shape). queue < queues_of s) shape lt in
    let now : ℕ → ℕ = λ i. hand_weight f (item_of core' queue i).whereabouts i in
    let was : ℕ → ℕ = λ i. hand_weight f (item_of core queue i).whereabouts i in
    let sized : below now (items_of core'.shape queue) ≡ below now (items_of core.shape queue) = ap (λ (s : Shape). below now (items_of s queue)) shape in
    let stay : (i : ℕ) → (queue ≢ one) ⊎ (i ≢ item) → now i ≡ was i = λ i apart. ap (λ (w : Whereabouts). hand_weight f w i) (whole queue i apart) in
    elim (cases_eq queue one) [
      | inl is ↦
          let inside_here : item < items_of core.shape queue = subst (λ (q : ℕ). item < items_of core.shape q) (sym is) inside in
          let moves_here : hand_at queue f u + was item ≡ hand_at queue f v + now item = subst (λ (q : ℕ). hand_at q f u + hand_weight f (item_of core q item).whereabouts item ≡ hand_at q f v + hand_weight f (item_of core' q item).whereabouts item) (sym is) (moves f) in
          omega (
            arith,
            sized,
            old queue lt_old f,
            sum_set (hand_at queue f) views id v u at,
            below_change was now (items_of core.shape queue) item inside_here (λ i below_n other. stay i (inr other)),
            moves_here,
          )
      | inr other ↦ sum_stays (hand_at queue f) views id v u at (same queue f other) ∙ old queue lt_old f ∙ sym (below_same now was (items_of core.shape queue) (λ i below_n. stay i (inl other))) ∙ sym sized
    ]

-- ---- chunks

pub chunks_stay : ChunksStayLaw
chunks_stay core core' views id v u at shape owners same old f =
    let now : ℕ → ℕ = λ chunk. owner_weight f (owner_of core' chunk) chunk in
    let was : ℕ → ℕ = λ chunk. owner_weight f (owner_of core chunk) chunk in
    let n : ℕ = segment_chunks * segments_of core.shape in
    let terms : below now n ≡ below was n = below_same now was n (λ chunk lt. ap (λ (o : Owner). owner_weight f o chunk) (owners chunk)) in
    sum_stays (chunks_at f) views id v u at (same f) ∙ old f ∙ sym terms ∙ sym (ap (λ (s : Shape). below now (segment_chunks * segments_of s)) shape)

pub chunks_move : ChunksMoveLaw
chunks_move core core' views id v u at shape first n le owners moves old f =
    let now : ℕ → ℕ = λ chunk. owner_weight f (owner_of core' chunk) chunk in
    let was : ℕ → ℕ = λ chunk. owner_weight f (owner_of core chunk) chunk in
    let all : ℕ = segment_chunks * segments_of core.shape in
    let sized : below now (segment_chunks * segments_of core'.shape) ≡ below now all = ap (λ (s : Shape). below now (segment_chunks * segments_of s)) shape in
    let terms : below now all + weigh was (range_with_len first n) ≡ below was all + weigh now (range_with_len first n) =
    range_changes was now first n all le (λ chunk off. ap (λ (o : Owner). owner_weight f o chunk) (owners chunk off)) in
    omega (arith, sized, old f, sum_set (chunks_at f) views id v u at, terms, moves f)
