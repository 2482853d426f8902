-- Splits, joins and the opening of a queue keep the rule of its table.
use Rattle.std.proofs.Common.{ℕ, ◌+◌, ◌/◌, ◌^◌, ◌≡◌, ◌<◌, ◌≤◌, inl, inr, ⊎_elim, List, [], ◌∷◌, ◌++◌, refl, sym, ap, ◌∙◌, subst, arith}
use Rattle.std.proofs.lemmas.Bool.{cases_eq, eq-eqb}
use Rattle.std.proofs.lemmas.Nat.{div-mul-add}
use lib.ListN.{get_elem?}
use Rattle.atomic_table.specs.Table.{State, Splits, Joins, opening}
use Rattle.unit_model.specs.Weights.{weigh, below, one_if}
use Rattle.unit_model.proofs.Views.{only_view}
use Rattle.unit_model.proofs.Weights.{weigh-append}
use Rattle.nncq_ring.specs.declared.view.RingEvent.{RingEvent}
use Rattle.nncq_ring.specs.Notes.{AllNoted, RingPart}
use Rattle.nncq_ring.specs.Views.{push_weight, pop_weight}
use Rattle.nncq_ring.specs.Words.{IsWellFormed, logical_tail, line_of}
use Rattle.nncq_ring.proofs.Full.{full_fine, full_starts, full_tail, full_weighs}
use Rattle.nncq_ring.proofs.Noting.{starts}
use Rattle.tracking_word.specs.Words.{is_pair}
use Rattle.tracking_word.proofs.Parts.{counted_pair}
use Rattle.tracking_word.proofs.Words.{standing_none}
use Rattle.app_queue.specs.declared.layout.Place.TheVariants.{TagOf, RunOf, PartOf}
use Rattle.app_queue.specs.declared.side.Side.{Side}
use Rattle.app_queue.specs.declared.side.Side.TheVariants.{Free, Line}
use Rattle.app_queue.specs.declared.view.ItemEvent.{ItemEvent}
use Rattle.app_queue.specs.declared.view.QueueView.{QueueView}
use Rattle.app_queue.specs.Layout.{word_of, ring_of, one_queue, queue_words}
use Rattle.app_queue.specs.Opening.{IsFirst}
use Rattle.app_queue.specs.Rule.{QueueHolds, begun_with, starts_at}
use Rattle.app_queue.specs.SeatLaws.{AreTwo}
use Rattle.app_queue.specs.Views.{held_by, held_of, log_at, log_of, pushes_of, pops_of, arm_weight, win_weight, run_weight, part_weight, arms_of, wins_of, run_notes_of, part_notes_of, tag_said, run_said, part_said, empty, together}
use Rattle.app_queue.proofs.HistoryFrames.{histories_split, histories_join}
use Rattle.app_queue.proofs.ItemFrames.{items_split, items_join}
use Rattle.app_queue.proofs.KnownFrames.{tags_known_split, words_known_split, tags_known_join, words_known_join}
use Rattle.app_queue.proofs.NotedFrames.{words_noted_split, words_noted_join}
use Rattle.app_queue.proofs.RingFrames.{rings_split, rings_join}
use Rattle.app_queue.proofs.TagFrames.{counted_splits, counted_joins}

empty_log : (side : Side) → log_at side empty ≡ []
empty_log Free = refl
empty_log Line = refl

both_logs : (side : Side) (v w : QueueView) → log_at side (together v w) ≡ log_at side v ++ log_at side w
both_logs Free v w = refl
both_logs Line v w = refl

pub splits : (key : ℕ × ℕ) (id : ℕ) (v : QueueView) → Splits {S = ℕ} (QueueHolds key) id v v empty
splits key id v s holds at =
    let shape = one_queue key.0 in
    let w = queue_words key.0 s.words in
    record {
      wide = holds.wide;
      rings = rings_split QueueView log_of shape w.ring s.views id v v empty at (λ q side. inl refl) (λ q side. inr (empty_log side)) holds.rings;
      history = histories_split QueueView pushes_of pops_of (starts_at key.1) (begun_with key.0 key.1) shape w.ring s.views id v v empty at
          (λ side q g. let none = ap (weigh (push_weight g)) (empty_log side) in omega (arith, none)) (λ side q g. let none = ap (weigh (pop_weight g)) (empty_log side) in omega (arith, none)) holds.history;
      owned = items_split QueueView held_of shape w.ring s.views id v v empty at (λ q f. omega arith) holds.owned;
      free = holds.free;
      counted = counted_splits QueueView arms_of wins_of shape w.tag s.views id v v empty at (λ q f. omega arith) (λ q f. omega arith) holds.counted;
      tags = tags_known_split QueueView tag_said held_of shape w.tag s.views id v v empty at (λ q i mine. (mine, λ x told. told)) (λ q i mine. absurd (omega (arith, mine))) holds.tags;
      runs = words_known_split QueueView run_said held_of shape w.run s.views id v v empty at (λ q i mine. (mine, λ x told. told)) (λ q i mine. absurd (omega (arith, mine))) holds.runs;
      parts = words_known_split QueueView part_said held_of shape w.part s.views id v v empty at (λ q i mine. (mine, λ x told. told)) (λ q i mine. absurd (omega (arith, mine))) holds.parts;
      noted_runs = words_noted_split QueueView run_notes_of shape w.run s.views id v v empty at (λ q f. omega arith) holds.noted_runs;
      noted_parts = words_noted_split QueueView part_notes_of shape w.part s.views id v v empty at (λ q f. omega arith) holds.noted_parts;
    }

-- all that two logs weigh
both_weigh : (g : ItemEvent → ℕ) (v w : QueueView) → weigh g (w.items ++ w.joined ++ v.joined) ≡ weigh g w.items + weigh g w.joined + weigh g v.joined
both_weigh g v w = omega (arith, weigh-append g (w.items ++ w.joined) v.joined, weigh-append g w.items w.joined)

pub joins : (key : ℕ × ℕ) (id other : ℕ) (v u : QueueView) → u.held ≡ [] → Joins {S = ℕ} (QueueHolds key) id v other u (together v u) empty
joins key id other v u nothing s holds at apart there =
    let shape = one_queue key.0 in
    let w = queue_words key.0 s.words in
    let two : AreTwo s.views id v (together v u) other u = record { first = at; apart = apart; second = there } in
    record {
      wide = holds.wide;
      rings = rings_join QueueView log_of shape w.ring s.views id other v u (together v u) empty two (λ q side. both_logs side v u) (λ q side. empty_log side) holds.rings;
      history = histories_join QueueView pushes_of pops_of (starts_at key.1) (begun_with key.0 key.1) shape w.ring s.views id other v u (together v u) empty two
          (λ side q g. omega (arith, ap (weigh (push_weight g)) (empty_log side), ap (weigh (push_weight g)) (both_logs side v u), weigh-append (push_weight g) (log_at side v) (log_at side u)))
          (λ side q g. omega (arith, ap (weigh (pop_weight g)) (empty_log side), ap (weigh (pop_weight g)) (both_logs side v u), weigh-append (pop_weight g) (log_at side v) (log_at side u))) holds.history;
      owned = items_join QueueView held_of shape w.ring s.views id other v u (together v u) empty two (λ q f. omega (arith, ap (weigh f) nothing)) holds.owned;
      free = holds.free;
      counted = counted_joins QueueView arms_of wins_of shape w.tag s.views id other v u (together v u) empty two (λ q f. omega (arith, both_weigh (arm_weight f) v u)) (λ q f. omega (arith, both_weigh (win_weight f) v u)) holds.counted;
      tags = tags_known_join QueueView tag_said held_of shape w.tag s.views id other v u (together v u) empty two (λ q i x mine told. inl (mine, told)) (λ q i mine. absurd (omega (arith, mine))) holds.tags;
      runs = words_known_join QueueView run_said held_of shape w.run s.views id other v u (together v u) empty two (λ q i x mine told. inl (mine, told)) (λ q i mine. absurd (omega (arith, mine))) holds.runs;
      parts = words_known_join QueueView part_said held_of shape w.part s.views id other v u (together v u) empty two (λ q i x mine told. inl (mine, told)) (λ q i mine. absurd (omega (arith, mine))) holds.parts;
      noted_runs = words_noted_join QueueView run_notes_of shape w.run s.views id other v u (together v u) empty two (λ q f. omega (arith, both_weigh (run_weight f) v u)) holds.noted_runs;
      noted_parts = words_noted_join QueueView part_notes_of shape w.part s.views id other v u (together v u) empty two (λ q f. omega (arith, both_weigh (part_weight f) v u)) holds.noted_parts;
    }

-- ---- the table at first

module _ (n start : ℕ) (words : List ℕ) (pos : 0 < n) (turned : n ≤ start) (low : start + n ≤ 2 ^ 62) (is_first : IsFirst n start words) where
  -- a ring of which nothing was noted
  unnoted : (side : Side) (k : ℕ) (v : QueueView) → get_elem? (empty ∷ []) k ≡ mathlib.Core.Option.some v → AllNoted n (ring_of n words side) (log_at side v)
  unnoted side k v at = subst (λ (u : QueueView). AllNoted n (ring_of n words side) (log_at side u)) (only_view empty v k at) (subst (λ (l : List RingEvent). AllNoted n (ring_of n words side) l) (sym (empty_log side)) tt)

  line_begins : IsWellFormed n (ring_of n words Line) × (line_of n (ring_of n words Line) ≡ []) × (logical_tail n (ring_of n words Line) ≡ (ring_of n words Line).head)
  line_begins = starts n (ring_of n words Line) pos (omega (arith, turned, is_first.line.head)) (is_first.line.tail ∙ sym is_first.line.head)
      (λ p lt near. ap (λ (x : ℕ). x / n) (is_first.line.entries p (omega (arith, lt, is_first.line.head)) (omega (arith, near, is_first.line.head))) ∙ div-mul-add (p / n) n 0 pos)

  ring_part : (side : Side) → RingPart n (log_at side) (ring_of n words side) (empty ∷ [])
  ring_part Free = record { fine = full_fine n start (ring_of n words Free) pos turned is_first.free; noted = λ k v at. unnoted Free k v at }
  ring_part Line = record { fine = line_begins.0; noted = λ k v at. unnoted Line k v at }

  ring_worn : (side : Side) → logical_tail n (ring_of n words side) ≤ 2 ^ 62
  ring_worn Free = omega (arith, full_tail n start (ring_of n words Free) pos turned is_first.free, low)
  ring_worn Line = omega (arith, line_begins.2, is_first.line.head, low)

  moved_first : (side : Side) (g : ℕ → ℕ → ℕ) → weigh (pushes_of 0 side g) (empty ∷ []) + weigh (λ (e : ℕ × ℕ). g e.0 e.1) (begun_with n start 0 side) ≡ weigh (pops_of 0 side g) (empty ∷ []) + weigh (λ (e : ℕ × ℕ). g e.0 e.1) (line_of n (ring_of n words side))
  moved_first Free g = let line = ap (weigh (λ (e : ℕ × ℕ). g e.0 e.1)) (full_starts n start (ring_of n words Free) pos turned is_first.free) in omega (arith, line)
  moved_first Line g = let line = ap (weigh (λ (e : ℕ × ℕ). g e.0 e.1)) line_begins.1 in omega (arith, line)

  emptied_first : (side : Side) (f : ℕ → ℕ) → weigh (pops_of 0 side (λ place item. f place)) (empty ∷ []) + below f start ≡ below f (ring_of n words side).head
  emptied_first Free f = let head = ap (below f) is_first.free.head in omega (arith, head)
  emptied_first Line f = let head = ap (below f) is_first.line.head in omega (arith, head)

  pub opens : QueueHolds {S = ℕ} (n, start) (opening words [] empty)
  opens = record {
    wide = is_first.wide;
    rings = record { rings = λ q lt side. ring_part side; worn = λ q lt side. ring_worn side };
    history = record { moved = λ q lt side. moved_first side; emptied = λ q lt side. emptied_first side };
    owned = λ q lt f. omega (
      arith,
      ap (weigh (λ (e : ℕ × ℕ). f e.1)) (full_starts n start (ring_of n words Free) pos turned is_first.free),
      full_weighs f start n,
      ap (weigh (λ (e : ℕ × ℕ). f e.1)) line_begins.1,
    );
    free = λ q lt item below_n is_in. is_first.tags item below_n;
    counted = λ q lt f. omega (arith, standing_none f n ((queue_words n words).tag 0) (λ i below_n. is_first.tags i below_n));
    tags = λ q lt k v at i below_n mine. absurd (none_held k v at i mine);
    runs = λ q lt k v at i below_n mine. absurd (none_held k v at i mine);
    parts = λ q lt k v at i below_n mine. absurd (none_held k v at i mine);
    noted_runs = λ q lt item below_n some_run. absurd (some_run (is_first.runs item below_n));
    noted_parts = λ q lt item below_n some_part. absurd (some_part (is_first.parts item below_n));
  }
    where
      none_held : (k : ℕ) (v : QueueView) → get_elem? (empty ∷ []) k ≡ mathlib.Core.Option.some v → (i : ℕ) → ¬ (0 < held_by (Rattle.unit_model.specs.Weights.is_number i) v)
      none_held k v at i mine = let none : held_by (Rattle.unit_model.specs.Weights.is_number i) v ≡ 0 = sym (ap (held_by (Rattle.unit_model.specs.Weights.is_number i)) (only_view empty v k at)) in absurd (omega (arith, mine, none))

-- while one seat that has done nothing is the only one, no word of an item is another than 0
pub zero_at_first : (key : ℕ × ℕ) (s : State ℕ QueueView) → QueueHolds key s → s.views ≡ empty ∷ [] → (item : ℕ) → item < key.0
    → (word_of key.0 s.words (TagOf item) ≡ 0) × (word_of key.0 s.words (RunOf item) ≡ 0) × (word_of key.0 s.words (PartOf item) ≡ 0)
zero_at_first key s holds alone item lt = (tag_zero, run_zero, part_zero)
  where
    one : 0 < 1
    one = omega arith

    -- nothing was done
    nothing : (f : QueueView → ℕ) → weigh f s.views ≡ f empty + 0
    nothing f = ap (weigh f) alone

    tag_zero : word_of key.0 s.words (TagOf item) ≡ 0
    tag_zero =
        let x : ℕ = word_of key.0 s.words (TagOf item) in
        ⊎_elim (λ none. none)
        (λ some_tag.
        let pos : 0 < x = omega (arith, some_tag) in
        absurd (omega (
          arith,
          counted_pair (arms_of 0) (wins_of 0) key.0 ((queue_words key.0 s.words).tag 0) s.views (holds.counted 0 one) item x lt pos,
          nothing (arms_of 0 (is_pair item x)),
          ap one_if (eq-eqb x x refl),
        )))
        (cases_eq x 0)

    run_zero : word_of key.0 s.words (RunOf item) ≡ 0
    run_zero =
        let x : ℕ = word_of key.0 s.words (RunOf item) in
        ⊎_elim (λ none. none) (λ some_run. absurd (omega (arith, holds.noted_runs 0 one item lt some_run, nothing (run_notes_of 0 (is_pair item x))))) (cases_eq x 0)

    part_zero : word_of key.0 s.words (PartOf item) ≡ 0
    part_zero =
        let x : ℕ = word_of key.0 s.words (PartOf item) in
        ⊎_elim (λ none. none) (λ some_part. absurd (omega (arith, holds.noted_parts 0 one item lt some_part, nothing (part_notes_of 0 (is_pair item x))))) (cases_eq x 0)
