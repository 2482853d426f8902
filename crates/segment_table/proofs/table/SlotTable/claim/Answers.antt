use Rattle.std.proofs.Common.{ℕ, ◌≡◌, ◌+◌, ◌∙◌, refl, sym, ap, subst, List, ◌∷◌}
use Rattle.std.specs.Prelude.{Option}
use Rattle.atomic_table.specs.Table.{Me}
use Rattle.carried_slots.specs.Carried.{content}
use Rattle.carried_slots.specs.EmptySlots.{empty_weight, full_slots}
use Rattle.carried_slots.specs.RunSlots.{HasEmpty, HasNone, SameElsewhere}
use Rattle.carried_slots.proofs.EmptyRuns.{run_claimed, nothing_claimed}
use Rattle.unit_model.specs.Runs.{chunks_for}
use Rattle.unit_model.specs.Weights.{weigh, is_number}
use Rattle.chunk_map.specs.Gains.{SameSearch}
use Rattle.chunk_map.specs.Looks.{Begins}
use Rattle.chunk_map.specs.Runs.{run_chunks}
use Rattle.chunk_map.specs.declared.view.MapEvent.{MapEvent}
use Rattle.chunk_map.specs.declared.view.MapEvent.TheVariants.{SawOpen}
use Rattle.chunk_map.specs.declared.view.MapView.{MapView}
use Rattle.chunk_map.proofs.Claiming.{begins, full_so, run_so}
use Rattle.segment_table.specs.Owning.{first_of}
use Rattle.segment_table.proofs.RunSlots.{steps_full}
use Rattle.segment_table.proofs.table.SlotTable.claim.Goals as goal

pub claim_among-requires-clause-begins : goal.claim_among-requires-clause-begins
claim_among-requires-clause-begins g c =
    let log : List MapEvent = c.args.seat.now.seat.me.0.log in
    let n : ℕ = c.args.self.now.segments in
    let view : c.load_open.new.seat.seat.me.0.log ≡ SawOpen c.load_open.result ∷ log = ap (λ (m : Me (Option g.row.T.Denot) MapView). m.0.log) c.load_open.ensures.view in
    subst (Begins n) (sym view) (subst (λ (k : ℕ). Begins n (SawOpen k ∷ log)) (sym c.load_open.ensures.count.0) (begins n log))

pub returns-clause-search : goal.returns-clause-search
returns-clause-search g c =
    let log : List MapEvent = c.args.seat.now.seat.me.0.log in
    let log' : List MapEvent = c.claim_among.new.seat.seat.me.0.log in
    let view : c.load_open.new.seat.seat.me.0.log ≡ SawOpen c.load_open.result ∷ log = ap (λ (m : Me (Option g.row.T.Denot) MapView). m.0.log) c.load_open.ensures.view in
    let search : SameSearch (SawOpen c.load_open.result ∷ log) log' = subst (λ (l : List MapEvent). SameSearch l log') view c.claim_among.ensures.search.0 in
    (search.searched c.args.self.now.segments log (c.load_open.ensures.count.0, refl), c.claim_among.ensures.search.1, c.claim_among.ensures.search.2)

pub returns-clause-slots : goal.returns-clause-slots
returns-clause-slots g c =
    let old : List (ℕ × Option g.row.T.Denot) = c.args.seat.now.seat.me.1 in
    let mid : List (ℕ × Option g.row.T.Denot) = c.load_open.new.seat.seat.me.1 in
    let new : List (ℕ × Option g.row.T.Denot) = c.claim_among.new.seat.seat.me.1 in
    let same : mid ≡ old = ap (λ (m : Me (Option g.row.T.Denot) MapView). m.1) c.load_open.ensures.view in
    let full : full_slots new ≡ full_slots old = steps_full c.load_open.new.seat.seat.me c.claim_among.new.seat.seat.me c.claim_among.ensures.told ∙ ap full_slots same in
    run_so c.claim_among.result
    (λ run. (f : ℕ → ℕ) → empty_weight f new ≡ weigh f (run_chunks run) + empty_weight f mid)
    (λ run. HasNone (first_of run) (chunks_for run.size) old × HasEmpty (first_of run) (chunks_for run.size) new × SameElsewhere (first_of run) (chunks_for run.size) old new)
    (λ run it. run_claimed (first_of run) (chunks_for run.size) old new c.claim_among.new.seat.sound.distinct full (λ k. it (is_number k) ∙ ap (λ (l : List (ℕ × Option g.row.T.Denot)). weigh (is_number k) (run_chunks run) + empty_weight (is_number k) l) same))
    c.claim_among.ensures.gained

pub returns-clause-kept : goal.returns-clause-kept
returns-clause-kept g c =
    let old : List (ℕ × Option g.row.T.Denot) = c.args.seat.now.seat.me.1 in
    let mid : List (ℕ × Option g.row.T.Denot) = c.load_open.new.seat.seat.me.1 in
    let new : List (ℕ × Option g.row.T.Denot) = c.claim_among.new.seat.seat.me.1 in
    let same : mid ≡ old = ap (λ (m : Me (Option g.row.T.Denot) MapView). m.1) c.load_open.ensures.view in
    let full : full_slots new ≡ full_slots old = steps_full c.load_open.new.seat.seat.me c.claim_among.new.seat.seat.me c.claim_among.ensures.told ∙ ap full_slots same in
    full_so c.claim_among.result
    (λ seen. (f : ℕ → ℕ) → empty_weight f new ≡ empty_weight f mid)
    (λ seen. (k : ℕ) → content new k ≡ content old k)
    (λ seen it. nothing_claimed old new c.claim_among.new.seat.sound.distinct full (λ k. it (is_number k) ∙ ap (empty_weight (is_number k)) same))
    c.claim_among.ensures.held
