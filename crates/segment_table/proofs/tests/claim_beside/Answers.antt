use Rattle.std.proofs.Common.{ℕ, ◌<◌, sym, ap, subst}
use Rattle.std.specs.Prelude.{None}
use Rattle.unit_model.specs.Runs.{chunks_for}
use Rattle.carried_slots.specs.RunLaws.{AreApart}
use Rattle.carried_slots.proofs.RunMoving.{runs_apart}
use Rattle.segment_table.specs.Owning.{first_of}
use Rattle.segment_table.proofs.RunSlots.{some_chunks, stays_empty}
use Rattle.segment_table.proofs.tests.claim_beside.Goals as goal

pub returns-in-Run-clause-both : goal.returns-in-Run-clause-both
returns-in-Run-clause-both c =
    let run = c.in-Run.run' in
    let old = c.args.seat.now.seat.me.1 in
    let n : ℕ = chunks_for c.args.first.size in
    let m : ℕ = chunks_for run.size in
    let some : 0 < n = some_chunks c.args.first.size c.requires.sizes.0 in
    let more : 0 < m = subst (λ (k : ℕ). 0 < k) (sym (ap chunks_for c.in-Run.ensures.run.0)) (some_chunks c.args.size c.requires.sizes.1) in
    let apart : AreApart (first_of c.args.first) n (first_of run) m = runs_apart _ (first_of c.args.first) n (first_of run) m old some more (λ i lt. (None, c.requires.empty i lt)) c.in-Run.ensures.slots.0 in
    (stays_empty (first_of c.args.first) n (first_of run) m old c.claim.new.seat.seat.me.1 apart c.in-Run.ensures.slots.2 c.requires.empty, c.in-Run.ensures.slots.1, apart)
