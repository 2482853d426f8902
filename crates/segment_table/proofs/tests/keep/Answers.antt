use Rattle.std.proofs.Common.{ℕ, ◌≡◌, ◌+◌, ◌*◌, ◌<◌, ◌∙◌, inr, refl, ap, arith}
use Rattle.unit_model.specs.Runs.{chunks_for}
use Rattle.carried_slots.specs.Carried.{content}
use Rattle.segment_table.proofs.Filling.{filled_is_full}
use Rattle.segment_table.proofs.tests.keep.Goals as goal

pub release-requires-clause-empty : goal.release-requires-clause-empty
release-requires-clause-empty c i lt =
    let one : chunks_for 1 ≡ 1 = refl in
    c.requires.empty i (omega (arith, lt, one))

pub fill-requires-clause-empty : goal.fill-requires-clause-empty
fill-requires-clause-empty c i lt =
    let run = c.args.run in
    let k : ℕ = 640 * run.segment + (run.chunk + 1) + i in
    let one : chunks_for 1 ≡ 1 = refl in
    let same : k ≡ 640 * run.segment + run.chunk + 1 = omega (arith, lt, one) in
    c.release.ensures.elsewhere k (inr (omega (arith, one))) ∙ ap (content c.args.seat.now.seat.me.1) same ∙ c.requires.empty 1 (omega arith)

pub fill-requires-clause-many : goal.fill-requires-clause-many
fill-requires-clause-many c = c.requires.one

pub returns-clause-kept : goal.returns-clause-kept
returns-clause-kept c = filled_is_full (640 * c.args.run.segment + (c.args.run.chunk + 1)) 1 c.args.piece.now.parcels c.fill.new.seat.seat.me.1 c.requires.one c.fill.ensures.filled
