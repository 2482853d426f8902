use Rattle.std.proofs.Common.{ℕ, ◌+◌, ◌-◌, ◌*◌, ◌∙◌, ap, arith}
use Rattle.unit_model.specs.Runs.{chunks_for}
use Rattle.unit_model.specs.Weights.{weigh}
use Rattle.chunk_map.specs.declared.view.MapView.{MapView}
use Rattle.chunk_map.specs.Gains.{given_back}
use Rattle.chunk_map.specs.Seats.{knows}
use Rattle.chunk_map.specs.Views.{does, frees_one, held_by}
use Rattle.chunk_map.proofs.GainLaws.{back_weigh}
use Rattle.chunk_map.proofs.map.ChunkMap.release_run.Goals as goal

pub give_back-requires-clause-held : goal.give_back-requires-clause-held
give_back-requires-clause-held c i lt = c.requires.held i (omega (arith, lt, c.chunk_count.ensures))

pub give_back-requires-clause-within : goal.give_back-requires-clause-within
give_back-requires-clause-within c some =
    let first : ℕ = 640 * c.args.run.segment + c.args.run.chunk in
    let n : ℕ = chunks_for c.args.run.size in
    let last = c.requires.held (n - 1) (omega (arith, some, c.chunk_count.ensures)) in
    omega (arith, some, c.chunk_count.ensures, c.args.seat.now.sound.1 (first + (n - 1)) last, c.requires.own.1, c.args.self.now.sized.3)

pub returns-clause-released : goal.returns-clause-released
returns-clause-released c f =
    let first : ℕ = 640 * c.args.run.segment + c.args.run.chunk in
    let view = c.give_back.ensures.view ∙ ap (λ (n : ℕ). given_back does first n (knows c.args.seat.now)) c.chunk_count.ensures in
    omega (
      arith,
      back_weigh MapView does held_by (λ g chunk v mine. frees_one g chunk v.held mine) first (chunks_for c.args.run.size) (knows c.args.seat.now) f c.requires.held,
      ap (λ (u : MapView). weigh f u.held) view,
    )
