use Rattle.std.proofs.Common.{ℕ, ◌≡◌, ◌+◌, ◌-◌, ◌*◌, ◌<◌, ◌∙◌, ap, arith}
use Rattle.carried_slots.proofs.EmptySlots.{known_empty}
use Rattle.unit_model.specs.Runs.{chunks_for}
use Rattle.chunk_map.specs.Gains.{given_back}
use Rattle.segment_table.specs.Events.{did}
use Rattle.segment_table.specs.Owning.{first_of}
use Rattle.segment_table.proofs.RunSlots.{given_back_run}
use Rattle.segment_table.proofs.SeatFacts.{holds_empty}
use Rattle.segment_table.proofs.table.SlotTable.release.Goals as goal

pub give_back-requires-clause-held : goal.give_back-requires-clause-held
give_back-requires-clause-held g c i lt = known_empty (first_of c.args.run + i) c.args.seat.now.seat.me.1 (c.requires.empty i (omega (arith, lt, c.chunk_count.ensures)))

pub give_back-requires-clause-within : goal.give_back-requires-clause-within
give_back-requires-clause-within g c some =
    let me = c.args.seat.now.seat.me in
    let sound = c.args.seat.now.sound in
    let first : ℕ = first_of c.args.run in
    let n : ℕ = chunks_for c.args.run.size in
    let last : first + (n - 1) < 640 * me.0.segments = sound.within (first + (n - 1)) (holds_empty me sound (first + (n - 1)) (c.requires.empty (n - 1) (omega (arith, some, c.chunk_count.ensures)))) in
    omega (arith, some, c.chunk_count.ensures, last, c.requires.own.1, c.args.self.now.sized.3)

pub returns-clause-gone : goal.returns-clause-gone
returns-clause-gone g c =
    let me = c.args.seat.now.seat.me in
    let me' = c.give_back.new.seat.seat.me in
    let first : ℕ = first_of c.args.run in
    let n : ℕ = chunks_for c.args.run.size in
    let view : me' ≡ given_back did first n me = c.give_back.ensures.view ∙ ap (λ (m : ℕ). given_back did first m me) c.chunk_count.ensures in
    (given_back_run first n me me' c.args.seat.now.sound.distinct view c.requires.empty).0

pub returns-clause-elsewhere : goal.returns-clause-elsewhere
returns-clause-elsewhere g c =
    let me = c.args.seat.now.seat.me in
    let me' = c.give_back.new.seat.seat.me in
    let first : ℕ = first_of c.args.run in
    let n : ℕ = chunks_for c.args.run.size in
    let view : me' ≡ given_back did first n me = c.give_back.ensures.view ∙ ap (λ (m : ℕ). given_back did first m me) c.chunk_count.ensures in
    (given_back_run first n me me' c.args.seat.now.sound.distinct view c.requires.empty).1
