use Rattle.std.proofs.Common.{◌≡◌, ◌+◌, ◌*◌, ◌/◌, ◌%◌, ◌<◌, ◌∙◌, ap, arith}
use Rattle.carried_slots.specs.Carried.{content}
use Rattle.carried_slots.proofs.EmptySlots.{empty_known}
use Rattle.segment_table.proofs.SeatFacts.{holds_empty}
use Rattle.segment_table.proofs.map_steps.SlotTableMapSteps.free.Goals as goal

pub free_bit-requires-clause-number : goal.free_bit-requires-clause-number
free_bit-requires-clause-number g c =
    let me = c.args.seat.now.seat.me in
    let sound = c.args.seat.now.sound in
    let lt : c.args.chunk < 640 * me.0.segments = sound.within c.args.chunk (holds_empty me sound c.args.chunk (empty_known c.args.chunk me.1 sound.distinct c.requires.held)) in
    omega (arith, lt, c.requires.own.1)

pub free_bit-requires-clause-empty : goal.free_bit-requires-clause-empty
free_bit-requires-clause-empty g c =
    let me = c.args.seat.now.seat.me in
    let same : 64 * (c.args.chunk / 64) + c.args.chunk % 64 ≡ c.args.chunk = omega arith in
    ap (content me.1) same ∙ empty_known c.args.chunk me.1 c.args.seat.now.sound.distinct c.requires.held
