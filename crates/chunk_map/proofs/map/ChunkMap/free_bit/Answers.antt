use Rattle.std.proofs.Common.{refl, ap, ◌<◌, ◌*◌, ◌+◌, ◌∙◌, subst, arith}
use Rattle.chunk_map.proofs.Stepping.{frees_bit, held_before}
use Rattle.chunk_map.proofs.map.ChunkMap.free_bit.Goals as goal
use Rattle.chunk_map.proofs.Numbers.{index_within}
use Rattle.unit_model.specs.Sharing.{Holds}
use Rattle.chunk_map.specs.Views.{held_by}
use Rattle.chunk_map.specs.declared.view.MapView.{MapView}

pub fetch_or-requires : goal.fetch_or-requires
fetch_or-requires c =
    let table = c.args.self.now.table.shared in
    let seat = c.args.seat.now.seat in
    let sized = c.args.self.now.sized in
    let mine : 64 * c.args.number + c.args.bit < 640 * c.args.self.now.segments = omega (arith, c.args.seat.now.sound.1 (64 * c.args.number + c.args.bit) c.requires.held, c.requires.own.1) in
    let number : c.args.number < 10 * c.args.self.now.segments = omega (arith, mine) in (
      c.requires.own.0,
      omega (arith, sized.1, index_within c.args.number c.args.self.now.segments number),
      λ s holds homes at fits. frees_bit table.key c.args.number c.args.bit table.table_id.slots seat.id seat.me.0 seat.me.1 s (omega (arith, sized.0, number)) c.requires.bit holds at c.requires.held,
    )

pub invariant_of-seat : goal.invariant_of-seat
invariant_of-seat c =
    let done = c.fetch_or.ensures in
    let view = done.2.1 c.args.bit c.requires.bit refl in
    record {
      sound = (
        done.2.0 ∙ c.args.seat.now.sound.0,
        λ chunk mine. omega (arith, c.args.seat.now.sound.1 chunk (held_before c.args.number c.args.bit c.args.seat.now.seat.me.0 c.requires.held chunk (subst (λ (u : MapView). Holds held_by chunk u) view mine)), ap (λ (u : MapView). u.segments) view),
      );
    }
