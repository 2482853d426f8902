use Rattle.std.proofs.Common.{ℕ, ◌+◌, ◌*◌, ◌/◌, ◌%◌, ◌<◌, ◌∙◌, ap, ap₂, sym, arith}
use Rattle.carried_slots.specs.Carried.{but, content}
use Rattle.carried_slots.proofs.Ranges.{is_inside}
use Rattle.fabric_rule.specs.Claiming.{chunk_in, without_chunk}
use Rattle.fabric_rule.specs.SegmentMaps.{side_chunks, side_first}
use Rattle.fabric_rule.proofs.SideSlots.{is_empty, map_stands, released_slots}
use Rattle.fabric_rule.proofs.segments.SegmentMapMapSteps.free.Goals as goal

pub word-word-requires : goal.word-word-requires
word-word-requires g c =
    let map = c.args.self.now in
    let key = map.table.now.table.shared.key in
    let lt : c.args.chunk < side_chunks key map.segments = is_inside (side_first key map.segments) (side_chunks key map.segments) c.args.chunk c.args.seat.now.seat.me.1 c.requires.held in
    omega (arith, lt, map.some.1)

pub release_bit-requires-clause-word : goal.release_bit-requires-clause-word
release_bit-requires-clause-word g c =
    let map = c.args.self.now in
    c.word-word.ensures ∙ ap (λ (m : ℕ). m + 16 * (c.args.chunk / 64 / 10) + c.args.chunk / 64 % 10) map.words_is.0 ∙ map_stands map.table.now.table.shared.key map.segments (c.args.chunk / 64)

pub release_bit-requires-clause-there : goal.release_bit-requires-clause-there
release_bit-requires-clause-there g c =
    let map = c.args.self.now in
    let key = map.table.now.table.shared.key in
    is_inside (side_first key map.segments) (side_chunks key map.segments) c.args.chunk c.args.seat.now.seat.me.1 c.requires.held

pub release_bit-requires-clause-empty : goal.release_bit-requires-clause-empty
release_bit-requires-clause-empty g c =
    let map = c.args.self.now in
    let key = map.table.now.table.shared.key in
    ap (λ m. content m.1 (chunk_in key map.segments c.args.chunk)) c.once.ensures.same
    ∙ is_empty key map.segments c.args.chunk c.args.seat.now.seat.me.1 c.once.ensures.once c.requires.held

pub returns-clause-view : goal.returns-clause-view
returns-clause-view g c =
    let told = c.release_bit.ensures.told in
    let map = c.args.self.now in
    let key = map.table.now.table.shared.key in
    let chunk : ℕ = c.args.chunk in
    let old = c.args.seat.now.seat.me in
    let lt : chunk < side_chunks key map.segments = is_inside (side_first key map.segments) (side_chunks key map.segments) chunk old.1 c.requires.held in
    let empty = is_empty key map.segments chunk old.1 c.once.ensures.once c.requires.held in
    ap₂ (λ a b. (a, b))
    (told.given ∙ ap (λ m. without_chunk key map.segments chunk m.0) c.once.ensures.same)
    (told.slots ∙ ap (λ m. but (chunk_in key map.segments chunk) m.1) c.once.ensures.same ∙ sym (released_slots key map.segments chunk old.1 lt empty))

pub overflow_cast-chunk : goal.overflow_cast-chunk
overflow_cast-chunk g c =
    let map = c.args.self.now in
    let key = map.table.now.table.shared.key in
    let lt : c.args.chunk < side_chunks key map.segments = is_inside (side_first key map.segments) (side_chunks key map.segments) c.args.chunk c.args.seat.now.seat.me.1 c.requires.held in
    omega (arith, lt, map.some.1)
