use Rattle.std.proofs.Common.{ℕ, ◌+◌, ◌*◌, ◌<◌, ◌∙◌, ap, subst, sym, arith}
use Rattle.chunk_map.specs.Gains.{given_back}
use Rattle.unit_model.specs.Runs.{chunks_for}
use Rattle.unit_model.specs.Shapes.{IsValid}
use Rattle.unit_model.specs.Weights.{is_number}
use Rattle.request_context.specs.declared.piece.Parcel.{Parcel}
use Rattle.fabric_rule.specs.SegmentMaps.{did, side_weight}
use Rattle.fabric_rule.proofs.SideSlots.{held_within, released, released_only, sides_are}
use Rattle.fabric_rule.proofs.table.FabricTable.release.Goals as goal

pub give_back-requires-clause-held : goal.give_back-requires-clause-held
give_back-requires-clause-held g c i lt =
    let key = c.args.self.now.table.shared.key in
    let segments = c.args.segments in
    let run : ℕ = 640 * c.args.run.segment + c.args.run.chunk in
    subst (λ m. 0 < side_weight key segments (is_number (run + i)) m.1) (sym c.once.ensures.same)
    (held_within (Parcel g.row.H.Denot) key segments run (chunks_for c.args.run.size) c.args.seat.now.seat.me.1 c.requires.within c.requires.empty i (omega (arith, lt, c.chunk_count.ensures)))

pub give_back-requires-clause-within : goal.give_back-requires-clause-within
give_back-requires-clause-within g c some =
    let key = c.args.self.now.table.shared.key in
    omega (arith, c.requires.within, c.chunk_count.ensures, (sides_are key c.args.segments (subst IsValid c.requires.laid c.args.layout.now.valid)).1)

pub returns-clause-view : goal.returns-clause-view
returns-clause-view g c =
    let key = c.args.self.now.table.shared.key in
    let me = c.args.seat.now.seat.me in
    let run : ℕ = 640 * c.args.run.segment + c.args.run.chunk in
    let n : ℕ = chunks_for c.args.run.size in
    let is = c.give_back.ensures.view ∙ ap (λ m. given_back (did key c.args.segments) run m c.once.new.seat.seat.me) c.chunk_count.ensures ∙ ap (given_back (did key c.args.segments) run n) c.once.ensures.same in
    released_only (Parcel g.row.H.Denot) key c.args.segments me c.give_back.new.seat.seat.me run n is

pub returns-clause-gone : goal.returns-clause-gone
returns-clause-gone g c =
    let key = c.args.self.now.table.shared.key in
    let me = c.args.seat.now.seat.me in
    let run : ℕ = 640 * c.args.run.segment + c.args.run.chunk in
    let n : ℕ = chunks_for c.args.run.size in
    let is = c.give_back.ensures.view ∙ ap (λ m. given_back (did key c.args.segments) run m c.once.new.seat.seat.me) c.chunk_count.ensures ∙ ap (given_back (did key c.args.segments) run n) c.once.ensures.same in
    (released (Parcel g.row.H.Denot) key c.args.segments me c.give_back.new.seat.seat.me c.once.ensures.once run n c.requires.within is c.requires.empty).0

pub returns-clause-elsewhere : goal.returns-clause-elsewhere
returns-clause-elsewhere g c =
    let key = c.args.self.now.table.shared.key in
    let me = c.args.seat.now.seat.me in
    let run : ℕ = 640 * c.args.run.segment + c.args.run.chunk in
    let n : ℕ = chunks_for c.args.run.size in
    let is = c.give_back.ensures.view ∙ ap (λ m. given_back (did key c.args.segments) run m c.once.new.seat.seat.me) c.chunk_count.ensures ∙ ap (given_back (did key c.args.segments) run n) c.once.ensures.same in
    (released (Parcel g.row.H.Denot) key c.args.segments me c.give_back.new.seat.seat.me c.once.ensures.once run n c.requires.within is c.requires.empty).1
