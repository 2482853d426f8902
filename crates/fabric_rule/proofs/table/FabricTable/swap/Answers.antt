use Rattle.std.proofs.Common.{◌∙◌, ◌∷◌, refl, sym, ap}
use Rattle.atomic_table.specs.Table.{rest}
use Rattle.carried_slots.specs.Carried.{content}
use Rattle.carried_slots.proofs.Lookups.{content_some, content_here, front_is, front_same}
use Rattle.fabric_rule.proofs.SlotLoads.{other_content}
use Rattle.fabric_rule.proofs.table.FabricTable.swap.Goals as goal

pub exchange-requires : goal.exchange-requires
exchange-requires g c =
    let old = c.args.seat.now.seat.me.1 in
    let there = content_some old c.args.chunk c.requires.held in
    let now = c.bring.ensures.told.slots ∙ front_is old c.args.chunk there.0 there.1 in
    (c.bring.ensures.own.0 ∙ c.requires.own, (there.0, now ∙ ap (λ l. (c.args.chunk, there.0) ∷ l) (sym (ap rest now))))

pub invariant_of-seat : goal.invariant_of-seat
invariant_of-seat g c = record {
  carries = other_content c.bring.new.seat.seat.me c.exchange.new.seat.me c.args.chunk c.exchange.result c.args.new c.bring.new.seat.carries c.exchange.ensures.2 c.exchange.ensures.3;
}

pub returns-clause-view : goal.returns-clause-view
returns-clause-view g c = ap (λ m. m.0) c.exchange.ensures.3 ∙ c.bring.ensures.told.view

pub returns-clause-was : goal.returns-clause-was
returns-clause-was g c =
    let old = c.args.seat.now.seat.me.1 in
    sym (front_same old c.args.chunk c.args.chunk)
    ∙ ap (λ l. content l c.args.chunk) (sym c.bring.ensures.told.slots ∙ c.exchange.ensures.2)
    ∙ content_here (c.args.chunk, c.exchange.result) (rest c.bring.new.seat.seat.me.1) c.args.chunk refl

pub returns-clause-slots : goal.returns-clause-slots
returns-clause-slots g c =
    let old = c.args.seat.now.seat.me.1 in
    let there = content_some old c.args.chunk c.requires.held in
    let now = c.bring.ensures.told.slots ∙ front_is old c.args.chunk there.0 there.1 in
    ap (λ m. m.1) c.exchange.ensures.3 ∙ ap (λ l. (c.args.chunk, c.args.new) ∷ l) (ap rest now)

pub returns-clause-quiet : goal.returns-clause-quiet
returns-clause-quiet g c = c.bring.ensures.told.quiet
