use Rattle.std.proofs.Common.{◌≡◌, ◌+◌, ◌-◌, length, refl, sym, ◌∙◌, eq-eqb, arith}
use Rattle.std.proofs.lemmas.Bool.{eqb-true}
use Rattle.std.specs.Arc.{arc_value}
use Rattle.request_context.specs.Cutting.{part_count}
use Rattle.request_context.proofs.Left.{first_left, left_count}
use Rattle.request_context.proofs.reply_parts.Parts.next.Goals as goal

pub invariant_of-self-in-Some : goal.invariant_of-self-in-Some
invariant_of-self-in-Some g c =
    (first_left g.H.Handlers.reply_of (arc_value c.self.inside.asked) c.self.inside.next _ _ c.in-Some.pieces c.self.invariant c.in-Some.ensures.items).left

pub returns-in-Some : goal.returns-in-Some
returns-in-Some g c =
    let reply_of = g.H.Handlers.reply_of in
    let asked = arc_value c.self.inside.asked in
    let next = c.self.inside.next in
    let first = first_left reply_of asked next _ _ c.in-Some.pieces c.self.invariant c.in-Some.ensures.items in
    let left : length c.pop_front.new.self.items ≡ part_count reply_of asked - (next + 1) = left_count reply_of asked (next + 1) _ first.left in
    rw (← c.self.view_is) (
      first.some,
      refl,
      (
        λ empty. omega (arith, eqb-true _ _ (sym c.is_empty.ensures ∙ empty), c.pop_front.new.self.ok.0, left, first.some),
        λ final. c.is_empty.ensures ∙ eq-eqb _ 0 (omega (arith, c.pop_front.new.self.ok.0, left, first.some, final)),
      ),
      first.parcels,
      refl,
    )
