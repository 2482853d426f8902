use Rattle.std.proofs.Common.{◌≢◌, ◌∙◌, ◌==◌, ◌&&◌, nat_lt, Bool, sym, ap, arith}
use Rattle.std.specs.List.{list_any}
use Rattle.trace_check.specs.declared.items.Hand.{Hand}
use Rattle.trace_check.proofs.Held.{some_counted}
use Rattle.trace_check.proofs.items.Items.some_at.Goals as goal
use Rattle.unit_model.specs.Core.{whereabouts_code}
use Rattle.unit_model.specs.declared.machine.Item.{Item}

pub returns : goal.returns
returns c =
    let hand : Hand = record { code = c.args.code; tag = c.args.tag } in
    let test : Item → Bool = λ item. whereabouts_code item.whereabouts == c.args.code && item.tag == c.args.tag in
    let ne : c.args.code ≢ 0 = omega (arith, c.requires) in
    ap (nat_lt 0) (c.count.ensures ∙ c.self.invariant hand ne) ∙ sym (some_counted test c.self.inside.values.items) ∙ ap (list_any test) c.self.view_is
