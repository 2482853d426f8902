use Rattle.std.proofs.Common.{List, Some, map, sym, ap, ◌∙◌}
use Rattle.conf_tree.specs.View.{data_of, members_of, named, value_at}
use Rattle.conf_tree.specs.declared.tree.Member.{Member}
use Rattle.conf_tree.proofs.Listed.{value_at_within, value_at_past}
use Rattle.conf_tree.proofs.tree.TreeMap.value.Goals as goal

pub returns-in-Some : goal.returns-in-Some
returns-in-Some c =
    let h = c.in-Some.ensures.lookup in
    ap Some (ap (λ (m : Member). data_of m.value) h.1)
    ∙ sym (value_at_within c.deref.result.now c.args.index c.in-Some.member.now h.3.0)
    ∙ ap (λ (ms : List Member). value_at c.args.index (members_of (map named ms))) c.deref.ensures.value

pub returns-in-None : goal.returns-in-None
returns-in-None c =
    sym (value_at_past c.deref.result.now c.args.index c.in-None.ensures.lookup.3)
    ∙ ap (λ (ms : List Member). value_at c.args.index (members_of (map named ms))) c.deref.ensures.value
