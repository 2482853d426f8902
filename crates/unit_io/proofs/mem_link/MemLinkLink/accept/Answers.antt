use Rattle.std.proofs.Common.{◌≡◌, ◌+◌, ◌∙◌, Some, length, sym, ap, arith}
use Rattle.std.proofs.lemmas.Option.{same_Some}
use Rattle.unit_io.specs.MemLink.{IsFreshEvent, LinkState, numbers_below}
use Rattle.unit_io.proofs.LinkLemmas.{handed_more, tail_kept, tail_shorter}
use Rattle.unit_io.proofs.mem_link.MemLinkLink.accept.Goals as goal

pub invariant_of-self : goal.invariant_of-self
invariant_of-self c =
    let was = c.in-Some-Conn.ensures.items in
    let shorter : length c.self.inside.script.items ≡ length c.pop_front.new.self.items + 1 = tail_shorter _ _ _ was in
    (tail_kept IsFreshEvent _ _ _ was c.self.invariant.0, omega (arith, shorter, c.self.invariant.1))

pub invariant_of-self-in-Some-NotYet : goal.invariant_of-self-in-Some-NotYet
invariant_of-self-in-Some-NotYet c =
    let was = c.in-Some-NotYet.ensures.items in
    let shorter : length c.self.inside.script.items ≡ length c.pop_front.new.self.items + 1 = tail_shorter _ _ _ was in
    (tail_kept IsFreshEvent _ _ _ was c.self.invariant.0, omega (arith, shorter, c.self.invariant.1))

pub invariant_of-self-in-Some-Fail : goal.invariant_of-self-in-Some-Fail
invariant_of-self-in-Some-Fail c =
    let was = c.in-Some-Fail.ensures.items in
    let shorter : length c.self.inside.script.items ≡ length c.pop_front.new.self.items + 1 = tail_shorter _ _ _ was in
    (tail_kept IsFreshEvent _ _ _ was c.self.invariant.0, omega (arith, shorter, c.self.invariant.1))

pub returns-in-Some-Conn-clause-conn : goal.returns-in-Some-Conn-clause-conn
returns-in-Some-Conn-clause-conn c conn same contents told =
    let number : conn.number ≡ c.self.inside.handed = cc (same, c.numbered.ensures) in
    let handed : c.args.self.now.handed ≡ c.self.inside.handed = ap (λ (l : LinkState). l.handed) (sym c.self.view_is) in
    ap Some (handed_more c.self.inside.handed conn.number contents (ap numbers_below (sym handed) ∙ same_Some _ contents told) number)
