use Rattle.std.proofs.Common.{◌∙◌, sym, ap, subst, ℕ, List, drop, Some, drop-drop}
use Rattle.http_front.specs.declared.next_unit.Ahead.{Ahead}
use Rattle.http_front.specs.Arriving.{request_with}
use Rattle.http_front.specs.Kept.{content, Kept, HasRead, Enters}
use Rattle.http_front.specs.Inside.{mark_of, kept_of}
use Rattle.http_front.proofs.SearchLemmas.{search_start}
use Rattle.http_front.proofs.StageLemmas.{has_read_opens}
use Rattle.http_front.proofs.reader.Reader.enter.Goals as goal

pub invariant_of-self-else-is_none : goal.invariant_of-self-else-is_none
invariant_of-self-else-is_none c = record {
  used = c.self.invariant.used;
  knows = search_start (drop c.self.inside.used c.self.inside.bytes.items);
  mark_used = c.self.invariant.mark_used;
  mark_len = c.self.invariant.mark_len;
  there = c.self.invariant.there;
}

pub returns-then-is_none-clause-read : goal.returns-then-is_none-clause-read
returns-then-is_none-clause-read c r is =
    let i = c.self.inside in
    let k = kept_of i in
    let a = c.in-Content.arriving in
    let len = c.in-Content.len in
    let mark = mark_of i.bytes.items (Some a) i.mark in
    let enters = subst (λ (x : Ahead). Enters x k) c.in-Content.is (subst (λ (q : Kept). Enters c.args.ahead q) (sym c.self.view_is) c.requires.enters) in
    let at_head = ap (λ (q : Kept). q.stage) c.self.view_is ∙ c.requires.head in
    subst (λ (ys : List ℕ). HasRead r (record k { bytes = ys; stage = content (request_with a) a.framing; mark = mark })) (drop-drop len i.used i.bytes.items)
    (has_read_opens r k mark len enters.0 a at_head enters.1 enters.2 (subst (λ (q : Kept). HasRead r q) (sym c.self.view_is) is))
