use Rattle.std.proofs.Common.{◌∙◌, ◌+◌, refl, ap, sym, length, drop, arith, length-drop}
use Rattle.http_front.specs.Kept.{Kept, kept_next, told_in}
use Rattle.http_front.specs.Inside.{kept_of}
use Rattle.http_front.proofs.ReaderLemmas.{step_request}
use Rattle.http_front.proofs.SearchLemmas.{search_start}
use Rattle.http_front.proofs.reader.Reader.turn.Goals as goal

pub overflow_add-self : goal.overflow_add-self
overflow_add-self c =
    let i = c.self.inside in
    omega (arith, c.requires.fits, ap (λ (k : Kept). length k.bytes) c.self.view_is, c.self.invariant.used, length-drop i.used i.bytes.items, c.self.ranges)

pub invariant_of-self-then-is_request : goal.invariant_of-self-then-is_request
invariant_of-self-then-is_request c =
    let i = c.self.inside in
    record {
      used = omega (arith, c.requires.fits, ap (λ (k : Kept). length k.bytes) c.self.view_is, c.self.invariant.used, length-drop i.used i.bytes.items);
      knows = search_start (drop (i.used + c.args.told.used) i.bytes.items);
      mark_used = c.self.invariant.mark_used;
      mark_len = c.self.invariant.mark_len;
      there = c.self.invariant.there;
    }

pub returns-then-is_request-clause-value : goal.returns-then-is_request-clause-value
returns-then-is_request-clause-value c =
    let i = c.self.inside in
    let told = c.requires.told ∙ ap (λ (q : Kept). told_in q c.args.max_body) (sym c.self.view_is) in
    step_request (kept_of i) i.bytes.items i.used c.args.max_body c.args.told refl told (sym c.asks_now.ensures ∙ c.if-asks_now.false) (sym c.is_request.ensures ∙ c.if-is_request.true)
    ∙ ap (λ (q : Kept). kept_next q c.args.max_body) c.self.view_is
