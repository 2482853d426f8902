use Rattle.std.proofs.Common.{◌≤◌, sym, subst, ℕ, List, length, drop, arith, length-take-le}
use Rattle.http_front.proofs.SearchLemmas.{search_start}
use Rattle.http_front.proofs.reader.Reader.go_back.Goals as goal

pub invariant_of-self : goal.invariant_of-self
invariant_of-self c =
    let i = c.self.inside in
    let items = sym c.truncate.ensures.items in
    let size = length-take-le i.mark.len i.bytes.items c.self.invariant.mark_len in
    record {
      used = subst (λ (ys : List ℕ). i.mark.used ≤ length ys) items (omega (arith, size, c.self.invariant.mark_used));
      knows = search_start (drop i.mark.used c.truncate.new.self.items);
      mark_used = c.self.invariant.mark_used;
      mark_len = subst (λ (ys : List ℕ). i.mark.len ≤ length ys) items (omega (arith, size));
      there = c.self.invariant.there;
    }

pub invariant_of-self-in-None-self-2 : goal.invariant_of-self-in-None-self-2
invariant_of-self-in-None-self-2 c =
    let i = c.self.inside in
    let items = sym c.truncate.ensures.items in
    let size = length-take-le i.mark.len i.bytes.items c.self.invariant.mark_len in
    record {
      used = subst (λ (ys : List ℕ). i.mark.used ≤ length ys) items (omega (arith, size, c.self.invariant.mark_used));
      knows = search_start (drop i.mark.used c.truncate.new.self.items);
      mark_used = c.self.invariant.mark_used;
      mark_len = subst (λ (ys : List ℕ). i.mark.len ≤ length ys) items (omega (arith, size));
      there = c.self.invariant.there;
    }
