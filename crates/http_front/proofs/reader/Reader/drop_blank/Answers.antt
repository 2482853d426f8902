use Rattle.std.proofs.Common.{◌≡◌, ◌+◌, sym, subst, List, ℕ, drop, arith, length-drop, drop-drop}
use Rattle.http_front.specs.declared.search.Search.{Search}
use Rattle.http_front.specs.declared.progress.Progress.{Progress}
use Rattle.http_front.specs.Kept.{Kept, HasRead}
use Rattle.http_front.specs.Inside.{stage_of, mark_of, kept_of}
use Rattle.http_front.specs.Progress.{Knows, IsSearched}
use Rattle.http_front.proofs.BlankLemmas.{from_blank, search_behind}
use Rattle.http_front.proofs.KeptLemmas.{head_kept, has_read_blank}
use Rattle.http_front.proofs.SearchLemmas.{within_searched}
use Rattle.http_front.proofs.reader.Reader.drop_blank.Goals as goal

pub overflow_add-self : goal.overflow_add-self
overflow_add-self c =
    let i = c.self.inside in
    let bytes = drop i.used i.bytes.items in
    let known = subst (λ (p : Progress). Knows p bytes) c.in-Head.is c.self.invariant.knows in
    let within = within_searched c.in-Head.search bytes known in
    omega (arith, within.0, within.1, within.2, c.self.invariant.used, length-drop i.used i.bytes.items, c.self.ranges)

pub invariant_of-self : goal.invariant_of-self
invariant_of-self c =
    let i = c.self.inside in
    let bytes = drop i.used i.bytes.items in
    let known = subst (λ (p : Progress). Knows p bytes) c.in-Head.is c.self.invariant.knows in
    let within = within_searched c.in-Head.search bytes known in
    let behind : drop c.in-Head.search.blank bytes ≡ drop (i.used + c.in-Head.search.blank) i.bytes.items = drop-drop c.in-Head.search.blank i.used i.bytes.items in
    record {
      used = omega (arith, within.0, within.1, within.2, c.self.invariant.used, length-drop i.used i.bytes.items);
      knows =
          subst (λ (s : Search). IsSearched s (drop (i.used + c.in-Head.search.blank) i.bytes.items)) (sym c.from_blank.ensures)
          (subst (λ (ys : List ℕ). IsSearched (from_blank c.in-Head.search) ys) behind (search_behind c.in-Head.search bytes known));
      mark_used = c.self.invariant.mark_used;
      mark_len = c.self.invariant.mark_len;
      there = c.self.invariant.there;
    }

pub returns-in-Head-clause-read : goal.returns-in-Head-clause-read
returns-in-Head-clause-read c r is =
    let i = c.self.inside in
    let bytes = drop i.used i.bytes.items in
    let mark = mark_of i.bytes.items i.arriving i.mark in
    let known = subst (λ (p : Progress). Knows p bytes) c.in-Head.is c.self.invariant.knows in
    let behind : drop c.in-Head.search.blank bytes ≡ drop (i.used + c.in-Head.search.blank) i.bytes.items = drop-drop c.in-Head.search.blank i.used i.bytes.items in
    let read : HasRead r (head_kept mark i.from i.to bytes i.ended i.limit i.is_told) =
    subst (λ (p : Progress). HasRead r (record (kept_of i) { stage = stage_of p i.arriving })) c.in-Head.is (subst (λ (k : Kept). HasRead r k) (sym c.self.view_is) is) in
    subst (λ (ys : List ℕ). HasRead r (head_kept mark i.from i.to ys i.ended i.limit i.is_told)) behind
    (has_read_blank c.in-Head.search mark i.from i.to bytes i.ended i.limit i.is_told r known read)
