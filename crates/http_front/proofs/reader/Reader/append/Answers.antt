use Rattle.std.proofs.Common.{◌≤◌, ◌∙◌, ◌++◌, ℕ, List, length, drop, ap, sym, subst}
use Rattle.std.proofs.lemmas.List.{drop-append-le}
use Rattle.std.specs.Result.{is_ok}
use Rattle.http_front.specs.Kept.{Kept, HasRead, fed, marked}
use Rattle.http_front.specs.Inside.{mark_of, kept_of}
use Rattle.http_front.specs.Progress.{Knows}
use Rattle.http_front.specs.Reading.{Reading}
use Rattle.http_front.proofs.KeptLemmas.{has_read_fed, fed_ok, fed_err, fed_within, marked_fed, remarked}
use Rattle.http_front.proofs.ProgressLemmas.{knows_fed}
use Rattle.http_front.proofs.reader.Reader.append.Goals as goal

pub invariant_of-self : goal.invariant_of-self
invariant_of-self c =
    let i = c.self.inside in
    let is_fed = is_ok c.extend_from_slice.result in
    let items = sym c.extend_from_slice.ensures.items in
    let known = knows_fed i.progress i.bytes.items c.args.piece.now i.used is_fed c.self.invariant.used c.self.invariant.knows in
    record {
      used = subst (λ (ys : List ℕ). i.used ≤ length ys) items known.0;
      knows = subst (λ (ys : List ℕ). Knows i.progress (drop i.used ys)) items known.1;
      mark_used = c.self.invariant.mark_used;
      mark_len = subst (λ (ys : List ℕ). i.mark.len ≤ length ys) items (fed_within is_fed i.bytes.items c.args.piece.now i.mark.len c.self.invariant.mark_len);
      there = c.self.invariant.there;
    }

pub returns-clause-ok : goal.returns-clause-ok
returns-clause-ok c =
    let i = c.self.inside in
    let k = kept_of i in
    let items = i.bytes.items in
    let piece = c.args.piece.now in
    fed_ok c.extend_from_slice.result items piece c.extend_from_slice.new.self.items
    (λ after. (r : Reading) → HasRead r c.args.self.now → HasRead (fed r piece) (record k { bytes = drop i.used after; mark = mark_of after i.arriving i.mark }))
    c.extend_from_slice.ensures.items
    (λ r is. subst (λ (ys : List ℕ). HasRead (fed r piece) (record k { bytes = ys; mark = mark_of (items ++ piece) i.arriving i.mark })) (sym (drop-append-le i.used items piece c.self.invariant.used))
    (remarked (fed r piece) (record k { bytes = k.bytes ++ piece }) (mark_of (items ++ piece) i.arriving i.mark)
    (has_read_fed r k piece (subst (λ (q : Kept). HasRead r q) (sym c.self.view_is) is))))

pub returns-clause-err : goal.returns-clause-err
returns-clause-err c =
    let i = c.self.inside in
    fed_err c.extend_from_slice.result i.bytes.items c.args.piece.now c.extend_from_slice.new.self.items
    (λ after. (r : Reading) → HasRead r c.args.self.now → HasRead r (record (kept_of i) { bytes = drop i.used after; mark = mark_of after i.arriving i.mark }))
    c.extend_from_slice.ensures.items
    (λ r is. subst (λ (k : Kept). HasRead r k) (sym c.self.view_is) is)

pub returns-clause-marked : goal.returns-clause-marked
returns-clause-marked c =
    let i = c.self.inside in
    ap (λ (bytes : List ℕ). marked (record (kept_of i) { mark = mark_of bytes i.arriving i.mark })) c.extend_from_slice.ensures.items
    ∙ marked_fed (is_ok c.extend_from_slice.result) i.bytes.items c.args.piece.now i.arriving i.mark c.self.invariant.mark_len (kept_of i)
    ∙ ap marked c.self.view_is
